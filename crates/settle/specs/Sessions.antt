-- A session: a pile since it was started or last resumed, and what its calls came to.
use Rattle.std.specs.Prelude.{cond, [], ◌∷◌, ℕ, ◌+◌}
use Rattle.level.specs.Level.{Call, Answer, Rules, clocks, topped}
use Rattle.level.specs.Runs.{Log, logged, writes}

-- the state of the pile, the clocks that the calls have cost, and how many of them were accepted writes
pub record Session (S : Type 0) : Type 0 where
  pub pile : S
  pub clocks : ℕ
  pub writes : ℕ

abbrev pub begun : {S : Type 0} → S → Session S
begun s = record { pile = s; clocks = 0; writes = 0 }

-- 1 for an accepted write, and 0 for any other call
abbrev pub accepted_write : Call → Answer → ℕ
accepted_write c r = cond (writes c r) 1 0

abbrev pub session_step : {S : Type 0} → Rules S → Session S → Call → Session S
session_step R q c =
    let o = R.step q.pile c in
    record { pile = o.next; clocks = topped (q.clocks + clocks o.answer); writes = topped (q.writes + accepted_write c o.answer) }

-- From the session q a caller has put the calls of the log, and the session is the last one now. Each call is free, so it may depend on the answers so far.
pub data Calls {S : Type 0} (R : Rules S) (q : Session S) : Log → Session S → Type 0 where
  none : Calls R q [] q
  more : {log : Log} {p : Session S} → Calls R q log p → (c : Call) → Calls R q (logged c (R.step p.pile c).answer log) (session_step R p c)

-- the true clocks of all calls of a log, and how many of them were accepted writes
abbrev pub all_clocks : Log → ℕ
all_clocks [] = 0
all_clocks (x ∷ older) = clocks x.answer + all_clocks older

abbrev pub all_writes : Log → ℕ
all_writes [] = 0
all_writes (x ∷ older) = accepted_write x.call x.answer + all_writes older

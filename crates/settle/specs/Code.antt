-- Running and settled piles in the code, as sessions.
use Rattle.std.specs.Prelude.{◌≡◌, Result}
use Rattle.words.specs.declared.refusal.CallRefusal.{CallRefusal}
use Rattle.level.specs.declared.level.Done.{Done}
use Rattle.level.specs.declared.level.Level.{Ghosts}
use Rattle.level.specs.Level.{Call, capped}
use Rattle.level.specs.Level.Call.{return_all}
use Rattle.level.specs.Told.{reported}
use Rattle.settle.specs.declared.account.Account.{Account}
use Rattle.settle.specs.declared.running.Running.{Running}
use Rattle.settle.specs.declared.settled.Settled.{Settled}
use Rattle.settle.specs.Sessions.{Session, session_step}

module _ {L : Type 0} (level : Ghosts L) where
  abbrev pub session : Running L → Session level.State
  session r = record { pile = level.state r.pile; clocks = r.account.clocks; writes = r.account.writes }

  -- A call took the run from q to r. The lent memory is the same.
  pub record Steps (q : Running L) (c : Call) (r : Running L) : Type 0 where
    pub session : session r ≡ session_step level.rules (session q) c
    pub lent : level.lent r.pile ≡ level.lent q.pile

  -- A call took the run from q to r, and `told` is what the code tells of its answer.
  pub record Takes (q : Running L) (c : Call) (told : Result Done CallRefusal) (r : Running L) : Type 0 where
    pub answer : reported told ≡ capped (level.rules.step (level.state q.pile) c).answer
    pub steps : Steps q c r

  -- A run was settled: a last full return, and its counts with that return. The lent memory is the same.
  pub record Settles (q : Running L) (r : Settled L) (account : Account) : Type 0 where
    pub pile : level.state r.pile ≡ (session_step level.rules (session q) return_all).pile
    pub clocks : account.clocks ≡ (session_step level.rules (session q) return_all).clocks
    pub writes : account.writes ≡ (session_step level.rules (session q) return_all).writes
    pub lent : level.lent r.pile ≡ level.lent q.pile

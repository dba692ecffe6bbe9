-- Runs of a level: the calls put to it with their answers, and what follows from them.
use Rattle.std.specs.Prelude.{◌≡◌, ℕ, suc, ◌<◌, ◌≤◌, Bool, true, false, cond, ◌&&◌, List, [], ◌∷◌, ◌++◌, length, ◌==◌, slice_index}
use Rattle.level.specs.Level.{Call, Answer, Outcome, Rules, address, written, taken, block}
use Rattle.level.specs.Level.Call.{read, write, return_block, return_all}

-- ---- runs

pub record Exchange : Type 0 where
  pub call : Call
  pub answer : Answer

-- the calls put to a level with their answers, the newest first
abbrev pub Log : Type 0
Log = List Exchange

-- a log with one call more
abbrev pub logged : Call → Answer → Log → Log
logged c r log = record { call = c; answer = r } ∷ log

-- From the state s a caller has put the calls of the log, and t is the state now. Each call is free, so it may depend on the answers so far.
pub data Run {S : Type 0} (R : Rules S) (s : S) : Log → S → Type 0 where
  begun : Run R s [] s
  called : {log : Log} {t : S} → Run R s log t → (c : Call) → Run R s (logged c (R.step t c).answer log) (R.step t c).next

-- What a layer does to the level below in any one call is itself a run of that level.
abbrev pub RunsBelow : {S T : Type 0} → Rules S → Rules T → (T → S) → Type 0
RunsBelow {S} {T} R layer below = (t : T) (c : Call) → (calls : Log) × Run R (below t) calls (below (layer.step t c).next)

-- ---- what a log says

-- an accepted write
abbrev pub writes : Call → Answer → Bool
writes (read a) r = false
writes (write a v) r = taken r
writes (return_block a) r = false
writes return_all r = false

-- an accepted return that covers the address b
abbrev pub Returned : Call → Answer → ℕ → Type 0
Returned (read a) r b = ⊥
Returned (write a v) r b = ⊥
Returned (return_block a) r b = (taken r ≡ true) × (block a ≡ block b)
Returned return_all r b = Unit {0}

-- the value last accepted for the address a, or its first value where there was none
abbrev pub last_accepted : Log → ℕ → ℕ → ℕ
last_accepted [] a first = first
last_accepted (x ∷ older) a first = cond (writes x.call x.answer && address x.call == a) (written x.call) (last_accepted older a first)

-- the history of the byte i of the lowest memory: item 0 is its first value, and each accepted write to the address whose home it is appends its value
abbrev pub history : (ℕ → ℕ) → List ℕ → Log → ℕ → List ℕ
history home first [] i = slice_index first i ∷ []
history home first (x ∷ older) i =
    let before = history home first older i in
    cond (writes x.call x.answer && home (address x.call) == i) (before ++ (written x.call ∷ [])) before

-- ---- no byte of the lowest memory goes back

-- each byte is item n of its history
pub record Placed (home : ℕ → ℕ) (first : List ℕ) (log : Log) (now : List ℕ) (n : ℕ → ℕ) : Type 0 where
  pub as_long : length now ≡ length first
  pub within : (i : ℕ) → i < length first → n i < length (history home first log i)
  pub item : (i : ℕ) → i < length first → slice_index now i ≡ slice_index (history home first log i) (n i)

-- From item m to item n, where the call c of a run from s had the outcome o: no byte falls back, and one that an accepted return covers is at its last item.
pub record Onward {S : Type 0} (R : Rules S) (s : S) (log : Log) (c : Call) (o : Outcome S) (m n : ℕ → ℕ) : Type 0 where
  pub rises : (i : ℕ) → m i ≤ n i
  pub placed : Placed (R.home s) (R.low s) (logged c o.answer log) (R.low o.next) n
  pub last : (a : ℕ) → a < R.size s → Returned c o.answer a → suc (n (R.home s a)) ≡ length (history (R.home s) (R.low s) (logged c o.answer log) (R.home s a))

-- from the making on, for an n that is chosen anew at each call
abbrev pub NeverBack : {S : Type 0} {R : Rules S} {s : S} {log : Log} {t : S} → Run R s log t → (ℕ → ℕ) → Type 0
NeverBack {S} {R} {s} (begun) n = Placed (R.home s) (R.low s) [] (R.low s) n
NeverBack {S} {R} {s} (called {log = log} {t = t} r c) n = (m : ℕ → ℕ) × NeverBack r m × Onward R s log c (R.step t c) m n

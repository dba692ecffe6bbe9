-- What running and settling promise, of any level.
use Rattle.std.specs.Prelude.{◌≡◌, ℕ, ◌<◌}
use Rattle.level.specs.Level.{Rules, value, topped}
use Rattle.level.specs.Level.Call.{read, return_all}
use Rattle.level.specs.Runs.{Log, Run, last_accepted}
use Rattle.level.specs.Meaning.{Accepts}
use Rattle.level.specs.Promise.{home_byte}
use Rattle.settle.specs.Sessions.{Session, Calls, begun, all_clocks, all_writes}

module _ {S : Type 0} (R : Rules S) where
  -- The two counts tell the calls since starting, whatever the calls were, and the calls are a run of the pile.
  pub record Counts : Type 0 where
    pub run : (q p : Session S) (log : Log) → Calls R q log p → Run R q.pile log p.pile
    pub clocks : (s : S) (p : Session S) (log : Log) → Calls R (begun s) log p → p.clocks ≡ topped (all_clocks log)
    pub writes : (s : S) (p : Session S) (log : Log) → Calls R (begun s) log p → p.writes ≡ topped (all_writes log)

  -- u is what a pile in the state t comes to by a full return and then by reads alone, which may depend on the answers so far
  pub data Resting (t : S) : S → Type 0 where
    returned : Resting t (R.step t return_all).next
    looked : {u : S} → Resting t u → (a : ℕ) → Resting t (R.step u (read a)).next

  -- The pile was made as s and rests at u, and the log is that of the calls before it was settled. Of the address a:
  pub record RestsAt (s u : S) (log : Log) (a : ℕ) : Type 0 where
    -- its home byte is the byte seen
    pub home : home_byte R s (R.low u) a ≡ R.seen u a
    -- and that is the value last accepted for it, or its first value
    pub seen : R.seen u a ≡ last_accepted log a (home_byte R s (R.low s) a)
    -- a read gives it
    pub read : Accepts R u (read a) → value (R.step u (read a)).answer ≡ R.seen u a

  -- as long as a pile is settled, whatever it was put through before
  abbrev pub Rests : Type 0
  Rests = (s t u : S) (log : Log) → R.fresh s → Run R s log t → Resting t u → (a : ℕ) → a < R.size s → RestsAt s u log a

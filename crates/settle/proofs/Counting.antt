-- The calls of a session are a run of its pile, and its two counts tell them.
use mathlib.Core.Path.{◌≡◌, refl}
use native.Mathlib.Omega.{arith}
use Rattle.level.specs.Level.{Rules, topped}
use Rattle.level.specs.Runs.{Log, Run}
use Rattle.level.specs.Runs.Run.{begun as still, called}
use Rattle.settle.specs.Sessions.{Session, Calls, begun, all_clocks, all_writes}
use Rattle.settle.specs.Sessions.Calls.{none, more}
use Rattle.settle.specs.Promise.{Counts}

module _ {S : Type 0} (R : Rules S) where
  calls_run : {q p : Session S} {log : Log} → Calls R q log p → Run R q.pile log p.pile
  calls_run none = still
  calls_run (more x c) = called (calls_run x) c

  calls_clocks : {s : S} {p : Session S} {log : Log} → Calls R (begun s) log p → p.clocks ≡ topped (all_clocks log)
  calls_clocks none = refl
  calls_clocks (more x c) = omega (arith, calls_clocks x)

  calls_writes : {s : S} {p : Session S} {log : Log} → Calls R (begun s) log p → p.writes ≡ topped (all_writes log)
  calls_writes none = refl
  calls_writes (more x c) = omega (arith, calls_writes x)

  pub counts : Counts R
  counts = record { run = λ q p log x. calls_run x; clocks = λ s p log x. calls_clocks x; writes = λ s p log x. calls_writes x }

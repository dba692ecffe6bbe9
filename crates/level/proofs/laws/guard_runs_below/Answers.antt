use Rattle.level.proofs.GuardMeaning.{guard_runs_below}
use Rattle.level.proofs.laws.guard_runs_below.Goals as goal

pub returns : goal.returns
returns g c = guard_runs_below g.L.Level.rules

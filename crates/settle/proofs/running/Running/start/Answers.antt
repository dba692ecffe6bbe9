use Rattle.settle.proofs.Counting.{counts}
use Rattle.settle.proofs.running.Running.start.Goals as goal

pub returns-clause-counts : goal.returns-clause-counts
returns-clause-counts g c = counts g.L.Level.rules

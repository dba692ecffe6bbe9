use Rattle.settle.proofs.Resting.{rests}
use Rattle.settle.proofs.running.Running.settle.Goals as goal

pub returns-clause-rests : goal.returns-clause-rests
returns-clause-rests g c = rests g.met.L.Level.meaning

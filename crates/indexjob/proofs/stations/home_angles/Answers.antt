use Rattle.std.proofs.Common.{rules}
use Rattle.indexjob.specs.Job.{origin}
use Rattle.indexjob.proofs.stations.home_angles.Goals as goal

pub returns : goal.returns
returns g c = λ k below. let made = c.from_fn.ensures.items.at k origin below in search rules

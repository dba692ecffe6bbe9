use Rattle.level.proofs.Promises.{promise}
use Rattle.level.proofs.laws.level_promise.Goals as goal

pub returns : goal.returns
returns g c = promise g.met.L.Level.meaning

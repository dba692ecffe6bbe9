use Rattle.pile.proofs.CacheMeaning.{cache_meaning}
use Rattle.pile.proofs.laws.cache_keeps_meaning.Goals as goal

pub returns : goal.returns
returns g c = cache_meaning g.L.Level.rules g.M.Mapping.shape g.P.Policy.orders g.met.L.Level.meaning g.met.M.Mapping.mapped g.met.P.Policy.ordered

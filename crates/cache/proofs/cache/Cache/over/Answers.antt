use Rattle.pile.proofs.Whole.{whole_promise}
use Rattle.cache.proofs.cache.Cache.over.Goals as goal

pub returns-clause-promise : goal.returns-clause-promise
returns-clause-promise g c = whole_promise g.met.L.Level.meaning g.met.M.Mapping.mapped g.met.P.Policy.ordered

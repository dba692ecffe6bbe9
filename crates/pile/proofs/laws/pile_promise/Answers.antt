use Rattle.pile.proofs.Whole.{whole_promise}
use Rattle.pile.proofs.laws.pile_promise.Goals as goal

pub returns : goal.returns
returns g c = whole_promise g.met.L.Level.meaning g.met.M.Mapping.mapped g.met.P.Policy.ordered

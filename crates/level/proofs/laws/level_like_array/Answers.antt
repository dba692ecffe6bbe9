use Rattle.level.proofs.Arrays.{like_array}
use Rattle.level.proofs.laws.level_like_array.Goals as goal

pub returns : goal.returns
returns g c = like_array g.met.L.Level.meaning

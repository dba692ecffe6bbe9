use Rattle.level.proofs.ModulesMeaning.{modules_meaning}
use Rattle.level.proofs.laws.modules_keep_meaning.Goals as goal

pub returns : goal.returns
returns c = modules_meaning

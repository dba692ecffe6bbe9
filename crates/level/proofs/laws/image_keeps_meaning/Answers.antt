use Rattle.level.proofs.ImageMeaning.{image_meaning}
use Rattle.level.proofs.laws.image_keeps_meaning.Goals as goal

pub returns : goal.returns
returns c = image_meaning

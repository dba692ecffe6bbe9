use Rattle.level.proofs.PlainMeaning.{plain_meaning}
use Rattle.level.proofs.laws.plain_keeps_meaning.Goals as goal

pub returns : goal.returns
returns c = plain_meaning

use Rattle.level.proofs.Checks.{memory_checks}
use Rattle.level.proofs.laws.memory_checks_tell.Goals as goal

pub returns : goal.returns
returns c = memory_checks

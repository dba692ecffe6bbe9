use Rattle.std.proofs.Common.{append_assoc}
use Rattle.indexrun.proofs.lines.request_line.Goals as goal

pub returns-in-Err : goal.returns-in-Err
returns-in-Err c = rw c.in-Err.is (simp append_assoc at c.format.ensures.ok)

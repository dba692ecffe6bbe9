use Rattle.level.proofs.Arrays.{like_array}
use Rattle.lists.proofs.runs.run_list.Goals as goal

pub returns-in_err-summary-clause-array : goal.returns-in_err-summary-clause-array
returns-in_err-summary-clause-array g c = like_array g.met.L.Level.meaning

pub returns-then-results-from-clause-array : goal.returns-then-results-from-clause-array
returns-then-results-from-clause-array g c = like_array g.met.L.Level.meaning

pub returns-clause-array : goal.returns-clause-array
returns-clause-array g c = like_array g.met.L.Level.meaning

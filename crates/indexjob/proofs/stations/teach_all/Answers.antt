use Rattle.std.proofs.Common.{rules, sym}
use Rattle.indexjob.proofs.Turns.{in_turn-none, in_turn-more}
use Rattle.indexjob.proofs.stations.teach_all.Goals as goal

pub loop-station-init : goal.loop-station-init
loop-station-init g c = record { next = sym (in_turn-none _ _); lent = search rules }

pub loop-station-preserved : goal.loop-station-preserved
loop-station-preserved g c = record { next = simp in_turn-more (search rules); lent = search rules }

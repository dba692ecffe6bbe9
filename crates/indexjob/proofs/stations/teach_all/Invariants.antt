use Rattle.std.proofs.Common.{◌≡◌}
use Rattle.indexjob.specs.Job.{after_teachings}
use Rattle.indexjob.proofs.stations.teach_all.Given as goal

abbrev pub invariant-loop-station : goal.invariant-loop-station
invariant-loop-station g l = record {
  next : g.L.Level.state l.running.pile ≡ after_teachings g.L.Level.rules (g.L.Level.state l.initial.running.pile) l.fn.angles l.station;
  lent : g.L.Level.lent l.running.pile ≡ g.L.Level.lent l.initial.running.pile;
}

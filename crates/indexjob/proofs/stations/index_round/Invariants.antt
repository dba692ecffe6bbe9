use Rattle.std.proofs.Common.{◌≡◌, ℕ, ◌+◌, ◌%◌, ◌<◌, ◌≤◌, length, get_or, take, sum_by}
use Rattle.level.specs.Level.{topped}
use Rattle.indexjob.specs.Job.{Reads, after_round, nowhere}
use Rattle.indexjob.proofs.stations.index_round.Given as goal

abbrev pub invariant-loop-station : goal.invariant-loop-station
invariant-loop-station g l =
    let s = g.L.Level.state l.initial.running.pile in
    record {
      long : length l.step-items ≡ 8;
      reads : (k : ℕ) → k < l.station → Reads g.L.Level.rules (after_round g.L.Level.rules s k) k ((k + 1) % 8) (get_or l.step-items k nowhere);
      clocks : topped l.running.account.clocks ≡ topped (l.initial.running.account.clocks + sum_by (λ step. step.clocks) (take l.station l.step-items));
      stops : 0 < l.station → l.running.account.clocks ≤ 4294967295;
      next : g.L.Level.state l.running.pile ≡ after_round g.L.Level.rules s l.station;
      lent : g.L.Level.lent l.running.pile ≡ g.L.Level.lent l.initial.running.pile;
    }

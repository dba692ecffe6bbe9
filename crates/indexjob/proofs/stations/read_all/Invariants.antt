use Rattle.std.proofs.Common.{◌≡◌, ℕ, ◌*◌, ◌<◌, length, get_or}
use Rattle.indexjob.specs.Job.{after_angles, angle_read, origin}
use Rattle.indexjob.proofs.stations.read_all.Given as goal

abbrev pub invariant-loop-station : goal.invariant-loop-station
invariant-loop-station g l =
    let s = g.L.Level.state l.initial.running.pile in
    record {
      long : length l.angle-items ≡ 8;
      angles : (k : ℕ) → k < l.station → (get_or l.angle-items k origin).tenths ≡ angle_read g.L.Level.rules (after_angles g.L.Level.rules s k) (16 * k);
      next : g.L.Level.state l.running.pile ≡ after_angles g.L.Level.rules s l.station;
      lent : g.L.Level.lent l.running.pile ≡ g.L.Level.lent l.initial.running.pile;
    }

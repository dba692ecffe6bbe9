use Rattle.std.proofs.Common.{◌≡◌, ◌*◌, rules, arith, sym, refl, length-set}
use Rattle.indexjob.specs.Job.{after_angles, angle_read, origin}
use Rattle.indexjob.proofs.Turns.{in_turn-none, in_turn-more, one_more}
use Rattle.indexjob.proofs.stations.read_all.Goals as goal

pub loop-station-init : goal.loop-station-init
loop-station-init g c = record { long = refl; angles = λ k below. absurd (omega arith); next = sym (in_turn-none _ _); lent = search rules }

pub loop-station-preserved : goal.loop-station-preserved
loop-station-preserved g c =
    let R = g.L.Level.rules in
    let s = g.L.Level.state c.args.running.now.pile in
    record {
      long = simp length-set c.loop-station.invariant.long;
      angles = one_more (λ k angle. angle.tenths ≡ angle_read R (after_angles R s k) (16 * k)) c.loop-station.angle-items c.loop-station.station c.in_ok-angle.field-0.0 origin (omega arith) c.loop-station.invariant.angles (search rules);
      next = simp in_turn-more (search rules);
      lent = search rules;
    }

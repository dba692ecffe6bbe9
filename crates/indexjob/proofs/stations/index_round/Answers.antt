use Rattle.std.proofs.Common.{◌+◌, ◌%◌, rules, arith, sym, refl, length-set}
use Rattle.indexjob.specs.Job.{Reads, after_round, nowhere}
use Rattle.indexjob.proofs.Turns.{in_turn-none, in_turn-more, one_more, sum_one_more}
use Rattle.indexjob.proofs.stations.index_round.Goals as goal

pub loop-station-init : goal.loop-station-init
loop-station-init g c = record { long = refl; reads = λ k below. absurd (omega arith); clocks = omega arith; stops = λ none. absurd (omega arith); next = sym (in_turn-none _ _); lent = search rules }

pub loop-station-preserved : goal.loop-station-preserved
loop-station-preserved g c =
    let R = g.L.Level.rules in
    let s = g.L.Level.state c.args.running.now.pile in
    record {
      long = simp length-set c.loop-station.invariant.long;
      reads = one_more (λ k step. Reads R (after_round R s k) k ((k + 1) % 8) step) c.loop-station.step-items c.loop-station.station c.in_ok-step.field-0 nowhere (omega arith) c.loop-station.invariant.reads (search rules);
      clocks = omega (arith, sum_one_more (λ step. step.clocks) c.loop-station.step-items c.loop-station.station c.in_ok-step.field-0 (omega arith), c.in_ok-step.ensures.clocks);
      stops = λ _. omega (arith, c.in_ok-step.ensures.clocks);
      next = simp in_turn-more (search rules);
      lent = search rules;
    }

use Rattle.std.proofs.Common.{◌≡◌, ◌-◌, ◌<◌, reverse}
use Rattle.ways.specs.Policies.{put_first}
use Rattle.ways.specs.Row.{ways_of}
use Rattle.ways.proofs.Turns.{carrying}
use Rattle.ways.proofs.policy.order.to_back.Given as goal

abbrev pub invariant-loop-i : goal.invariant-loop-i
invariant-loop-i l = record {
  below : l.carried < l.ways;
  turns : carrying (l.ways - l.i) l.carried l.way (reverse (ways_of l.ways l.order)) ≡ put_first l.way (reverse (ways_of l.ways l.initial.order));
}

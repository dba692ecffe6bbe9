use Rattle.std.proofs.Common.{◌≡◌, ◌<◌}
use Rattle.ways.specs.Policies.{put_first}
use Rattle.ways.specs.Row.{ways_of}
use Rattle.ways.proofs.Turns.{carrying}
use Rattle.ways.proofs.policy.order.to_front.Given as goal

abbrev pub invariant-loop-byte : goal.invariant-loop-byte
invariant-loop-byte l = record {
  below : l.carried < l.ways;
  turns : carrying l.byte-index l.carried l.way (ways_of l.ways l.order) ≡ put_first l.way (ways_of l.ways l.initial.order);
}

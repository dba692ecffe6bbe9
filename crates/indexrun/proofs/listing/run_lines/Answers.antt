use Rattle.std.proofs.Common.{suc, ◌++◌, arith, rules, string_bytes}
use Rattle.lists.specs.ListRuns.{asks}
use Rattle.indexrun.specs.Listing.{request_lines}
use Rattle.lists.proofs.Filled.{decodes}
use Rattle.indexrun.proofs.Printed.{one_line}
use Rattle.indexrun.proofs.listing.run_lines.Goals as goal

pub unwrap-request-requires : goal.unwrap-request-requires
unwrap-request-requires g c = decodes _ _ _ _ c.in-Some.ensures.steps.0 c.loop-word.invariant.legal c.decode.ensures.value

pub loop-word-preserved : goal.loop-word-preserved
loop-word-preserved g c = record {
  legal = λ k l. (rw c.in-Some.ensures.steps.0 at c.loop-word.invariant.legal) (suc k) (omega arith);
  state = search rules;
  lines = one_line g.L.Level.rules (g.L.Level.state c.loop-word.pile) (g.L.Level.state c.serve-result.new.pile) c.unwrap-request.result.operation (asks c.loop-word.word-iterator.rest.now) (asks c.next.new.self.rest.now) (string_bytes c.args.text.now ++ request_lines g.L.Level.rules (g.L.Level.state c.args.pile.now) 1 (asks c.args.list.now)) (string_bytes c.loop-word.text) (string_bytes c.push_str.new.self) (string_bytes c.in_ok-line.line) c.loop-word.word-iterator.place c.in-Some.word.place c.next.new.self.place (search rules) c.in-Some.ensures.steps.1 (omega (arith, c.in-Some.ensures.steps.2)) (search rules) c.serve-result.ensures.next (search rules) c.loop-word.invariant.lines;
  clocks = search rules;
  stops = omega arith;
}

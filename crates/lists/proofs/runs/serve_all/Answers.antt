use Rattle.std.proofs.Common.{◌∙◌, arith, rules}
use Rattle.lists.proofs.Filled.{turn, decodes}
use Rattle.lists.proofs.runs.serve_all.Goals as goal

pub unwrap-request-requires : goal.unwrap-request-requires
unwrap-request-requires g c = decodes _ _ _ _ c.in-Some.ensures.steps.0 c.loop-word.invariant.due.legal c.decode.ensures.value

pub loop-word-preserved : goal.loop-word-preserved
loop-word-preserved g c =
    let place = c.in-Some.ensures.steps.1 in
    let next = c.in-Some.ensures.steps.2 in
    record {
      due = turn _ _ _ _ _ _ c.unwrap-request.result.operation _ _ _ _ c.copy_from_slice.new.self _ _ _ _ c.in-Some.ensures.steps.0 (search rules) c.serve.ensures.next (search rules) (omega (arith, place)) (omega (arith, place)) (omega (arith, next)) (search rules) (search rules) c.loop-word.invariant.due;
      lent = c.serve.ensures.lent ∙ c.loop-word.invariant.lent;
    }

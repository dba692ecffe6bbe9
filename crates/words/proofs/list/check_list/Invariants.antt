use Rattle.std.proofs.Common.{◌≡◌, ◌+◌, ◌*◌, ◌≤◌, length}
use Rattle.words.specs.Lists.{words}
use Rattle.words.specs.Summaries.{judged}
use Rattle.words.proofs.list.check_list.Given as goal

abbrev pub invariant-loop-word : goal.invariant-loop-word
invariant-loop-word l =
    (judged 0 0 (words l.list) ≡ judged l.requests l.waits (words l.word-iterator.rest.now))
    × (l.word-iterator.place ≡ l.requests)
    × (4 * l.requests + length l.word-iterator.rest.now ≤ 16384)
    × (l.waits ≤ 31 * l.requests)

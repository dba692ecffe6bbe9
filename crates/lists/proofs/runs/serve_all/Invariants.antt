use Rattle.std.proofs.Common.{◌≡◌, ◌*◌}
use Rattle.words.specs.Lists.{words}
use Rattle.lists.specs.ListRuns.{asks}
use Rattle.lists.proofs.Filled.{Due}
use Rattle.lists.proofs.runs.serve_all.Given as goal

abbrev pub invariant-loop-word : goal.invariant-loop-word
invariant-loop-word g l = record {
  due : Due g.L.Level.rules (g.L.Level.state l.initial.pile) (asks l.list) l.initial.results (g.L.Level.state l.pile) (words l.word-iterator.rest.now) l.results (8 * l.word-iterator.place);
  lent : g.L.Level.lent l.pile ≡ g.L.Level.lent l.initial.pile;
}

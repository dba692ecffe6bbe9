use Rattle.std.proofs.Common.{◌≡◌, ◌+◌, ◌≤◌, ◌++◌, length, min, string_bytes}
use Rattle.words.specs.Lists.{words}
use Rattle.words.specs.Summaries.{AllLegal}
use Rattle.level.specs.Listed.{after}
use Rattle.lists.specs.ListRuns.{asks}
use Rattle.lists.specs.Results.{calls}
use Rattle.indexrun.specs.Listing.{all_clocks, request_lines}
use Rattle.indexrun.proofs.listing.run_lines.Given as goal

-- after requests that cost `clocks`, what the rest of the list asks is still to serve
abbrev pub invariant-loop-word : goal.invariant-loop-word
invariant-loop-word g l =
    let R = g.L.Level.rules in
    let first = g.L.Level.state l.initial.pile in
    let now = g.L.Level.state l.pile in
    let all = asks l.list in
    let left = l.word-iterator.rest.now in
    record {
      legal : AllLegal (words left) (length (words left));
      state : after R first (calls all) ≡ after R now (calls (asks left));
      lines : string_bytes l.initial.text ++ request_lines R first 1 all ≡ string_bytes l.text ++ request_lines R now (l.word-iterator.place + 1) (asks left);
      clocks : min (all_clocks R first all) 4294967295 ≡ min (l.clocks + all_clocks R now (asks left)) 4294967295;
      stops : l.clocks ≤ 4294967295;
    }

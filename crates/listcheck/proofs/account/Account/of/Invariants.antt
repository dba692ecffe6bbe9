use Rattle.std.proofs.Common.{◌≡◌, ◌+◌, ◌≤◌}
use Rattle.std.specs.BTreeSet.{contains, IsOrdered, btree_set_len}
use Rattle.words.specs.Lists.{words}
use Rattle.words.specs.Requests.{operations}
use Rattle.listcheck.specs.Account.{count, distinct_blocks, new_blocks, reading, returning, writing}
use Rattle.listcheck.proofs.account.Account.of.Given as goal
use Rattle.std.specs.Ordering.{nat_cmp}

-- what is counted, and what is still to count
abbrev pub invariant-loop-word : goal.invariant-loop-word
invariant-loop-word l =
    let all = operations (words l.list) in
    let rest = operations (words l.word-iterator.rest.now) in
    (count reading all ≡ l.account.reads + count reading rest)
    × (count writing all ≡ l.account.writes + count writing rest)
    × (count returning all ≡ l.account.returns + count returning rest)
    × (l.account.reads + l.account.writes + l.account.returns ≤ l.word-iterator.place)
    × IsOrdered nat_cmp l.named
    × (btree_set_len l.named + new_blocks (contains nat_cmp l.named) rest ≡ distinct_blocks all)

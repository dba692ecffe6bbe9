-- What the program prints: the listing of a run on the pile of most bench rows, an empty set-associative cache under FIFO over 256 zero bytes at 3 clocks.
use Rattle.std.specs.Prelude.{ℕ, List}
use Rattle.level.specs.Memory.{plain_rules}
use Rattle.ways.specs.Policies.{fifo}
use Rattle.pile.specs.Cache.{cache_rules}
use Rattle.pile.specs.Rows.{over, two_way, zeros}
use Rattle.indexrun.specs.Listing.{listing}

unfoldable pub program_text : List ℕ → List ℕ
program_text list = listing (cache_rules plain_rules two_way fifo) (over zeros two_way fifo) list

-- What a pile that was made over the caller's memory leaves in it, is what the host call speaks of.
use Rattle.std.proofs.Common.{◌≡◌, ℕ, List}
use Rattle.level.specs.Memory.{Plain, plain_rules}
use Rattle.memory.specs.Plains.{plain_made}
use Rattle.ways.specs.Ways.{Shape, Orders}
use Rattle.pile.specs.Cache.{Cached, cache_rules}
use Rattle.pile.specs.Table.{empties}
use Rattle.volleyholly.specs.Host.{run_and_return, run_through}

-- from the making: the memory below, the pile s over it, the pile t after the run, and the memory that is taken out
pub memory_there : {Q : Type 0} (m : Shape) (P : Orders Q) (memory : List ℕ) (figure : ℕ) (list results : List ℕ) (below : Plain) (s t : Cached Plain Q) (last : Plain) (bytes : List ℕ)
    → below ≡ plain_made memory figure → s ≡ record { table = empties; order = P.start m.sets m.ways; below = below }
    → t ≡ (run_and_return (cache_rules plain_rules m P) s list results).next → last ≡ t.below → bytes ≡ last.bytes
    → bytes ≡ (run_through m P memory figure list results).memory
unfolding run_through
memory_there m P memory figure list results below s t last bytes made over ran back is = rw (is, back, ran, over, made)

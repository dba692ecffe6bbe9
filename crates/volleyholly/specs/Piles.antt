-- The piles of the host call by their numbers.
use Rattle.std.specs.Prelude.{ℕ}
use Rattle.volleyholly.specs.declared.piles.PileKind.{PileKind}
use Rattle.volleyholly.specs.declared.piles.PileKind.TheVariants.{DirectFifo, SetAssociativeFifo, AssociativeLru}

abbrev pub pile_number : PileKind → ℕ
pile_number DirectFifo = 1
pile_number SetAssociativeFifo = 2
pile_number AssociativeLru = 3

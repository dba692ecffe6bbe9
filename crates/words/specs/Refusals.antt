-- Every refusal of the library by its number and the values that it carries.
use Rattle.std.specs.Prelude.{ℕ, List, [], ◌∷◌}
use Rattle.words.specs.declared.refusal.CallRefusal.TheVariants.{OutOfRange, ReadOnly}
use Rattle.words.specs.declared.refusal.MemoryRefusal.TheVariants.{Length, Figure}
use Rattle.words.specs.declared.refusal.GuardRefusal.TheVariants.{NoBlocks, BeyondSize}
use Rattle.words.specs.declared.refusal.ListRefusal.TheVariants.{Size, Layout}
use Rattle.words.specs.declared.refusal.Refusal.{Refusal}
use Rattle.words.specs.declared.refusal.Refusal.TheVariants.{Call, Memory, Guard, List as OfList, ResultsTooShort, UnknownPile}

pub record Told : Type 0 where
  pub number : ℕ
  pub values : List ℕ

abbrev pub told : Refusal → Told
-- an address not below the size; a write in a read-only block
told (Call (OutOfRange address depth)) = record { number = 1; values = address ∷ depth ∷ [] }
told (Call (ReadOnly address depth)) = record { number = 2; values = address ∷ depth ∷ [] }
-- the length of a memory; a clock figure
told (Memory Length) = record { number = 3; values = [] }
told (Memory Figure) = record { number = 4; values = [] }
-- a guard of no blocks; one that reaches beyond the size below
told (Guard NoBlocks) = record { number = 5; values = [] }
told (Guard BeyondSize) = record { number = 6; values = [] }
-- the length of a request list; its first word outside the layout, counted from 1
told (OfList Size) = record { number = 7; values = [] }
told (OfList (Layout word)) = record { number = 8; values = word ∷ [] }
-- too few bytes for the results; a pile that the host call does not know
told ResultsTooShort = record { number = 9; values = [] }
told UnknownPile = record { number = 10; values = [] }

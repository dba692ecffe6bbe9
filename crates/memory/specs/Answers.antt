-- What the checks of a making tell, by number: 0 where nothing is wrong.
use Rattle.std.specs.Prelude.{ℕ, Ok, Err, Result}
use Rattle.words.specs.declared.refusal.MemoryRefusal.{MemoryRefusal}
use Rattle.words.specs.declared.refusal.GuardRefusal.{GuardRefusal}
use Rattle.words.specs.declared.refusal.Refusal.TheVariants.{Memory, Guard}
use Rattle.words.specs.Refusals.{told}

abbrev pub memory_number : Result (Unit {0}) MemoryRefusal → ℕ
memory_number (Ok x) = 0
memory_number (Err r) = (told (Memory r)).number

abbrev pub guard_number : Result (Unit {0}) GuardRefusal → ℕ
guard_number (Ok x) = 0
guard_number (Err r) = (told (Guard r)).number

-- Two-module memory in the code, as its rule has it.
use Rattle.std.specs.Prelude.{ℕ, List, Some, None, Option}
use Rattle.level.specs.Modules.{Modules as Halves, Last}
use Rattle.level.specs.Modules.Last.{neither, in_module}
use Rattle.memory.specs.declared.modules.Module.{Module}
use Rattle.memory.specs.declared.modules.Module.TheVariants.{Even, Odd}
use Rattle.memory.specs.declared.modules.Modules.{Modules}

abbrev pub module_number : Module → ℕ
module_number Even = 0
module_number Odd = 1

abbrev pub last_of : Option Module → Last
last_of None = neither
last_of (Some m) = in_module (module_number m)

-- before the first access
abbrev pub modules_made : List ℕ → List ℕ → ℕ → ℕ → Halves
modules_made even odd short long = record { even = even; odd = odd; short = short; long = long; last = neither }

-- by what its modules hold
abbrev pub modules_state : {B : Type 0} → (B → List ℕ) → Modules B → Halves
modules_state content m = record { even = content m.even; odd = content m.odd; short = m.short; long = m.long; last = last_of m.last }

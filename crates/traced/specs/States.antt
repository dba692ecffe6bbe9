-- The code's memory, as its rule has it.
use Rattle.std.specs.Prelude.{ℕ, List}
use Rattle.memory.specs.Plains.{plain_state}
use Rattle.traced.specs.declared.Traced.{Traced}
use Rattle.traced.specs.Traced.{Watched}

-- by what its bytes hold
abbrev pub watched : {B : Type 0} → (B → List ℕ) → Traced B → Watched
watched content t = record { memory = plain_state content t.memory; recent = t.recent }

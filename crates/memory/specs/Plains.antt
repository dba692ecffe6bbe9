-- Plain memory in the code, as its rule has it.
use Rattle.std.specs.Prelude.{ℕ, List}
use Rattle.level.specs.Memory.{Plain as Memory}
use Rattle.memory.specs.declared.plain.Plain.{Plain}

abbrev pub plain_made : List ℕ → ℕ → Memory
plain_made bytes figure = record { bytes = bytes; figure = figure }

-- by what its bytes hold
abbrev pub plain_state : {B : Type 0} → (B → List ℕ) → Plain B → Memory
plain_state content p = plain_made (content p.bytes) p.figure

-- An image in the code, as its rule has it.
use Rattle.std.specs.Prelude.{ℕ, List}
use Rattle.level.specs.Memory.{Plain as Memory}
use Rattle.memory.specs.declared.image.Image.{Image}
use Rattle.memory.specs.Plains.{plain_state}

-- by what its bytes hold
abbrev pub image_state : {B : Type 0} → (B → List ℕ) → Image B → Memory
image_state content p = plain_state content p.memory

-- What a list asks for, counted.
use Rattle.std.specs.Prelude.{ℕ, ◌+◌, ◌/◌, Bool, false, cond, ◌||◌, List, [], ◌∷◌, Some, None, Option, ◌==◌}
use Rattle.words.specs.declared.request.Operation.{Operation}
use Rattle.words.specs.declared.request.Operation.TheVariants.{Read, Write, ReturnBlock, ReturnAll}

-- 1 for an operation of its kind, else 0
abbrev pub reading : Operation → ℕ
reading (Read a) = 1
reading (Write a b) = 0
reading (ReturnBlock a) = 0
reading ReturnAll = 0

abbrev pub writing : Operation → ℕ
writing (Read a) = 0
writing (Write a b) = 1
writing (ReturnBlock a) = 0
writing ReturnAll = 0

abbrev pub returning : Operation → ℕ
returning (Read a) = 0
returning (Write a b) = 0
returning (ReturnBlock a) = 1
returning ReturnAll = 1

abbrev pub count : (Operation → ℕ) → List Operation → ℕ
count kind [] = 0
count kind (o ∷ os) = kind o + count kind os

-- the block that an operation names; a full return names none
abbrev pub block : Operation → Option ℕ
block (Read a) = Some (a / 4)
block (Write a b) = Some (a / 4)
block (ReturnBlock a) = Some (a / 4)
block ReturnAll = None

-- how many blocks are named that were not named before, each counted where it first comes
abbrev pub new_blocks : (ℕ → Bool) → List Operation → ℕ
new_blocks before [] = 0
new_blocks before (o ∷ os) = elim (block o) [
  | Some b ↦ cond (before b) 0 1 + new_blocks (λ c. (c == b) || before c) os
  | None ↦ new_blocks before os
]

abbrev pub distinct_blocks : List Operation → ℕ
distinct_blocks os = new_blocks (λ b. false) os

-- Request words: 32 bits.
use Rattle.std.specs.Prelude.{ℕ, ◌+◌, ◌*◌, ◌/◌, ◌%◌, cond, List, [], ◌∷◌, Some, None, codes, Option, ◌==◌, nat_lt, slice_index, slice_index_or}
use Rattle.std.specs.Option.{option_map}
use Rattle.words.specs.declared.request.Operation.{Operation}
use Rattle.words.specs.declared.request.Operation.TheVariants.{Read, Write, ReturnBlock, ReturnAll}
use Rattle.words.specs.declared.request.Request.{Request}
use Rattle.words.specs.Layout.{joined, big_endian}

-- ---- from a request to its word

-- each operation by its mode, its address and its data
abbrev pub mode : Operation → ℕ
mode (Read a) = 0
mode (Write a b) = 1
mode (ReturnBlock a) = 2
mode ReturnAll = 3

abbrev pub address : Operation → ℕ
address (Read a) = a
address (Write a b) = a
address (ReturnBlock a) = a
address ReturnAll = 0

abbrev pub «data» : Operation → ℕ
«data» (Read a) = 0
«data» (Write a b) = b
«data» (ReturnBlock a) = 0
«data» ReturnAll = 0

-- the letter of each operation in a printed list
abbrev pub letter : Operation → List ℕ
letter (Read a) = codes "R"
letter (Write a b) = codes "W"
letter (ReturnBlock a) = codes "S"
letter ReturnAll = codes "A"

-- valid 1, mode 2, wait 5, address 16, data 8
abbrev pub word : Request → List ℕ
word q = big_endian 4 (joined 0 ((1, 1) ∷ (2, mode q.operation) ∷ (5, q.wait.clocks) ∷ (16, address q.operation) ∷ (8, «data» q.operation) ∷ []))

-- ---- from a word to what it asks

-- a request in numbers
pub record Asked : Type 0 where
  pub wait : ℕ
  pub operation : Operation

abbrev pub asked : Request → Asked
asked q = record { wait = q.wait.clocks; operation = q.operation }

-- what a mode, an address and data ask: data is 0 except in a write, and the address of a full return is 0
abbrev pub operation : ℕ → ℕ → ℕ → Option Operation
operation mode address d =
    cond (mode == 1) (Some (Write address d))
    (cond (d == 0)
    (cond (mode == 0) (Some (Read address))
    (cond (mode == 2) (Some (ReturnBlock address))
    (cond (address == 0) (Some ReturnAll) None)))
    None)

-- what four bytes ask, or none where they are outside the layout
abbrev pub decoded : List ℕ → Option Asked
decoded w =
    let head = slice_index_or w 0 0 in
    option_map (λ o. record { wait = head % 32; operation = o })
    (cond (nat_lt head 128) None (operation (head / 32 % 4) (slice_index w 1 * 256 + slice_index w 2) (slice_index w 3)))

-- what the words of a list ask, one after the other; a word outside the layout asks nothing
abbrev pub operations : List (List ℕ) → List Operation
operations [] = []
operations (w ∷ ws) = elim (decoded w) [ Some q ↦ q.operation ∷ operations ws | None ↦ operations ws ]

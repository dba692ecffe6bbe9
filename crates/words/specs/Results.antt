-- Result words: 64 bits.
use Rattle.std.specs.Prelude.{ℕ, ◌+◌, ◌*◌, cond, List, [], ◌∷◌, Some, None, Option, Ok, Err, Result, ◌==◌, slice_index, slice_index_or}
use Rattle.words.specs.declared.refusal.CallRefusal.{CallRefusal}
use Rattle.words.specs.declared.refusal.CallRefusal.TheVariants.{OutOfRange, ReadOnly}
use Rattle.words.specs.declared.refusal.Refusal.TheVariants.{Call}
use Rattle.words.specs.declared.result.Accepted.{Accepted}
use Rattle.words.specs.Layout.{joined, big_endian}
use Rattle.words.specs.Refusals.{told}

-- refused 1, cause 7, value 8, address 16, clocks 32
abbrev pub packed : ℕ → ℕ → ℕ → ℕ → ℕ → List ℕ
packed refused cause value address clocks = big_endian 8 (joined 0 ((1, refused) ∷ (7, cause) ∷ (8, value) ∷ (16, address) ∷ (32, clocks) ∷ []))

-- a refusal has its depth where the value stands, and costs no clocks
abbrev pub result_word : Result Accepted CallRefusal → List ℕ
result_word (Ok a) = packed 0 0 a.value a.address a.clocks
result_word (Err e) = let t = told (Call e) in packed 1 t.number (slice_index t.values 1) (slice_index t.values 0) 0

-- what eight bytes tell, or none where they are no result word
abbrev pub parsed : List ℕ → Option (Result Accepted CallRefusal)
parsed w =
    let head = slice_index_or w 0 0 in
    let value = slice_index_or w 1 0 in
    let address = slice_index w 2 * 256 + slice_index_or w 3 0 in
    let clocks = slice_index w 4 * 16777216 + slice_index w 5 * 65536 + slice_index w 6 * 256 + slice_index_or w 7 0 in
    cond (head == 0) (Some (Ok (record { value = value; address = address; clocks = clocks })))
    (cond (clocks == 0)
    (cond (head == 129) (Some (Err (OutOfRange address value)))
    (cond (head == 130) (Some (Err (ReadOnly address value))) None))
    None)

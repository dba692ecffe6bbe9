-- The entries of a cache's table.
use Rattle.std.specs.Prelude.{ℕ, zero, suc, ◌+◌, true, false, cond, ◌&&◌, List, [], ◌∷◌, Some, None, Option, ◌==◌, slice_index_or, slice_set}
use Rattle.pile.specs.declared.entry.Entry.{Entry}

-- an empty entry is zero throughout
abbrev pub empty : Entry
empty = record { tag = 0; valid = false; dirty = false; bytes = 0 ∷ 0 ∷ 0 ∷ 0 ∷ [] }

-- what is read past the end of a table
abbrev pub blank : Entry
blank = record { tag = 0; valid = false; dirty = false; bytes = [] }

abbrev pub empties : List Entry
empties = empty ∷ empty ∷ empty ∷ empty ∷ empty ∷ empty ∷ empty ∷ empty ∷ []

-- an entry that a block has just come into: valid and clean
abbrev pub clean : ℕ → List ℕ → Entry
clean tag bytes = record { tag = tag; valid = true; dirty = false; bytes = bytes }

-- an entry with one byte written: it is dirty from then on
abbrev pub with_byte : Entry → ℕ → ℕ → Entry
with_byte e place byte = record { tag = e.tag; valid = e.valid; dirty = true; bytes = slice_set e.bytes place byte }

-- the lowest way, of `left` ways from `way` on, whose entry is valid and has the tag; the ways of the set begin at the entry `base`
abbrev pub find : List Entry → (base tag way left : ℕ) → Option ℕ
find table base tag way zero = None
find table base tag way (suc left) =
    let e = slice_index_or table (base + way) blank in
    cond (e.valid && e.tag == tag) (Some way) (find table base tag (suc way) left)

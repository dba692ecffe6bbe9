-- What stays true of a cache's table between calls. An invariant of the proof.
use Rattle.std.proofs.Common.{◌≡◌, ℕ, ◌+◌, ◌*◌, ◌<◌, Bool, true, false, List, length, get_or}
use Rattle.pile.specs.declared.entry.Entry.{Entry}
use Rattle.ways.specs.Ways.{Shape}
use Rattle.pile.specs.Table.{blank, empty}

-- the entry of a way of a set
abbrev pub slot : Shape → List Entry → ℕ → ℕ → Entry
slot m table set way = get_or table (set * m.ways + way) blank

-- of a level with `blocks` blocks, of which some are locked
pub record Sound (m : Shape) (blocks : ℕ) (locked : ℕ → Bool) (table : List Entry) : Type 0 where
  pub eight : length table ≡ 8
  pub four : (i : ℕ) → i < 8 → length (get_or table i blank).bytes ≡ 4
  -- a valid entry stands in the set of its block, and each block is held once
  pub placed : (set way : ℕ) → set < m.sets → way < m.ways → (slot m table set way).valid ≡ true → (b : ℕ) × (b < blocks) × (m.split b ≡ (set, (slot m table set way).tag))
  pub unique : (set v w : ℕ) → set < m.sets → v < m.ways → w < m.ways → (slot m table set v).valid ≡ true → (slot m table set w).valid ≡ true → (slot m table set v).tag ≡ (slot m table set w).tag → v ≡ w
  -- a dirty entry is a valid one of a block that is not locked
  pub dirty : (set way : ℕ) → set < m.sets → way < m.ways → (slot m table set way).dirty ≡ true → ((slot m table set way).valid ≡ true) × (locked (m.join (set, (slot m table set way).tag)) ≡ false)
  pub vacant : (i : ℕ) → i < 8 → (get_or table i blank).valid ≡ false → get_or table i blank ≡ empty

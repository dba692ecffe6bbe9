-- What holds of a cache's table between calls, and after a return.
use Rattle.std.specs.Prelude.{◌≡◌, ℕ, ◌/◌, ◌<◌, Bool, true, false, List, length, get_or, slice_index_or}
use Rattle.level.specs.Level.{Rules, block}
use Rattle.level.specs.Level.Call.{return_block, return_all}
use Rattle.level.specs.Meaning.{Accepts}
use Rattle.ways.specs.Ways.{Shape, Orders}
use Rattle.pile.specs.declared.entry.Entry.{Entry}
use Rattle.pile.specs.Table.{blank, empty}
use Rattle.pile.specs.Cache.{Cached, cache_rules}

-- entry i holds the block b: it is valid, stands in the set of b and has its tag
abbrev pub HasBlock : Shape → List Entry → ℕ → ℕ → Type 0
HasBlock m table i b = ((get_or table i blank).valid ≡ true) × (m.split b ≡ (i / m.ways, (get_or table i blank).tag))

-- over a level of `blocks` blocks, of which some are read-only
pub record Tidy (m : Shape) (blocks : ℕ) (locked : ℕ → Bool) (table : List Entry) : Type 0 where
  pub eight : length table ≡ 8
  pub four : (i : ℕ) → i < 8 → length (get_or table i blank).bytes ≡ 4
  -- a valid entry holds a block of the level, and no two hold the same
  pub placed : (i : ℕ) → i < 8 → (get_or table i blank).valid ≡ true → (b : ℕ) × (b < blocks) × HasBlock m table i b
  pub once : (b i j : ℕ) → i < 8 → j < 8 → HasBlock m table i b → HasBlock m table j b → i ≡ j
  -- a dirty entry is valid, and its block is not read-only, so that it can be written back
  pub dirty : (i : ℕ) → i < 8 → (get_or table i blank).dirty ≡ true → (get_or table i blank).valid ≡ true
  pub writable : (i : ℕ) → i < 8 → (get_or table i blank).dirty ≡ true → locked (m.join (i / m.ways, (get_or table i blank).tag)) ≡ false
  -- an entry that is not valid is zero throughout
  pub vacant : (i : ℕ) → i < 8 → (get_or table i blank).valid ≡ false → slice_index_or table i blank ≡ empty

-- in the state t: an accepted block return leaves no entry with its block, and a full return leaves every entry empty
pub record Emptied {S Q : Type 0} (R : Rules S) (m : Shape) (P : Orders Q) (t : Cached S Q) : Type 0 where
  pub block_gone : (a i : ℕ) → Accepts (cache_rules R m P) t (return_block a) → i < 8 → HasBlock m ((cache_rules R m P).step t (return_block a)).next.table i (block a) → ⊥
  pub all_gone : (i : ℕ) → i < 8 → slice_index_or ((cache_rules R m P).step t return_all).next.table i blank ≡ empty

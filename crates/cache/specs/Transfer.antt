-- Bytes to and from the level below.
use Rattle.std.specs.Prelude.{◌≡◌, ℕ, ◌+◌, ◌*◌, List}
use Rattle.level.specs.declared.level.Level.{Ghosts}
use Rattle.level.specs.Level.{clocks, topped, value}
use Rattle.level.specs.Level.Call.{read, write}
use Rattle.pile.specs.Cache.{write_back, fetch_block}

module _ {L : Type 0} (level : Ghosts L) where
  -- Calls took the level below from b to d, whose state is s, and `told` is what the code tells of the clocks that they spent. The lent memory is the same.
  pub record Went (b d : L) (s : level.State) (spent told : ℕ) : Type 0 where
    pub clocks : told ≡ topped spent
    pub next : level.state d ≡ s
    pub lent : level.lent d ≡ level.lent b

  -- one byte is written below: 1 clock and those of the write
  abbrev pub SendsByte : L → (address byte told : ℕ) → L → Type 0
  SendsByte b address byte told d = let o = level.rules.step (level.state b) (write address byte) in Went b d o.next (1 + clocks o.answer) told

  -- one byte is read from below: 2 clocks and those of the read
  abbrev pub FetchesByte : L → (address told : ℕ) → L → Type 0
  FetchesByte b address told d = let o = level.rules.step (level.state b) (read address) in Went b d o.next (2 + clocks o.answer) told

  -- the byte that a read below gives
  abbrev pub byte_below : L → ℕ → ℕ
  byte_below b address = value (level.rules.step (level.state b) (read address)).answer

  -- the bytes of a block are written below
  abbrev pub Sends : L → (block : ℕ) (bytes : List ℕ) (told : ℕ) → L → Type 0
  Sends b block bytes told d = let w = write_back level.rules (level.state b) (4 * block) bytes in Went b d w.below w.spent told

  -- the block of an address is read from below
  abbrev pub Fetches : L → (address told : ℕ) (bytes : List ℕ) → L → Type 0
  Fetches b address told bytes d = let f = fetch_block level.rules (level.state b) address in (bytes ≡ f.bytes) × Went b d f.below f.spent told

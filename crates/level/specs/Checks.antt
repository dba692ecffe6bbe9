-- What the check of a making tells, in words of lengths and figures, and what is made of what it refuses.
use Rattle.std.specs.Prelude.{◌≡◌, ℕ, ◌+◌, ◌/◌, ◌%◌, ◌<◌, ◌≤◌, ◌↔◌, length, ◌≢◌}
use Rattle.level.specs.Level.{Rules, clocks}
use Rattle.level.specs.Level.Call.{return_all}
use Rattle.level.specs.Memory.{Plain, plain_check, plain_rules}
use Rattle.level.specs.Modules.{Modules, modules_check, modules_length, modules_rules}
use Rattle.level.specs.Guard.{Guarded, guard_check, guard_rules}

-- a check gives m where A fails, else n where B fails, and 0 just where both hold
pub record Tells (check m n : ℕ) (A B : Type 0) : Type 0 where
  pub none : (check ≡ 0) ↔ (A × B)
  pub first : (check ≡ m) ↔ (A → ⊥)
  pub second : (check ≡ n) ↔ (A × (B → ⊥))

-- What is made has its full size and W where the check gives 0; else it has size 0, and the other W.
pub record Made {S : Type 0} (R : Rules S) (s : S) (check size worst else_worst : ℕ) : Type 0 where
  pub whole : check ≡ 0 → (R.size s ≡ size) × (R.worst s ≡ worst)
  pub degenerate : (check ≢ 0) → (R.size s ≡ 0) × (R.worst s ≡ else_worst)

-- the length of a memory
abbrev pub GoodLength : ℕ → Type 0
GoodLength n = (0 < n) × (n ≤ 65536) × (n % 4 ≡ 0)

-- two modules, and their short and long figures
abbrev pub GoodLengths : ℕ → ℕ → Type 0
GoodLengths n m = (n ≡ m) × (n % 2 ≡ 0) × GoodLength (n + m)

abbrev pub GoodFigures : ℕ → ℕ → Type 0
GoodFigures short long = (1 ≤ short) × (short ≤ long) × (long ≤ 15)

pub record MemoryChecks : Type 0 where
  -- plain memory, and an image, whose check, size and W are the same
  pub plain : (p : Plain) → Tells (plain_check p) 3 4 (GoodLength (length p.bytes)) (GoodFigures p.figure p.figure)
  pub plain_made : (p : Plain) → Made plain_rules p (plain_check p) (length p.bytes) p.figure 0
  -- two modules
  pub modules : (s : Modules) → Tells (modules_check s) 3 4 (GoodLengths (length s.even) (length s.odd)) (GoodFigures s.short s.long)
  pub modules_made : (s : Modules) → Made modules_rules s (modules_check s) (modules_length s) s.long 0

pub record GuardChecks {S : Type 0} (R : Rules S) : Type 0 where
  pub guard : (first count size : ℕ) → Tells (guard_check first count size) 5 6 (0 < count) (first + count ≤ size / 4)
  pub guard_made : (s : Guarded S) → (guard_rules R).fresh s → Made (guard_rules R) s (guard_check s.first s.count (R.size s.below)) (R.size s.below) (R.worst s.below) (R.worst s.below)
  -- a full return goes down, and costs what it costs there, of a guard of size 0 too
  pub returns_pass : (s : Guarded S) → ((guard_rules R).step s return_all).next.below ≡ (R.step s.below return_all).next
  pub returns_cost : (s : Guarded S) → clocks ((guard_rules R).step s return_all).answer ≡ clocks (R.step s.below return_all).answer

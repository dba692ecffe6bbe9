-- What a stretch of reads and writes costs a cache.
use Rattle.std.specs.Prelude.{◌≡◌, ℕ, ◌+◌, ◌*◌, ◌≤◌, Bool, true, false, cond, ◌&&◌, List, [], ◌∷◌, length, ◌==◌}
use Rattle.level.specs.Level.{Call, Rules, address, clocks, taken, block}
use Rattle.level.specs.Level.Call.{read, write, return_block, return_all}
use Rattle.level.specs.Runs.{Exchange, Log, Run}
use Rattle.ways.specs.Ways.{Shape, Orders}
use Rattle.pile.specs.Cache.{Cached, cache_rules}

-- a read or a write, and not a return
abbrev pub is_access : Call → Bool
is_access (read a) = true
is_access (write a v) = true
is_access (return_block a) = false
is_access return_all = false

-- an accepted read or write
abbrev pub used : Exchange → Bool
used x = is_access x.call && taken x.answer

-- none of the calls is an accepted return
abbrev pub NoReturn : Log → Type 0
NoReturn [] = Unit {0}
NoReturn (x ∷ older) = (is_access x.call ≡ false → taken x.answer ≡ false) × NoReturn older

-- the accepted reads and writes: how many they are, their clocks, and their blocks
abbrev pub count : Log → ℕ
count [] = 0
count (x ∷ older) = cond (used x) 1 0 + count older

abbrev pub cost : Log → ℕ
cost [] = 0
cost (x ∷ older) = cond (used x) (clocks x.answer) 0 + cost older

abbrev pub blocks : Log → List ℕ
blocks [] = []
blocks (x ∷ older) = cond (used x) (block (address x.call) ∷ blocks older) (blocks older)

-- each number of a list once
abbrev pub has : List ℕ → ℕ → Bool
has [] b = false
has (x ∷ xs) b = cond (x == b) true (has xs b)

abbrev pub different : List ℕ → List ℕ
different [] = []
different (x ∷ xs) = cond (has xs x) (different xs) (x ∷ different xs)

-- the blocks that f puts into a set
abbrev pub in_set : (ℕ → ℕ) → ℕ → List ℕ → List ℕ
in_set f set [] = []
in_set f set (b ∷ bs) = cond (f b == set) (b ∷ in_set f set bs) (in_set f set bs)

-- of its different blocks no set has more than it has ways
abbrev pub FitsSets : Shape → Log → Type 0
FitsSets m log = (set : ℕ) → length (in_set (λ b. (m.split b).0) set (different (blocks log))) ≤ m.ways

-- 1 clock for each call, and 13 more with 8 accesses below for each different block
abbrev pub bound : (worst : ℕ) → Log → ℕ
bound worst log = count log + length (different (blocks log)) * (13 + 8 * worst)

-- a stretch begins anywhere in a run from the making
abbrev pub Bounded : {S Q : Type 0} → Rules S → Shape → Orders Q → Type 0
Bounded {S} {Q} R m P =
    (s t u : Cached S Q) (before stretch : Log) → (cache_rules R m P).fresh s → Run (cache_rules R m P) s before t → Run (cache_rules R m P) t stretch u
    → NoReturn stretch → FitsSets m stretch → cost stretch ≤ bound (R.worst s.below) stretch

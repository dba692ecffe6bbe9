-- What a memory's check says of its size.
use Rattle.std.proofs.Common.{◌≡◌, ℕ, ◌%◌, ◌<◌, ◌≤◌, Bool, true, false, cond, refl, arith}
use Rattle.std.proofs.lemmas.Bool.Decides.{nat_tests}
use Rattle.level.specs.Memory.{length_ok}

-- the size is a multiple of 4 and at most 65,536
pub sized : (ok : Bool) (n : ℕ) → (ok ≡ true → length_ok n ≡ true) → (cond ok n 0 % 4 ≡ 0) × (cond ok n 0 ≤ 65536)
sized ok n h = grind (arith, nat_tests)

-- an address below the size of a memory: the check was passed
pub below : (ok : Bool) (n a : ℕ) → a < cond ok n 0 → (ok ≡ true) × (a < n)
below ok n a l = grind arith

pub cond_same : {X : Type 0} (b : Bool) (x : X) → cond b x x ≡ x
cond_same true x = refl
cond_same false x = refl

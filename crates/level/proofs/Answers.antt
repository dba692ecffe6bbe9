-- What the judgement of a call says: whether it is accepted, and where its address lies.
use Rattle.std.proofs.Common.{◌≡◌, ℕ, ◌<◌, Bool, true, false, cond, ltb, refl, arith}
use Rattle.std.proofs.lemmas.Bool.{both_ways}
use Rattle.std.proofs.lemmas.Bool.Decides.{nat_tests}
use Rattle.level.specs.Level.{Answer, taken}
use Rattle.level.specs.Level.Answer.{accepted, refused}
use Rattle.level.specs.Meaning.{Judged}

-- where there is no cause the call is accepted
pub judged_taken : (a : ℕ) (x : Answer) → Judged 0 a x → taken x ≡ true
judged_taken a (accepted v k) h = refl
judged_taken a (refused m b d) h = absurd (omega (arith, h.0, h.1))

-- an accepted call had no cause
pub accepted_cause : (n a : ℕ) (x : Answer) → Judged n a x → taken x ≡ true → n ≡ 0
accepted_cause n a (accepted v k) h e = h
accepted_cause n a (refused m b d) h e = absurd (both_ways false refl e)

-- a read or a return that has no cause is below the size
pub below_from : (a size : ℕ) → ◌≡◌ {A = ℕ} (cond (ltb a size) 0 1) 0 → a < size
below_from a size e = grind (arith, nat_tests)

-- a write that has no cause is below the size, in a block that is not read-only
pub free_from : (a size : ℕ) (locked : Bool) → ◌≡◌ {A = ℕ} (cond (ltb a size) (cond locked 2 0) 1) 0 → (a < size) × (locked ≡ false)
free_from a size locked e = grind (arith, nat_tests)

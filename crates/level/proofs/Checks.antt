-- What the checks tell.
use Rattle.std.proofs.Common.{◌≡◌, ℕ, ◌<◌, Bool, true, false, cond, ◌&&◌, ◌↔◌, length, refl, arith}
use Rattle.std.proofs.lemmas.Bool.{both_ways}
use Rattle.std.proofs.lemmas.Bool.Decides.{nat_tests}
use Rattle.level.specs.Level.{Rules}
use Rattle.level.specs.Memory.{length_ok, figure_ok, first_cause, plain_rules}
use Rattle.level.specs.Modules.{Modules, modules_length, modules_length_ok, modules_figures_ok, modules_rules}
use Rattle.level.specs.Checks.{Tells, Made, GoodLength, GoodLengths, GoodFigures, MemoryChecks}

-- ---- a test and what it says

length_says : (n : ℕ) → (length_ok n ≡ true) ↔ GoodLength n
length_says n = (λ e. grind (arith, nat_tests), λ k. grind (arith, nat_tests))

figure_says : (t : ℕ) → (figure_ok t ≡ true) ↔ GoodFigures t t
figure_says t = (λ e. grind (arith, nat_tests), λ k. grind (arith, nat_tests))

lengths_say : (s : Modules) → (modules_length_ok s ≡ true) ↔ GoodLengths (length s.even) (length s.odd)
lengths_say s = (λ e. grind (arith, nat_tests), λ k. grind (arith, nat_tests))

figures_say : (s : Modules) → (modules_figures_ok s ≡ true) ↔ GoodFigures s.short s.long
figures_say s = (λ e. grind (arith, nat_tests), λ k. grind (arith, nat_tests))

-- ---- a check of two tests

module _ (b c : Bool) (m n : ℕ) (m_low : 0 < m) (n_low : m < n) where
  tells : {A B : Type 0} → (b ≡ true) ↔ A → (c ≡ true) ↔ B → Tells (first_cause b m c n) m n A B
  tells {A} {B} p q = go b c refl refl
    where
      go : (x y : Bool) → b ≡ x → c ≡ y → Tells (cond x (cond y 0 n) m) m n A B
      go true true d e = record {
        none = (λ z. (p.0 d, q.0 e), λ h. refl);
        first = (λ z. absurd (omega arith), λ h. absurd (h (p.0 d)));
        second = (λ z. absurd (omega arith), λ h. absurd (h.1 (q.0 e)));
      }
      go true false d e = record {
        none = (λ z. absurd (omega arith), λ h. absurd (both_ways c e (q.1 h.1)));
        first = (λ z. absurd (omega arith), λ h. absurd (h (p.0 d)));
        second = (λ z. (p.0 d, λ k. both_ways c e (q.1 k)), λ h. refl);
      }
      go false y d e = record {
        none = (λ z. absurd (omega arith), λ h. absurd (both_ways b d (p.1 h.0)));
        first = (λ z a. both_ways b d (p.1 a), λ h. refl);
        second = (λ z. absurd (omega arith), λ h. absurd (both_ways b d (p.1 h.0)));
      }

  -- what stands under the test of a making, by its check
  by_check : (K : ℕ → Bool → Type 0) → K 0 true → ((k : ℕ) → 0 < k → K k false) → K (first_cause b m c n) (b && c)
  by_check K yes' no' = go b c
    where
      go : (x y : Bool) → K (cond x (cond y 0 n) m) (x && y)
      go true true = yes'
      go true false = no' n (omega arith)
      go false y = no' m m_low

module _ {S : Type 0} (R : Rules S) (s : S) (size worst else_worst : ℕ) where
  -- a level whose size and W stand under the test of its making
  made : (b c : Bool) (m n : ℕ) → 0 < m → m < n → R.size s ≡ cond (b && c) size 0 → R.worst s ≡ cond (b && c) worst else_worst → Made R s (first_cause b m c n) size worst else_worst
  made b c m n l k d e = by_check b c m n l k (λ check ok. R.size s ≡ cond ok size 0 → R.worst s ≡ cond ok worst else_worst → Made R s check size worst else_worst)
      (λ d e. record { whole = λ z. (d, e); degenerate = λ z. absurd (z refl) })
      (λ check low d e. record { whole = λ z. absurd (omega arith); degenerate = λ z. (d, e) }) d e

pub memory_checks : MemoryChecks
memory_checks = record {
  plain = λ p. tells (length_ok (length p.bytes)) (figure_ok p.figure) 3 4 (omega arith) (omega arith) (length_says (length p.bytes)) (figure_says p.figure);
  plain_made = λ p. made plain_rules p (length p.bytes) p.figure 0 (length_ok (length p.bytes)) (figure_ok p.figure) 3 4 (omega arith) (omega arith) refl refl;
  modules = λ s. tells (modules_length_ok s) (modules_figures_ok s) 3 4 (omega arith) (omega arith) (lengths_say s) (figures_say s);
  modules_made = λ s. made modules_rules s (modules_length s) s.long 0 (modules_length_ok s) (modules_figures_ok s) 3 4 (omega arith) (omega arith) refl refl;
}

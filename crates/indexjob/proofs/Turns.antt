-- A piece of a job at each station, one after the other: how it begins and goes on, and what it leaves in a list of what came of it.
use Rattle.std.proofs.Common.{◌≡◌, ℕ, ◌+◌, ◌<◌, ◌≢◌, List, [], ◌∷◌, length, get_or, set, refl, add-one, arith, below_more, get_or-set_other, get_or-set_same, take, sum_by}
use Rattle.std.proofs.lemmas.List.{take_more_set}
use Rattle.std.proofs.lemmas.List.Sums.{sum_by-append}
use Rattle.indexjob.specs.Job.{in_turn}

module _ {S : Type 0} (piece : S → ℕ → S) (s : S) where
  pub in_turn-none : in_turn piece s 0 ≡ s
  unfolding in_turn
  in_turn-none = refl

  pub in_turn-more : (n : ℕ) → in_turn piece s (n + 1) ≡ piece (in_turn piece s n) n
  unfolding in_turn
  in_turn-more n = rw add-one

-- one element more, at its place
pub one_more : {A : Type 0} (P : ℕ → A → Type 0) (xs : List A) (i : ℕ) (x d : A) → i < length xs → ((k : ℕ) → k < i → P k (get_or xs k d)) → P i x
    → (k : ℕ) → k < i + 1 → P k (get_or (set xs i x) k d)
one_more P xs i x d within below here =
    below_more (λ k. P k (get_or (set xs i x) k d)) i
    (λ k h. let other : k ≢ i = omega arith in rw get_or-set_other (below k h))
    (rw get_or-set_same here)

-- the sum of the elements up to there
pub sum_one_more : {A : Type 0} (f : A → ℕ) (xs : List A) (i : ℕ) (x : A) → i < length xs → sum_by f (take (i + 1) (set xs i x)) ≡ sum_by f (take i xs) + f x
sum_one_more f xs i x within = rw (take_more_set xs i x within, sum_by-append f (take i xs) (x ∷ [])) (omega arith)

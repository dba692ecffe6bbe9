-- Members of lists of numbers.
use Rattle.std.specs.Prelude.{◌≡◌, ℕ, ◌⊎◌, List, [], ◌∷◌, ◌++◌, reverse}
use Rattle.std.proofs.Common.{sym, ap, inl, inr, arith}
use Rattle.std.proofs.lemmas.Grind.{reverse_onto}

-- a number stands in a list
abbrev pub In : ℕ → List ℕ → Type 0
In x [] = ⊥
In x (y ∷ ys) = (x ≡ y) ⊎ In x ys

-- a list cut where the number stands
pub cut : (x : ℕ) (xs : List ℕ) → In x xs → (front : List ℕ) × (back : List ℕ) × (xs ≡ front ++ (x ∷ back))
cut x [] h = absurd h
cut x (y ∷ ys) (inl e) = ([], ys, ap {B = List ℕ} (λ z. z ∷ ys) (sym e))
cut x (y ∷ ys) (inr h) = let c = cut x ys h in (y ∷ c.0, c.1, ap {B = List ℕ} (λ l. y ∷ l) c.2)

in_push : (x y : ℕ) (xs : List ℕ) → In x (xs ++ (y ∷ [])) → (x ≡ y) ⊎ In x xs
in_push x y [] h = h
in_push x y (z ∷ zs) h = grind (arith, in_push x y zs)

-- a list read from the back has no other members
pub in_reverse : (x : ℕ) (xs : List ℕ) → In x (reverse xs) → In x xs
in_reverse x [] h = h
in_reverse x (y ∷ ys) h = grind (arith, in_push x y (reverse ys) (rw (reverse_onto ys y []) at h), in_reverse x ys)

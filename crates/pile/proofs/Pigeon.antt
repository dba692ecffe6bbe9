-- The pigeonhole, and members of the lists of a stretch.
use Rattle.std.proofs.Common.{◌≡◌, ℕ, zero, suc, ◌<◌, ◌≤◌, Bool, true, false, cond, eqb, ◌⊎◌, List, [], ◌∷◌, ◌++◌, length, sym, refl, ap, ◌∙◌, subst, inl, inr, arith}
use Rattle.std.proofs.lemmas.Bool.{eqb-true, eqb-false}
use Rattle.ways.specs.Members.{In}
use Rattle.pile.specs.Stretch.{has, different, in_set}

pub in_left : (x : ℕ) (xs bs : List ℕ) → In x xs → In x (xs ++ bs)
in_left x (a ∷ xs) bs (inl e) = inl e
in_left x (a ∷ xs) bs (inr h) = inr (in_left x xs bs h)
in_left x [] bs h = absurd h

-- the list without that member
abbrev less : (x : ℕ) (ys : List ℕ) → In x ys → List ℕ
less x [] h = []
less x (y ∷ ys) (inl e) = ys
less x (y ∷ ys) (inr h) = y ∷ less x ys h

length_less : (x : ℕ) (ys : List ℕ) (h : In x ys) → suc (length (less x ys h)) ≡ length ys
length_less x [] h = absurd h
length_less x (y ∷ ys) (inl e) = refl
length_less x (y ∷ ys) (inr h) = ap suc (length_less x ys h)

in_less : (x z : ℕ) (ys : List ℕ) (h : In x ys) → In z ys → (z ≡ x) ⊎ In z (less x ys h)
in_less x z [] h k = absurd h
in_less x z (y ∷ ys) (inl e) (inl k) = inl (k ∙ sym e)
in_less x z (y ∷ ys) (inl e) (inr k) = inr k
in_less x z (y ∷ ys) (inr h) (inl k) = inr (inl k)
in_less x z (y ∷ ys) (inr h) (inr k) = elim (in_less x z ys h k) [ inl e ↦ inl e | inr l ↦ inr (inr l) ]

-- n holes, each with a pigeon of the list, and no pigeon in two holes
pub pigeons : (n : ℕ) (G : ℕ → ℕ → Type 0) (ys : List ℕ) → ((i : ℕ) → i < n → (y : ℕ) × In y ys × G i y) → ((i j y : ℕ) → i < n → j < n → G i y → G j y → i ≡ j) → n ≤ length ys
pigeons zero G ys each apart = omega arith
pigeons (suc n) G ys each apart =
    omega (arith, length_less one.0 ys one.1, pigeons n G (less one.0 ys one.1) (λ i lt. other i lt (each i (omega arith))) (λ i j y p q. apart i j y (omega arith) (omega arith)))
  where
    one : (y : ℕ) × In y ys × G n y
    one = each n (omega arith)

    other : (i : ℕ) → i < n → (z : ℕ) × In z ys × G i z → (y : ℕ) × In y (less one.0 ys one.1) × G i y
    other i lt g = elim (in_less one.0 g.0 ys one.1 g.1) [
      | inl e ↦ let same : i ≡ n = apart i n g.0 (omega arith) (omega arith) g.2 (subst (G n) (sym e) one.2) in absurd (omega arith)
      | inr l ↦ (g.0, l, g.2)
    ]

has_in : (xs : List ℕ) (b : ℕ) → has xs b ≡ true → In b xs
has_in [] b h = absurd (let z : ◌≡◌ {A = ℕ} 0 1 = cc in omega arith)
has_in (x ∷ xs) b h = go (eqb x b) refl (has_in xs b)
  where
    go : (t : Bool) → eqb x b ≡ t → (has xs b ≡ true → In b xs) → In b (x ∷ xs)
    go true e deeper = inl (sym (eqb-true x b e))
    go false e deeper = inr (deeper (rw e at h))

-- ---- what the words of a stretch keep

pub in_different : (x : ℕ) (bs : List ℕ) → In x bs → In x (different bs)
in_different x [] h = h
in_different x (b ∷ bs) h = go (has bs b) refl h (in_different x bs)
  where
    go : (t : Bool) → has bs b ≡ t → In x (b ∷ bs) → (In x bs → In x (different bs)) → In x (cond t (different bs) (b ∷ different bs))
    go true e (inl p) deeper = deeper (subst (λ y. In y bs) (sym p) (has_in bs b e))
    go true e (inr k) deeper = deeper k
    go false e (inl p) deeper = inl p
    go false e (inr k) deeper = inr (deeper k)

pub in_in_set : (f : ℕ → ℕ) (k x : ℕ) (bs : List ℕ) → In x bs → f x ≡ k → In x (in_set f k bs)
in_in_set f k x [] h e = h
in_in_set f k x (b ∷ bs) h e = go (eqb (f b) k) refl h (in_in_set f k x bs)
  where
    go : (t : Bool) → eqb (f b) k ≡ t → In x (b ∷ bs) → (In x bs → f x ≡ k → In x (in_set f k bs)) → In x (cond t (b ∷ in_set f k bs) (in_set f k bs))
    go true q (inl p) deeper = inl p
    go true q (inr i) deeper = inr (deeper i e)
    go false q (inl p) deeper = absurd (eqb-false (f b) k q (ap f (sym p) ∙ e))
    go false q (inr i) deeper = deeper i e

pub fewer : (f : ℕ → ℕ) (k b : ℕ) (bs : List ℕ) → length (in_set f k (different bs)) ≤ length (in_set f k (different (b ∷ bs)))
fewer f k b bs = go (has bs b)
  where
    one : (t : Bool) → length (in_set f k (different bs)) ≤ length (cond t (b ∷ in_set f k (different bs)) (in_set f k (different bs)))
    one true = omega arith
    one false = omega arith

    go : (t : Bool) → length (in_set f k (different bs)) ≤ length (in_set f k (cond t (different bs) (b ∷ different bs)))
    go true = omega arith
    go false = one (eqb (f b) k)

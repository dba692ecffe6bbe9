-- The order of a set's ways: each way once, whatever the policy was told.
use Rattle.std.specs.Prelude.{◌≡◌, ℕ, zero, suc, ◌+◌, ◌<◌, ◌≤◌, cond, List, [], ◌∷◌, ◌++◌, ◌==◌, ◌≢◌, refl}
use Rattle.std.proofs.Common.{sym, ◌∙◌, ap, subst, inl, inr, append_assoc, arith}
use Rattle.std.proofs.lemmas.Bool.{eq-eqb, ne_eqb, cases_eq}
use Rattle.std.proofs.lemmas.Bool.Decides.{nat_tests}
use Rattle.ways.specs.Ways.{Orders, Ordered, Moves, Reached, falling, last_of}
use Rattle.ways.specs.Ways.Reached.{made, hits, loads, empties}
use Rattle.ways.specs.Members.{In, cut}

-- how often a number stands in a list
abbrev pub times : ℕ → List ℕ → ℕ
times w [] = 0
times w (x ∷ xs) = cond (x == w) 1 0 + times w xs

times_append : (w : ℕ) (xs ys : List ℕ) → times w (xs ++ ys) ≡ times w xs + times w ys
times_append w [] ys = omega arith
times_append w (x ∷ xs) ys = omega (arith, times_append w xs ys)

times_same : (x w : ℕ) (xs : List ℕ) → x ≡ w → times w (x ∷ xs) ≡ 1 + times w xs
times_same x w xs e = rw (eq-eqb x w e)

times_other : (x w : ℕ) (xs : List ℕ) → (x ≢ w) → times w (x ∷ xs) ≡ times w xs
times_other x w xs e = rw (ne_eqb x w e) (omega arith)

counted : (w : ℕ) (xs : List ℕ) → In w xs → 0 < times w xs
counted w [] i = absurd i
counted w (x ∷ xs) i = grind (arith, nat_tests, counted w xs)

in_counted : (w : ℕ) (xs : List ℕ) → 0 < times w xs → In w xs
in_counted w [] h = absurd (omega arith)
in_counted w (x ∷ xs) h = grind (arith, nat_tests, in_counted w xs)

-- the numbers below n, each once
pub record EachOnce (n : ℕ) (os : List ℕ) : Type 0 where
  pub once : (w : ℕ) → w < n → times w os ≡ 1
  pub none : (w : ℕ) → n ≤ w → times w os ≡ 0

module _ {n : ℕ} {os : List ℕ} (e : EachOnce n os) where
  pub in_once : (w : ℕ) → w < n → In w os
  in_once w l = in_counted w os (omega (arith, e.once w l))

  -- a number stands nowhere but where the list is cut
  pub only : (w : ℕ) (front back : List ℕ) → w < n → os ≡ front ++ (w ∷ back) → (In w front → ⊥) × (In w back → ⊥)
  only w front back l is =
      let t = ap (times w) is ∙ times_append w front (w ∷ back) in
      (λ i. grind (arith, nat_tests, e.once w l, counted w front i), λ i. grind (arith, nat_tests, e.once w l, counted w back i))

last_in : (x : ℕ) (xs : List ℕ) → In (last_of (x ∷ xs)) (x ∷ xs)
last_in x [] = inl refl
last_in x (y ∷ ys) = inr (last_in y ys)

pub last_below : {n : ℕ} (os : List ℕ) → EachOnce n os → 0 < n → last_of os < n
last_below {n} [] e h = absurd (omega (arith, e.once 0 h))
last_below {n} (x ∷ xs) e h = grind (arith, e.none (last_of (x ∷ xs)), counted (last_of (x ∷ xs)) (x ∷ xs) (last_in x xs))

once_falling : (n : ℕ) → EachOnce n (falling n)
once_falling n = record { once = λ w. (is n w).0; none = λ w. (is n w).1 }
  where
    is : (n w : ℕ) → (w < n → times w (falling n) ≡ 1) × (n ≤ w → times w (falling n) ≡ 0)
    is zero w = (λ l. absurd (omega arith), λ l. refl)
    is (suc n) w = grind (arith, nat_tests, is n w)

-- another list with the same numbers as often
same_once : {n : ℕ} {os : List ℕ} (new : List ℕ) → ((w : ℕ) → times w new ≡ times w os) → EachOnce n os → EachOnce n new
same_once new t e = record { once = λ w h. t w ∙ e.once w h; none = λ w h. t w ∙ e.none w h }

-- one way moves over some others
moved : {n : ℕ} (front passed back : List ℕ) (way : ℕ) → EachOnce n (front ++ (passed ++ (way ∷ back))) → EachOnce n (front ++ (way ∷ (passed ++ back)))
moved front passed back way = same_once (front ++ (way ∷ (passed ++ back))) (λ w. simp times_append (omega arith))

moved_back : {n : ℕ} (front back : List ℕ) (way : ℕ) → EachOnce n (front ++ (way ∷ back)) → EachOnce n ((front ++ back) ++ (way ∷ []))
moved_back front back way = same_once ((front ++ back) ++ (way ∷ [])) (λ w. simp times_append (omega arith))

-- each way stands once in the order of each set
abbrev pub AllOnce : {Q : Type 0} → Orders Q → ℕ → ℕ → Q → Type 0
AllOnce P sets ways q = (set : ℕ) → set < sets → EachOnce ways (P.order q set)

-- the laws of a policy, of which the second need hold only where the way stands once
module _ {Q : Type 0} {P : Orders Q} {sets ways : ℕ}
    (at_making : (set : ℕ) → set < sets → P.order (P.start sets ways) set ≡ falling ways)
    (moves : (q : Q) → Reached P sets ways q → (set way : ℕ) → set < sets → way < ways → (front back : List ℕ) → P.order q set ≡ front ++ (way ∷ back) → (In way front → ⊥) → (In way back → ⊥) → Moves P sets q set way front back) where
  module _ (q : Q) (r : Reached P sets ways q) (set way : ℕ) (set_low : set < sets) (way_low : way < ways) (all : AllOnce P sets ways q) where
    move : (front back : List ℕ) → P.order q set ≡ front ++ (way ∷ back) → Moves P sets q set way front back
    move front back e = let o = only (all set set_low) way front back way_low e in moves q r set way set_low way_low front back e o.0 o.1

    place : (front : List ℕ) × (back : List ℕ) × (P.order q set ≡ front ++ (way ∷ back))
    place = cut way (P.order q set) (in_once (all set set_low) way way_low)

    to : Moves P sets q set way place.0 place.1
    to = move place.0 place.1 place.2

    here : EachOnce ways (place.0 ++ (way ∷ place.1))
    here = subst (EachOnce ways) place.2 (all set set_low)

    -- the order of one set changes
    one_set : (new : Q) → ((other : ℕ) → other < sets → (other ≡ set → ⊥) → P.order new other ≡ P.order q other) → EachOnce ways (P.order new set) → AllOnce P sets ways new
    one_set new same changed other l = elim (cases_eq other set) [
      | inl e ↦ subst (λ n. EachOnce ways (P.order new n)) (sym e) changed
      | inr ne ↦ subst (EachOnce ways) (sym (same other l ne)) (all other l)
    ]

    once_hit : AllOnce P sets ways (P.hit q set way)
    once_hit =
        let k = to.on_hit in
        let e : place.0 ++ (way ∷ place.1) ≡ k.0 ++ (k.1 ++ (way ∷ place.1)) = ap (λ f. f ++ (way ∷ place.1)) k.2 ∙ append_assoc k.0 k.1 (way ∷ place.1) in
        one_set (P.hit q set way) (λ other l ne. (to.others other l ne).2) (subst (EachOnce ways) (sym k.3) (moved k.0 k.1 place.1 way (subst (EachOnce ways) e here)))

    once_load : AllOnce P sets ways (P.loaded q set way)
    once_load = one_set (P.loaded q set way) (λ other l ne. (to.others other l ne).0) (subst (EachOnce ways) (sym to.on_load) (moved [] place.0 place.1 way here))

    once_empty : AllOnce P sets ways (P.emptied q set way)
    once_empty = one_set (P.emptied q set way) (λ other l ne. (to.others other l ne).1) (subst (EachOnce ways) (sym to.on_empty) (moved_back place.0 place.1 way here))

  once_reached : {q : Q} → Reached P sets ways q → AllOnce P sets ways q
  once_reached (made e) = λ set l. subst (EachOnce ways) (sym (at_making set l)) (once_falling ways)
  once_reached (hits {q = q} r set way sl wl) = once_hit q r set way sl wl (once_reached r)
  once_reached (loads {q = q} r set way sl wl) = once_load q r set way sl wl (once_reached r)
  once_reached (empties {q = q} r set way sl wl) = once_empty q r set way sl wl (once_reached r)

  pub ordered : Ordered P sets ways
  ordered = record { at_making = at_making; moves = λ q r set way sl wl. move q r set way sl wl (once_reached r) }

pub all_once : {Q : Type 0} {P : Orders Q} {sets ways : ℕ} → Ordered P sets ways → {q : Q} → Reached P sets ways q → AllOnce P sets ways q
all_once h = once_reached h.at_making (λ q r set way sl wl front back e a b. h.moves q r set way sl wl front back e)

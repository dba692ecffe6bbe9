-- What the check of a list computes, in words of the list.
use Rattle.std.proofs.Common.{◌≡◌, ℕ, zero, suc, ◌+◌, ◌-◌, ◌%◌, ◌<◌, Bool, true, false, ◌⊎◌, List, [], ◌∷◌, length, get_or, is_some, Some, None, Ok, Err, Option, Result, refl, ap, ◌∙◌, inl, inr, arith}
use Rattle.std.specs.Option.{option_map}
use Rattle.words.specs.declared.list.ListSummary.{ListSummary}
use Rattle.words.specs.declared.refusal.ListRefusal.{ListRefusal}
use Rattle.words.specs.declared.refusal.ListRefusal.TheVariants.{Size, Layout}
use Rattle.words.specs.declared.request.Operation.{Operation}
use Rattle.words.specs.Lists.{fits, words}
use Rattle.words.specs.Refusals.{Told}
use Rattle.words.specs.Requests.{Asked, decoded}
use Rattle.words.specs.Summaries.{judged, checked, told_check, Legal, AllLegal, total_waits, Justified}

abbrev pub taken : ℕ → ℕ → Told
taken requests waits = record { number = 0; values = requests ∷ waits ∷ [] }

abbrev pub outside : ℕ → Told
outside word = record { number = 8; values = word ∷ [] }

-- all words are legal, or the one at k is the first that is not
abbrev pub Good : ℕ → ℕ → List (List ℕ) → Told → Type 0
Good n t ws r = AllLegal ws (length ws) × (r ≡ taken (n + length ws) (t + total_waits ws))

abbrev pub Bad : ℕ → List (List ℕ) → Told → Type 0
Bad n ws r = (k : ℕ) × (k < length ws) × AllLegal ws k × (Legal (get_or ws k []) → ⊥) × (r ≡ outside (n + k + 1))

-- the wait of what a word asks
waits : (n : ℕ) (o : Option Operation) (q : Asked) → option_map (λ x. record { wait = n; operation = x }) o ≡ Some q → q.wait ≡ n
waits n None q e = cc
waits n (Some x) q e = cc

-- one word more in front
all_more : (w : List ℕ) (ws : List (List ℕ)) (n : ℕ) → Legal w → AllLegal ws n → AllLegal (w ∷ ws) (suc n)
all_more w ws n l all zero h = l
all_more w ws n l all (suc k) h = all k (omega arith)

module _ (n t : ℕ) (w : List ℕ) (ws : List (List ℕ)) where
  -- the word in front is outside the layout
  first_bad : decoded w ≡ None → Bad n (w ∷ ws) (outside (n + 1))
  first_bad e = (0, omega arith, λ k h. absurd (omega arith), λ l. cc, ap outside (omega arith))

  -- it is legal, and the others are as they are
  first_good : (q : Asked) → decoded w ≡ Some q → (r : Told) → Good (n + 1) (t + q.wait) ws r ⊎ Bad (n + 1) ws r → Good n t (w ∷ ws) r ⊎ Bad n (w ∷ ws) r
  first_good q e r (inl (all, is)) =
      let wait : q.wait ≡ get_or w 0 0 % 32 = waits (get_or w 0 0 % 32) _ q e in
      inl (all_more w ws (length ws) (ap is_some e) all, grind (arith, is, wait))
  first_good q e r (inr (k, h, all, not, is)) = inr (suc k, omega arith, all_more w ws k (ap is_some e) all, not, grind (arith, is))

pub judged_so : (n t : ℕ) (ws : List (List ℕ)) → Good n t ws (judged n t ws) ⊎ Bad n ws (judged n t ws)
judged_so n t [] = inl (λ k h. absurd (omega arith), grind arith)
judged_so n t (w ∷ ws) = by (decoded w) refl (λ wait. judged_so (n + 1) (t + wait) ws)
  where
    by : (d : Option Asked) → decoded w ≡ d → ((wait : ℕ) → Good (n + 1) (t + wait) ws (judged (n + 1) (t + wait) ws) ⊎ Bad (n + 1) ws (judged (n + 1) (t + wait) ws)) → Good n t (w ∷ ws) (judged n t (w ∷ ws)) ⊎ Bad n (w ∷ ws) (judged n t (w ∷ ws))
    by (Some q) e rest = rw (e, judged) (first_good n t w ws q e (judged (n + 1) (t + q.wait) ws) (rest q.wait))
    by None e rest = rw (e, judged) (inr (first_bad n t w ws e))

numbers : {t u : Told} → t ≡ u → t.number ≡ u.number
numbers e = ap (λ r. r.number) e

-- a list of a length that fits, with its answer
good_list : (list : List ℕ) (r : Result ListSummary ListRefusal) → fits (length list) ≡ true → told_check r ≡ judged 0 0 (words list) → Good 0 0 (words list) (judged 0 0 (words list)) ⊎ Bad 0 (words list) (judged 0 0 (words list)) → Justified list r
good_list list (Ok s) f e (inl (all, is)) =
    let n : s.requests ≡ 0 + length (words list) = ap (λ r. get_or r.values 0 0) (e ∙ is) in
    let t : s.waits ≡ 0 + total_waits (words list) = ap (λ r. get_or r.values 1 0) (e ∙ is) in
    (f, omega arith, λ k h. all k (omega arith), omega arith)
good_list list (Err (Layout n)) f e (inr (k, h, all, not, is)) =
    let m : n ≡ 0 + k + 1 = ap (λ r. get_or r.values 0 0) (e ∙ is) in
    let j : n - 1 ≡ k = omega arith in
    (f, omega arith, omega arith, λ i l. all i (omega arith), rw j not)
good_list list (Ok s) f e (inr b) = absurd (omega (arith, numbers (e ∙ b.4)))
good_list list (Err Size) f e (inl g) = absurd (omega (arith, numbers (e ∙ g.1)))
good_list list (Err Size) f e (inr b) = absurd (omega (arith, numbers (e ∙ b.4)))
good_list list (Err (Layout n)) f e (inl g) = absurd (omega (arith, numbers (e ∙ g.1)))

bad_size : (list : List ℕ) (r : Result ListSummary ListRefusal) → fits (length list) ≡ false → told_check r ≡ record { number = 7; values = [] } → Justified list r
bad_size list (Ok s) f e = absurd (omega (arith, numbers e))
bad_size list (Err Size) f e = f
bad_size list (Err (Layout n)) f e = absurd (omega (arith, numbers e))

pub justified : (list : List ℕ) (r : Result ListSummary ListRefusal) → told_check r ≡ checked list → Justified list r
justified list r e = by (fits (length list)) refl
  where
    by : (b : Bool) → fits (length list) ≡ b → Justified list r
    by true f = good_list list r f (rw f at e) (judged_so 0 0 (words list))
    by false f = bad_size list r f (rw f at e)

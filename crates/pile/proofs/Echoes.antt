-- A history that follows another: each item of the low one is an item of the high one, in the same order.
use Rattle.std.proofs.Common.{◌≡◌, ℕ, suc, ◌-◌, ◌<◌, ◌≤◌, cond, ltb, ◌⊎◌, List, [], ◌∷◌, ◌++◌, length, get_or, sym, ap, ◌∙◌, inl, inr, arith}
use Rattle.std.proofs.lemmas.Bool.{lt-ltb, le-ltb, cases_lt}
use Rattle.std.proofs.lemmas.List.{get_or_append_left, get_or_push, length_push}
use Rattle.level.proofs.Histories.{newest}

-- the item p of the low history is the item f p of the high one
pub record Echo (low high : List ℕ) (f : ℕ → ℕ) : Type 0 where
  pub some : 0 < length low
  pub within : (p : ℕ) → f p < length high
  pub rises : (p q : ℕ) → p ≤ q → f p ≤ f q
  pub item : (p : ℕ) → p < length low → get_or low p 0 ≡ get_or high (f p) 0

-- the newest item of the low history is the newest of the high one
abbrev pub Settled : List ℕ → List ℕ → (ℕ → ℕ) → Type 0
Settled low high f = suc (f (length low - 1)) ≡ length high

-- f below n, and k from n on
abbrev pub onward : (ℕ → ℕ) → ℕ → ℕ → ℕ → ℕ
onward f n k p = cond (ltb p n) (f p) k

onward_below : (f : ℕ → ℕ) (n k p : ℕ) → p < n → onward f n k p ≡ f p
onward_below f n k p h = rw (lt-ltb p n h)

onward_above : (f : ℕ → ℕ) (n k p : ℕ) → n ≤ p → onward f n k p ≡ k
onward_above f n k p h = rw (le-ltb p n h)

module _ {low high : List ℕ} {f : ℕ → ℕ} (e : Echo low high f) (k : ℕ) where
  -- the new function lies on or above the old one, where k does
  pub onward_later : ((p : ℕ) → f p ≤ k) → (p : ℕ) → f p ≤ onward f (length low) k p
  onward_later h p = go (cases_lt p (length low))
    where
      go : (p < length low) ⊎ (length low ≤ p) → f p ≤ onward f (length low) k p
      go (inl l) = omega (arith, onward_below f (length low) k p l)
      go (inr l) = omega (arith, onward_above f (length low) k p l, h p)

  onward_rises : ((p : ℕ) → f p ≤ k) → (p q : ℕ) → p ≤ q → onward f (length low) k p ≤ onward f (length low) k q
  onward_rises h p q le = go (cases_lt p (length low)) (cases_lt q (length low))
    where
      go : (p < length low) ⊎ (length low ≤ p) → (q < length low) ⊎ (length low ≤ q) → onward f (length low) k p ≤ onward f (length low) k q
      go (inl a) (inl b) = omega (arith, onward_below f (length low) k p a, onward_below f (length low) k q b, e.rises p q le)
      go (inl a) (inr b) = omega (arith, onward_below f (length low) k p a, onward_above f (length low) k q b, h p)
      go (inr a) (inl b) = absurd (omega arith)
      go (inr a) (inr b) = omega (arith, onward_above f (length low) k p a, onward_above f (length low) k q b)

  onward_within : (n : ℕ) → k < n → length high ≤ n → (p : ℕ) → onward f (length low) k p < n
  onward_within n h l p = go (cases_lt p (length low))
    where
      go : (p < length low) ⊎ (length low ≤ p) → onward f (length low) k p < n
      go (inl a) = omega (arith, onward_below f (length low) k p a, e.within p)
      go (inr a) = omega (arith, onward_above f (length low) k p a)

module _ {low high : List ℕ} {f : ℕ → ℕ} (e : Echo low high f) where
  -- the newest value of the high history is written low
  abbrev pub sent : ℕ → ℕ
  sent = onward f (length low) (length high - 1)

  pub echo_sent : (v : ℕ) → v ≡ newest high → Echo (low ++ (v ∷ [])) high sent
  echo_sent v same = record {
    some = omega (arith, length_push low v);
    within = onward_within e (length high - 1) (length high) (omega (arith, e.within 0)) (omega arith);
    rises = onward_rises e (length high - 1) (λ p. omega (arith, e.within p));
    item = λ p l. go p l (cases_lt p (length low));
  }
    where
      go : (p : ℕ) → p < length (low ++ (v ∷ [])) → (p < length low) ⊎ (length low ≤ p) → get_or (low ++ (v ∷ [])) p 0 ≡ get_or high (sent p) 0
      go p l (inl a) = get_or_append_left low (v ∷ []) 0 p a ∙ e.item p a ∙ ap (λ n. get_or high n 0) (sym (onward_below f (length low) (length high - 1) p a))
      go p l (inr a) = get_or_push low v 0 p (omega (arith, length_push low v)) ∙ same ∙ ap (λ n. get_or high n 0) (sym (onward_above f (length low) (length high - 1) p a))

  pub sent_later : (p : ℕ) → f p ≤ sent p
  sent_later = onward_later e (length high - 1) (λ p. omega (arith, e.within p))

  pub sent_settled : (v : ℕ) → Settled (low ++ (v ∷ [])) high sent
  sent_settled v = omega (arith, onward_above f (length low) (length high - 1) (length (low ++ (v ∷ [])) - 1) (omega (arith, length_push low v)), e.within 0)

  -- a value is written high
  abbrev pub raised : ℕ → ℕ
  raised = onward f (length low) (length high)

  pub echo_raised : (v : ℕ) → Echo low (high ++ (v ∷ [])) raised
  echo_raised v = record {
    some = e.some;
    within = onward_within e (length high) (length (high ++ (v ∷ []))) (omega (arith, length_push high v)) (omega (arith, length_push high v));
    rises = onward_rises e (length high) (λ p. omega (arith, e.within p));
    item = λ p l. e.item p l ∙ sym (get_or_append_left high (v ∷ []) 0 (f p) (e.within p)) ∙ ap (λ n. get_or (high ++ (v ∷ [])) n 0) (sym (onward_below f (length low) (length high) p l));
  }

  pub raised_later : (p : ℕ) → f p ≤ raised p
  raised_later = onward_later e (length high) (λ p. omega (arith, e.within p))

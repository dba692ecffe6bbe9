-- One block more among those named.
use Rattle.std.proofs.Common.{◌≡◌, ℕ, ◌+◌, Bool, true, false, cond, not, ◌||◌, eqb, List, [], ◌∷◌, Some, None, sym, refl, ap, ◌∙◌, inl, inr, arith}
use Rattle.std.specs.BTreeSet.{contains, Updates, btree_set_len}
use Rattle.std.specs.Cmp.{unsigned_tied}
use Rattle.std.specs.BTreeSet.{BTreeSet}
use Rattle.std.specs.Ordering.{nat_cmp}
use Rattle.std.proofs.lemmas.Bool.{eq-eqb, ne_eqb, cases_eq}
use Rattle.words.specs.declared.request.Operation.{Operation}
use Rattle.listcheck.specs.Account.{block, new_blocks}

-- only what was named before counts
same_before : (f g : ℕ → Bool) → ((c : ℕ) → f c ≡ g c) → (os : List Operation) → new_blocks f os ≡ new_blocks g os
same_before f g e [] = refl
same_before f g e (o ∷ os) =
    elim (block o) as (λ b. elim b [ Some b ↦ cond (f b) 0 1 + new_blocks (λ c. eqb c b || f c) os | None ↦ new_blocks f os ] ≡ elim b [ Some b ↦ cond (g b) 0 1 + new_blocks (λ c. eqb c b || g c) os | None ↦ new_blocks g os ]) [
      | Some b ↦ rw (e b, same_before (λ c. eqb c b || f c) (λ c. eqb c b || g c) (λ c. ap (λ x. eqb c b || x) (e c)) os)
      | None ↦ same_before f g e os
    ]

-- a set with one number more
now_has : (s n : BTreeSet ℕ) (b : ℕ) → Updates nat_cmp s n b true → (c : ℕ) → contains nat_cmp n c ≡ (eqb c b || contains nat_cmp s c)
now_has s n b put c = elim (cases_eq c b) [
  | inl e ↦ rw (eq-eqb c b e) (ap (contains nat_cmp n) e ∙ put.1)
  | inr ne ↦ rw (ne_eqb c b ne) (put.2 c (unsigned_tied b c ∙ ne_eqb b c (λ e. ne (sym e))))
]

-- the block of an operation was put in
pub named_more : (s n : BTreeSet ℕ) (b : ℕ) (new : Bool) → Updates nat_cmp s n b true → new ≡ not (contains nat_cmp s b) → btree_set_len n ≡ btree_set_len s + cond new 1 0
    → (o : Operation) → block o ≡ Some b → (os : List Operation) → btree_set_len n + new_blocks (contains nat_cmp n) os ≡ btree_set_len s + new_blocks (contains nat_cmp s) (o ∷ os)
named_more s n b new put added long o e os =
    let one : cond {A = ℕ} new 1 0 ≡ cond (contains nat_cmp s b) 0 1 = rw added (elim (contains nat_cmp s b) as (λ x. cond {A = ℕ} (not x) 1 0 ≡ cond x 0 1) [ true ↦ refl | false ↦ refl ]) in
    let rest = same_before (contains nat_cmp n) (λ c. eqb c b || contains nat_cmp s c) (now_has s n b put) os in
    let step : new_blocks (contains nat_cmp s) (o ∷ os) ≡ cond (contains nat_cmp s b) 0 1 + new_blocks (λ c. eqb c b || contains nat_cmp s c) os =
    ap (λ x. elim x [ Some b ↦ cond (contains nat_cmp s b) 0 1 + new_blocks (λ c. eqb c b || contains nat_cmp s c) os | None ↦ new_blocks (contains nat_cmp s) os ]) e in
    omega (arith, long, one, rest, step)

-- First in, first out, and least recently used keep the laws of a policy.
use Rattle.std.specs.Prelude.{◌≡◌, ℕ, ◌<◌, List, [], ◌∷◌, ◌++◌, reverse, length, get_or, ◌≢◌, slice_index_or, slice_set, refl}
use Rattle.std.proofs.Common.{sym, ◌∙◌, ap, append-nil, arith}
use Rattle.std.proofs.lemmas.List.{get_or-set_same, get_or-set_other, get_or_past, get_or-replicate, length-append, take_all}
use Rattle.std.proofs.lemmas.Bool.Decides.{nat_tests}
use Rattle.std.proofs.lemmas.Grind.{common_steps}
use Rattle.ways.specs.Policies.{without, put_first, put_last, Queues, fifo, lru}
use Rattle.ways.specs.Ways.{Ordered, Moves, falling}
use Rattle.ways.specs.Members.{In, in_reverse}
use Rattle.ways.specs.Orders.{ordered}

without_one : (way : ℕ) (front back : List ℕ) → (In way front → ⊥) → without way (front ++ (way ∷ back)) ≡ front ++ back
without_one way [] back h = grind (arith, nat_tests)
without_one way (x ∷ xs) back h = grind (arith, nat_tests, without_one way xs back)

first_is : (way : ℕ) (front back : List ℕ) → (In way front → ⊥) → put_first way (front ++ (way ∷ back)) ≡ way ∷ (front ++ back)
first_is way front back h = rw (without_one way front back h) (take_all (length (front ++ (way ∷ back))) (way ∷ (front ++ back)) (simp length-append (omega arith)))

last_is : (way : ℕ) (front back : List ℕ) → (In way back → ⊥) → put_last way (front ++ (way ∷ back)) ≡ (front ++ back) ++ (way ∷ [])
last_is way front back h =
    let turned : reverse (front ++ (way ∷ back)) ≡ reverse back ++ (way ∷ reverse front) = grind (arith, common_steps) in
    rw (turned, first_is way (reverse back) (reverse front) (λ i. h (in_reverse way back i))) (grind (arith, common_steps))

-- a set whose order has a way is there
within : (q : Queues) (k way : ℕ) (front back : List ℕ) → slice_index_or q k [] ≡ front ++ (way ∷ back) → k < length q
within q k way front back is = grind (arith, get_or_past, length-append front (way ∷ back), ap length is)

module _ (q : Queues) (k way : ℕ) (front back : List ℕ) (is : get_or q k [] ≡ front ++ (way ∷ back)) (before : In way front → ⊥) (after : In way back → ⊥) where
  changed : (change : List ℕ → List ℕ) → slice_index_or (slice_set q k (change (slice_index_or q k []))) k [] ≡ change (front ++ (way ∷ back))
  changed change = get_or-set_same q k (change (slice_index_or q k [])) [] (within q k way front back is) ∙ ap change is

  loaded_is : get_or (slice_set q k (put_first way (slice_index_or q k []))) k [] ≡ way ∷ (front ++ back)
  loaded_is = changed (put_first way) ∙ first_is way front back before

  emptied_is : get_or (slice_set q k (put_last way (slice_index_or q k []))) k [] ≡ (front ++ back) ++ (way ∷ [])
  emptied_is = changed (put_last way) ∙ last_is way front back after

  -- another set keeps its order
  same : (change : List ℕ → List ℕ) (other : ℕ) → (other ≢ k) → slice_index_or (slice_set q k (change (slice_index_or q k []))) other [] ≡ slice_index_or q other []
  same change other ne = get_or-set_other q k other (change (slice_index_or q k [])) [] ne

  fifo_moves : (sets : ℕ) → Moves fifo sets q k way front back
  fifo_moves sets = record {
    on_load = loaded_is;
    on_empty = emptied_is;
    on_hit = (front, [], sym (append-nil front), is);
    others = λ other l ne. (same (put_first way) other ne, same (put_last way) other ne, refl);
  }

  lru_moves : (sets : ℕ) → Moves lru sets q k way front back
  lru_moves sets = record {
    on_load = loaded_is;
    on_empty = emptied_is;
    on_hit = ([], front, refl, loaded_is);
    others = λ other l ne. (same (put_first way) other ne, same (put_last way) other ne, same (put_first way) other ne);
  }

at_making : (sets ways k : ℕ) → k < sets → fifo.order (fifo.start sets ways) k ≡ falling ways
at_making sets ways k l = get_or-replicate sets k (falling ways) [] l

pub fifo_ordered : (sets ways : ℕ) → Ordered fifo sets ways
fifo_ordered sets ways = ordered (at_making sets ways) (λ q r k way kl wl front back is before after. fifo_moves q k way front back is before after sets)

pub lru_ordered : (sets ways : ℕ) → Ordered lru sets ways
lru_ordered sets ways = ordered (at_making sets ways) (λ q r k way kl wl front back is before after. lru_moves q k way front back is before after sets)

-- One turn of the eviction of every entry.
use Rattle.std.proofs.Common.{◌≡◌, ℕ, suc, ◌+◌, ◌-◌, ◌<◌, ◌≤◌, sym, ap, ◌∙◌, add-one, arith}
use Rattle.level.specs.Level.{Rules, topped}
use Rattle.ways.specs.Ways.{Shape, Orders}
use Rattle.pile.specs.Cache.{Cached, Evicted, evict_at, evict_all}

module _ {S Q : Type 0} (R : Rules S) (m : Shape) (P : Orders Q) where
  -- the eviction of the entries from entry i on
  abbrev pub from : Cached S Q → ℕ → Evicted S Q
  from s i = evict_all R m P s i (8 - i)

  module _ (s : Cached S Q) (i : ℕ) (h : i < 8) where
    state_more : (from s i).state ≡ (from (evict_at R m P s i).state (i + 1)).state
    state_more = let e : 8 - i ≡ suc (8 - (i + 1)) = omega arith in rw (e, add-one i)

    spent_more : (from s i).spent ≡ 1 + (evict_at R m P s i).spent + (from (evict_at R m P s i).state (i + 1)).spent
    spent_more = let e : 8 - i ≡ suc (8 - (i + 1)) = omega arith in rw (e, add-one i)

  -- before the turn of entry i, where `all` is the eviction of all eight
  pub record Due (all : Evicted S Q) (s : Cached S Q) (i clocks : ℕ) : Type 0 where
    pub fits : clocks ≤ 4294967295
    pub state : (from s i).state ≡ all.state
    pub spent : topped (clocks + (from s i).spent) ≡ topped all.spent

  pub turn : (all : Evicted S Q) (s t : Cached S Q) (i slot clocks paid next : ℕ) → slot ≡ i → i < 8 → t ≡ (evict_at R m P s slot).state → paid ≡ topped (evict_at R m P s slot).spent → next ≡ topped (topped (clocks + paid) + 1) → Due all s i clocks → Due all t (i + 1) next
  turn all s t i slot clocks paid next at h e p n due =
      let gone = e ∙ ap (λ k. (evict_at R m P s k).state) at in
      let told = p ∙ ap (λ k. topped (evict_at R m P s k).spent) at in
      record {
        fits = omega (arith, n);
        state = rw gone (sym (state_more s i h) ∙ due.state);
        spent = rw (n, gone) (omega (arith, told, spent_more s i h));
      }

-- The orders of the sets, side by side in one row.
use Rattle.std.proofs.Common.{◌≡◌, ℕ, zero, suc, ◌+◌, ◌-◌, ◌*◌, ◌%◌, ◌<◌, ◌≤◌, List, [], ◌∷◌, reverse, length, get_or, take, drop, set, sym, refl, ap, ◌∙◌, mod-lt, mod-eq_of_lt, suc-mul, zero-mul, arith}
use Rattle.std.proofs.lemmas.Slice.{take-put_mid_below}
use borrow.Rule.Slice.PartMut.{put_mid}
use Rattle.std.proofs.lemmas.List.{map-append, take-map, drop-map, length-map, length-take, length-drop, length-reverse, length-replicate, length-take-le, get_or-take, get_or-drop, get_or-map, get_or-replicate, take_at, drop_at, drop-drop, drop-append-le, drop-take, ext_get_or}
use Rattle.std.proofs.lemmas.Nat.{mod-mul-add}
use Rattle.std.proofs.lemmas.Bool.Decides.{nat_tests}
use Rattle.std.proofs.lemmas.Grind.{common_steps}
use Rattle.ways.specs.Policies.{without, put_first, put_last, first_in, last_in, fresh}
use Rattle.ways.specs.Row.{ways_of, parts, orders_of}
use Rattle.ways.specs.Slots.{set_of, way_of, at_slot, Victim}
use Rattle.ways.specs.Ways.{Shape, falling, last_of}
use Rattle.ways.proofs.Places.{base_fits, ways_some, set_below}

-- ---- a row in parts

parts_at : (count size : ℕ) (q : List ℕ) (k : ℕ) → k < count → get_or (parts count size q) k [] ≡ take size (drop (k * size) q)
parts_at zero size q k h = absurd (omega arith)
parts_at (suc count) size q zero h = simp zero-mul
parts_at (suc count) size q (suc k) h = parts_at count size (drop size q) k (omega arith) ∙ simp (drop-drop, suc-mul) (ap (λ n. take size (drop n q)) (omega arith))

length_parts : (count size : ℕ) (q : List ℕ) → length (parts count size q) ≡ count
length_parts zero size q = refl
length_parts (suc count) size q = omega (arith, length_parts count size (drop size q))

-- behind the first part, a part is replaced
rest_put : (size base : ℕ) (q new : List ℕ) → size + base ≤ length q → drop size (put_mid (size + base) size q new) ≡ put_mid base size (drop size q) new
rest_put size base q new h =
    let n : size ≤ length (take (size + base) q) = simp length-take (omega arith) in
    rw (drop-append-le, drop-take size base q, drop-drop base size q)

-- one part is replaced, and no other
parts_put : (count size : ℕ) (q new : List ℕ) (k : ℕ) → length new ≡ size → k < count → k * size + size ≤ length q → parts count size (put_mid (k * size) size q new) ≡ set (parts count size q) k new
parts_put zero size q new k n h l = absurd (omega arith)
parts_put (suc count) size q new zero n h l = rw (zero-mul size, take_at new (drop size q) size n, drop_at new (drop size q) size n)
parts_put (suc count) size q new (suc k) n h l =
    let e : suc k * size ≡ size + k * size = omega (arith, suc-mul k size) in
    rw (e, take-put_mid_below (size + k * size) size q new size (omega arith) (omega arith), rest_put size (k * size) q new (omega arith))
    (ap (λ r. take size q ∷ r) (parts_put count size (drop size q) new k n (omega arith) (rw (length-drop size q) (omega arith))))

-- ---- the last of a part

last_nth : (xs : List ℕ) (n : ℕ) → length xs ≡ suc n → last_of xs ≡ get_or xs n 0
last_nth [] n e = absurd (omega arith)
last_nth (x ∷ []) n e = grind (arith, common_steps)
last_nth (x ∷ y ∷ ys) zero e = absurd (omega arith)
last_nth (x ∷ y ∷ ys) (suc n) e = last_nth (y ∷ ys) n (omega arith)

last_part : (xs : List ℕ) (base n : ℕ) → base + n ≤ length xs → 0 < n → get_or xs (base + n - 1) 0 ≡ last_of (take n (drop base xs))
last_part xs base n h p =
    let size : length (take n (drop base xs)) ≡ suc (n - 1) = simp (length-take, length-drop) (omega arith) in
    let k : n - 1 < n = omega arith in
    let e : base + n - 1 ≡ base + (n - 1) = omega arith in
    rw e (sym (last_nth (take n (drop base xs)) (n - 1) size ∙ rw (get_or-take, get_or-drop)))

-- ---- what a move keeps

length_without : (way : ℕ) (os : List ℕ) → length os ≤ suc (length (without way os))
length_without way [] = omega arith
length_without way (x ∷ xs) = grind (arith, nat_tests, length_without way xs)

length_first : (way : ℕ) (os : List ℕ) → length (put_first way os) ≡ length os
length_first way os = length-take-le (length os) (way ∷ without way os) (length_without way os)

length_last : (way : ℕ) (os : List ℕ) → length (put_last way os) ≡ length os
length_last way os = length-reverse (put_first way (reverse os)) ∙ length_first way (reverse os) ∙ length-reverse os

-- ---- the rows of the code

length_ways : (ways : ℕ) (row : List ℕ) → length (ways_of ways row) ≡ length row
length_ways ways row = length-map row (λ b. b % ways)

-- a part of a row is replaced
ways_put : (ways base size : ℕ) (row new : List ℕ) → ways_of ways (put_mid base size row new) ≡ put_mid base size (ways_of ways row) (ways_of ways new)
ways_put ways base size row new = simp (map-append, take-map, drop-map)

module _ (m : Shape) (whole : m.sets * m.ways ≡ 8) (row : List ℕ) (long : length row ≡ 8) where
  module _ (slot : ℕ) (low : slot < 8) (base size : ℕ) (new : List ℕ) (start : base ≡ set_of m slot * m.ways) (count : size ≡ m.ways) where
    abbrev pub old : List ℕ
    old = take size (drop base row)

    put : (change : List ℕ → List ℕ) → ((os : List ℕ) → length (change os) ≡ length os) → ways_of (length old) new ≡ change (ways_of (length old) old) → orders_of m (put_mid base size row new) ≡ set (orders_of m row) (set_of m slot) (change (get_or (orders_of m row) (set_of m slot) []))
    put change same e =
        let k : set_of m slot < m.sets = set_below m.sets m.ways whole slot low in
        let f : set_of m slot * m.ways + m.ways ≤ 8 = base_fits m.sets m.ways whole (set_of m slot) k in
        let fit : length old ≡ m.ways = simp (length-take, length-drop) (omega arith) in
        let there : get_or (orders_of m row) (set_of m slot) [] ≡ ways_of m.ways old = parts_at m.sets m.ways (ways_of m.ways row) (set_of m slot) k ∙ rw (← start, ← count) (simp (take-map, drop-map)) in
        let told : ways_of m.ways new ≡ change (ways_of m.ways old) = rw (← fit) e in
        let full : length (ways_of m.ways new) ≡ m.ways = ap length told ∙ same (ways_of m.ways old) ∙ length_ways m.ways old ∙ fit in
        rw (there, ← told, ways_put m.ways base size row new, start, count) (parts_put m.sets m.ways (ways_of m.ways row) (ways_of m.ways new) (set_of m slot) full k (rw (length_ways m.ways row, long) f))

    module _ (way : ℕ) (is : way ≡ way_of m slot) where
      pub put_way_first : ways_of (length old) new ≡ put_first way (ways_of (length old) old) → orders_of m (put_mid base size row new) ≡ at_slot m first_in (orders_of m row) slot
      put_way_first e = rw (← is) (put (put_first way) (length_first way) e)

      pub put_way_last : ways_of (length old) new ≡ put_last way (ways_of (length old) old) → orders_of m (put_mid base size row new) ≡ at_slot m last_in (orders_of m row) slot
      put_way_last e = rw (← is) (put (put_last way) (length_last way) e)

  -- the entry of the way that is read at the back of a set
  pub victim : (block set ways slot : ℕ) → set ≡ (m.split block).0 → set < m.sets → ways ≡ m.ways → slot ≡ (set * ways + get_or row (set * ways + ways - 1) 0 % ways) % 8 → Victim m (λ s. get_or (orders_of m row) s []) block slot
  victim block set ways slot at low count is =
      let f : set * m.ways + m.ways ≤ length (ways_of m.ways row) = rw (length_ways m.ways row, long) (base_fits m.sets m.ways whole set low) in
      let some : 0 < m.ways = ways_some m.sets m.ways whole in
      let back : set * m.ways + m.ways - 1 < length row = omega (arith, length_ways m.ways row) in
      let last : get_or row (set * m.ways + m.ways - 1) 0 % m.ways ≡ last_of (get_or (orders_of m row) set []) =
      sym (get_or-map (λ b. b % m.ways) row (set * m.ways + m.ways - 1) 0 0 back) ∙ last_part (ways_of m.ways row) (set * m.ways) m.ways f some ∙ ap last_of (sym (parts_at m.sets m.ways (ways_of m.ways row) set low)) in
      let below : last_of (get_or (orders_of m row) set []) < m.ways = rw (← last) (mod-lt (get_or row (set * m.ways + m.ways - 1) 0) some) in
      record { place = rw (← at) (is ∙ rw (count, last) (mod-eq_of_lt (omega (arith, length_ways m.ways row)))); below = rw (← at) below }

falling_at : (n k : ℕ) → k < n → get_or (falling n) k 0 ≡ n - 1 - k
falling_at zero k h = absurd (omega arith)
falling_at (suc n) zero h = omega arith
falling_at (suc n) (suc k) h = omega (arith, falling_at n k)

length_falling : (n : ℕ) → length (falling n) ≡ n
length_falling zero = refl
length_falling (suc n) = omega (arith, length_falling n)

-- a row in which the highest way is first in each set
module _ (m : Shape) (whole : m.sets * m.ways ≡ 8) (row : List ℕ) (long : length row ≡ 8) (each : (k : ℕ) → k < 8 → get_or row k 0 ≡ m.ways - 1 - k % m.ways) where
  part_falls : (s : ℕ) → s < m.sets → take m.ways (drop (s * m.ways) (ways_of m.ways row)) ≡ falling m.ways
  part_falls s h =
      let fits = base_fits m.sets m.ways whole s h in
      let size : length (take m.ways (drop (s * m.ways) (ways_of m.ways row))) ≡ m.ways = simp (length-take, length-drop, length-map) (omega arith) in
      ext_get_or 0 (take m.ways (drop (s * m.ways) (ways_of m.ways row))) (falling m.ways) (size ∙ sym (length_falling m.ways)) (λ j l.
      let low : j < m.ways = rw size at l in
      let here : s * m.ways + j < length row = omega arith in
      let told : get_or row (s * m.ways + j) 0 ≡ m.ways - 1 - j = each (s * m.ways + j) (omega arith) ∙ rw (mod-mul-add s m.ways j low) in
      rw (get_or-take, get_or-drop, get_or-map (λ b. b % m.ways) row (s * m.ways + j) 0 0 here, told, falling_at) (mod-eq_of_lt (omega arith)))

  pub new_orders : orders_of m row ≡ fresh m.sets m.ways
  new_orders =
      let count = length_parts m.sets m.ways (ways_of m.ways row) in
      ext_get_or [] (orders_of m row) (fresh m.sets m.ways) (count ∙ sym (length-replicate m.sets (falling m.ways))) (λ s h.
      let low : s < m.sets = rw count at h in
      parts_at m.sets m.ways (ways_of m.ways row) s low ∙ part_falls s low ∙ sym (get_or-replicate m.sets s (falling m.ways) [] low))

-- One turn of the loops that move a way to the front or to the back.
use Rattle.std.proofs.Common.{◌≡◌, ℕ, zero, suc, ◌+◌, ◌-◌, ◌%◌, ◌<◌, ◌≤◌, List, [], ◌∷◌, ◌++◌, reverse, length, get_or, take, drop, set, sym, ap, ◌∙◌, append_assoc, mod-eq_of_lt, add-one, arith}
use Rattle.std.proofs.Math.Seq.{set-append_seam}
use Rattle.std.proofs.lemmas.List.{set-append_left, get_or-map, get_or-reverse, map-set, set_split, take_all, drop-set-lt, take_more_set, drop_more, length-map, length-reverse}
use Rattle.std.proofs.lemmas.Grind.{reverse_onto}
use Rattle.std.proofs.lemmas.Bool.{eq-eqb, ne_eqb}
use Rattle.ways.specs.Policies.{without}
use Rattle.ways.specs.Row.{ways_of}

-- an order into which `carried` goes at the front, in the place of `way`
abbrev pub carry : ℕ → ℕ → List ℕ → List ℕ
carry carried way os = take (length os) (carried ∷ without way os)

-- an order whose first k places are written, while `carried` goes into the rest
abbrev pub carrying : ℕ → ℕ → ℕ → List ℕ → List ℕ
carrying k carried way os = take k os ++ carry carried way (drop k os)

module _ (q : List ℕ) (k c way : ℕ) (h : k < length q) where
  here : get_or q k 0 ≡ way → set q k c ≡ carrying k c way q
  here e = rw (drop_more q k 0 h, eq-eqb (get_or q k 0) way e, take_all (length (drop (k + 1) q)) (drop (k + 1) q) (omega arith), add-one) (set_split q k c h)

  past : (get_or q k 0 ≡ way → ⊥) → carrying (k + 1) (get_or q k 0) way (set q k c) ≡ carrying k c way q
  past e = rw (drop_more q k 0 h, ne_eqb (get_or q k 0) way e, take_more_set q k c h, drop-set-lt (k + 1) q k c (omega arith)) (append_assoc (take k q) (c ∷ []) (carry (get_or q k 0) way (drop (k + 1) q)))

reverse-set : (q : List ℕ) (k c : ℕ) → k < length q → reverse (set q k c) ≡ set (reverse q) (length q - 1 - k) c
reverse-set [] k c h = absurd (omega arith)
reverse-set (x ∷ xs) zero c h =
    let e : suc (length xs) - 1 - 0 ≡ length (reverse xs) = omega (arith, length-reverse xs) in
    rw (reverse_onto xs x [], reverse_onto xs c [], e) (sym (set-append_seam (reverse xs) x [] c))
reverse-set (x ∷ xs) (suc k) c h =
    let e : suc (length xs) - 1 - suc k ≡ length xs - 1 - k = omega arith in
    rw (reverse_onto xs x [], reverse_onto (set xs k c) x [], reverse-set xs k c (omega arith), e, set-append_left (reverse xs) (x ∷ []) (length xs - 1 - k) c (omega (arith, length-reverse xs)))

-- the same turns in a row of bytes
module _ (ways : ℕ) (row : List ℕ) (c way : ℕ) (low : c < ways) where
  module _ (k : ℕ) (h : k < length row) where
    read : get_or row k 0 % ways ≡ get_or (ways_of ways row) k 0
    read = sym (get_or-map (λ b. b % ways) row k 0 0 h)

    written : ways_of ways (set row k c) ≡ set (ways_of ways row) k c
    written = map-set (λ b. b % ways) row k c ∙ ap (λ v. set (ways_of ways row) k v) (mod-eq_of_lt low)

    pub front_here : get_or row k 0 % ways ≡ way → ways_of ways (set row k c) ≡ carrying k c way (ways_of ways row)
    front_here e = written ∙ here (ways_of ways row) k c way (rw length-map h) (rw (← read) e)

    pub front_past : (get_or row k 0 % ways ≡ way → ⊥) → carrying (k + 1) (get_or row k 0 % ways) way (ways_of ways (set row k c)) ≡ carrying k c way (ways_of ways row)
    front_past e = rw (written, read) (past (ways_of ways row) k c way (rw length-map h) (rw (← read) e))

  module _ (i : ℕ) (some : 0 < i) (h : i ≤ ways) (long : length row ≡ ways) where
    abbrev pub q : List ℕ
    q = reverse (ways_of ways row)

    length_q : length q ≡ ways
    length_q = simp (length-reverse, length-map) long

    back_read : get_or row (i - 1) 0 % ways ≡ get_or q (ways - i) 0
    back_read =
        let j : length (ways_of ways row) - 1 - (ways - i) ≡ i - 1 = simp length-map (omega arith) in
        read (i - 1) (omega arith) ∙ sym (get_or-reverse (ways_of ways row) (ways - i) 0 (simp length-map (omega arith)) ∙ ap (λ k. get_or (ways_of ways row) k 0) j)

    back_written : reverse (ways_of ways (set row (i - 1) c)) ≡ set q (ways - i) c
    back_written =
        let j : length (ways_of ways row) - 1 - (i - 1) ≡ ways - i = simp length-map (omega arith) in
        ap reverse (written (i - 1) (omega arith)) ∙ reverse-set (ways_of ways row) (i - 1) c (simp length-map (omega arith)) ∙ ap (λ k. set q k c) j

    pub back_here : get_or row (i - 1) 0 % ways ≡ way → reverse (ways_of ways (set row (i - 1) c)) ≡ carrying (ways - i) c way q
    back_here e = back_written ∙ here q (ways - i) c way (omega (arith, length_q)) (rw (← back_read) e)

    pub back_past : (get_or row (i - 1) 0 % ways ≡ way → ⊥) → carrying (ways - (i - 1)) (get_or row (i - 1) 0 % ways) way (reverse (ways_of ways (set row (i - 1) c))) ≡ carrying (ways - i) c way q
    back_past e =
        let m : ways - (i - 1) ≡ ways - i + 1 = omega arith in
        rw (m, back_written, back_read) (past q (ways - i) c way (omega (arith, length_q)) (rw (← back_read) e))

-- The invariant of a stretch, and what a hit and a load do to it.
use Rattle.std.proofs.Common.{◌≡◌, ℕ, zero, suc, ◌+◌, ◌*◌, ◌<◌, ◌≤◌, Bool, true, ◌⊎◌, List, [], ◌∷◌, ◌++◌, length, get_or, set, sym, refl, ap, ◌∙◌, subst, inl, inr, append_assoc, append-nil, arith}
use Rattle.std.proofs.lemmas.Bool.{cases_eq}
use Rattle.pile.specs.declared.entry.Entry.{Entry}
use Rattle.ways.specs.Ways.{Shape, Mapped, Orders, Ordered, Reached, Moves, last_of}
use Rattle.pile.specs.Table.{blank}
use Rattle.pile.specs.Stretch.{different, in_set}
use Rattle.ways.specs.Members.{In, cut}
use Rattle.pile.proofs.Pigeon.{in_left, pigeons, in_different, in_in_set}
use Rattle.pile.proofs.Nearer.{moved, ends, last_behind}
use Rattle.ways.specs.Orders.{EachOnce, all_once, only, in_once, last_below}
use Rattle.ways.proofs.Places.{ways_some}
use Rattle.pile.proofs.Sound.{Sound}
use Rattle.pile.proofs.Tables.{Holds, changed_here, changed_cases}

-- one load more
abbrev pub push : ℕ → (ℕ → ℕ) → ℕ → ℕ
push b loads zero = b
push b loads (suc i) = loads i

module _ {Q : Type 0} (m : Shape) (P : Orders Q) where
  -- way w of set k holds the block b
  abbrev pub Has : List Entry → ℕ → ℕ → ℕ → Type 0
  Has table k w b = ((m.split b).0 ≡ k) × Holds m table b w

  -- The order of set k begins with ways that hold blocks called in the stretch, and the blocks loaded in it are among them.
  pub record Front (q : Q) (table : List Entry) (called : List ℕ) (n : ℕ) (loads : ℕ → ℕ) (k : ℕ) : Type 0 where
    pub front : List ℕ
    pub back : List ℕ
    pub parts : P.order q k ≡ front ++ back
    pub good : (w : ℕ) → In w front → (b : ℕ) × In b called × Has table k w b
    pub kept : (i : ℕ) → i < n → (m.split (loads i)).0 ≡ k → (w : ℕ) × In w front × Has table k w (loads i)

  -- the n blocks loaded in the stretch, each once
  pub record Fronts (q : Q) (table : List Entry) (called : List ℕ) (n : ℕ) : Type 0 where
    pub loads : ℕ → ℕ
    pub apart : (i j : ℕ) → i < n → j < n → loads i ≡ loads j → i ≡ j
    pub within : (i : ℕ) → i < n → In (loads i) called
    pub each : (k : ℕ) → k < m.sets → Front q table called n loads k

  -- before the stretch
  pub none : (q : Q) (table : List Entry) → Fronts q table [] 0
  none q table = record {
    loads = λ i. i;
    apart = λ i j p. omega arith;
    within = λ i p. omega arith;
    each = λ k lt. record { front = []; back = P.order q k; parts = refl; good = λ w h. absurd h; kept = λ i p. absurd (let z : i < 0 = p in omega arith) };
  }

  module _ (q q' : Q) (table table' : List Entry) (called : List ℕ) (n : ℕ) (loads : ℕ → ℕ) (k : ℕ) (F : Front q table called n loads k) where
    -- b is called, and the ways in front hold what they held, or b
    carry : (b : ℕ) (ahead behind : List ℕ) → P.order q' k ≡ ahead ++ behind → ((v : ℕ) → In v ahead → Has table' k v b ⊎ In v F.front) → ((v : ℕ) → In v F.front → In v ahead)
        → ((v c : ℕ) → In v F.front → Has table k v c → Has table' k v c) → Front q' table' (b ∷ called) n loads k
    carry b ahead behind parts new old still = record {
      front = ahead;
      back = behind;
      parts = parts;
      good = λ w h. elim (new w h) [ inl y ↦ (b, inl refl, y) | inr o ↦ let g = F.good w o in (g.0, inr g.1, still w g.0 o g.2) ];
      kept = λ i lt e. let g = F.kept i lt e in (g.0, old g.0 g.1, still g.0 (loads i) g.1 g.2);
    }

    more : (b : ℕ) → ((m.split b).0 ≡ k → (w : ℕ) × In w F.front × Has table k w b) → Front q table called (suc n) (push b loads) k
    more b there = record { front = F.front; back = F.back; parts = F.parts; good = F.good; kept = kept' }
      where
        kept' : (i : ℕ) → i < suc n → (m.split (push b loads i)).0 ≡ k → (w : ℕ) × In w F.front × Has table k w (push b loads i)
        kept' zero lt e = there e
        kept' (suc i) lt e = F.kept i (omega arith) e

  -- only the tags and the marks of validity count
  pub same : (q : Q) (table table' : List Entry) (called : List ℕ) (n : ℕ) → ((i : ℕ) → (get_or table' i blank).valid ≡ (get_or table i blank).valid) → ((i : ℕ) → (get_or table' i blank).tag ≡ (get_or table i blank).tag)
      → Fronts q table called n → Fronts q table' called n
  same q table table' called n v t I = record {
    loads = I.loads;
    apart = I.apart;
    within = I.within;
    each = λ k lt. let F = I.each k lt in record {
      front = F.front;
      back = F.back;
      parts = F.parts;
      good = λ w h. let g = F.good w h in (g.0, g.1, has k w g.0 g.2);
      kept = λ i l e. let g = F.kept i l e in (g.0, g.1, has k g.0 (I.loads i) g.2);
    };
  }
    where
      has : (k w b : ℕ) → Has table k w b → Has table' k w b
      has k w b h = (h.0, (h.1.0, (v ((m.split b).0 * m.ways + w) ∙ h.1.1.0, t ((m.split b).0 * m.ways + w) ∙ h.1.1.1)))

-- ---- a call of the block b, which is in set k

module _ {Q : Type 0} {m : Shape} {P : Orders Q} (ordered : Ordered P m.sets m.ways) (mapped : Mapped m) {blocks : ℕ} {locked : ℕ → Bool} {table : List Entry} (reach : blocks ≤ 16384) (sound : Sound m blocks locked table)
    {q : Q} (st : Reached P m.sets m.ways q) {called : List ℕ} {n : ℕ} (I : Fronts m P q table called n) (b : ℕ) (low : b < blocks) where
  abbrev k : ℕ
  k = (m.split b).0

  abbrev now : List ℕ
  now = P.order q k

  inside : k < m.sets
  inside = mapped.set_below b (omega arith)

  abbrev F : Front m P q table called n I.loads k
  F = I.each k inside

  once : EachOnce m.ways now
  once = all_once ordered st k inside

  moves : (w : ℕ) → w < m.ways → (front back : List ℕ) → now ≡ front ++ (w ∷ back) → Moves P m.sets q k w front back
  moves w = ordered.moves q st k w inside

  abbrev place : (w : ℕ) → w < m.ways → (front : List ℕ) × (back : List ℕ) × (now ≡ front ++ (w ∷ back))
  place w l = cut w now (in_once once w l)

  hit_here : (w : ℕ) → Holds m table b w → Front m P (P.hit q k w) table (b ∷ called) n I.loads k
  hit_here w holds =
      let c = place w holds.0 in
      let o = (moves w holds.0 c.0 c.1 c.2).on_hit in
      let p : (o.0 ++ o.1) ++ (w ∷ c.1) ≡ F.front ++ F.back = let x = c.2 in let y = o.2 in let z = F.parts in cc in
      let N = moved w o.0 o.1 c.1 F.front F.back p in
      carry m P q (P.hit q k w) table table called n I.loads k F b N.ahead N.behind (◌∙◌ {c = N.ahead ++ N.behind} o.3 N.parts)
      (λ v h. elim (N.new v h) [ inl e ↦ inl (refl, subst (Holds m table b) (sym e) holds) | inr i ↦ inr i ]) N.old (λ v c i h. h)

  pub hit : (w : ℕ) → Holds m table b w → Fronts m P (P.hit q k w) table (b ∷ called) n
  hit w holds = record {
    loads = I.loads;
    apart = I.apart;
    within = λ i l. inr (I.within i l);
    each = λ j l. elim (cases_eq j k) [
      | inl e ↦ subst (Front m P (P.hit q k w) table (b ∷ called) n I.loads) (sym e) (hit_here w holds)
      | inr d ↦ carry m P q (P.hit q k w) table table called n I.loads j (I.each j l) b (I.each j l).front (I.each j l).back
          (let c = place w holds.0 in ((moves w holds.0 c.0 c.1 c.2).others j l d).2 ∙ (I.each j l).parts) (λ v h. inr h) (λ v h. h) (λ v c i h. h)
    ];
  }

  module _ (miss : (w : ℕ) → Holds m table b w → ⊥) (room : length (in_set (λ x. (m.split x).0) k (different (b ∷ called))) ≤ m.ways) where
    -- what a way of the set holds is not b
    absent : (w c : ℕ) → Has m P table k w c → c ≡ b → ⊥
    absent w c h e = miss w (subst (λ x. Holds m table x w) e h.1)

    -- seat 0 has b, and seat w + 1 the block in way w
    abbrev Seat : ℕ → ℕ → Type 0
    Seat zero y = y ≡ b
    Seat (suc w) y = Has m P table k w y

    alone : (i j y : ℕ) → Seat i y → Seat j y → i ≡ j
    alone zero zero y g h = refl
    alone zero (suc w) y g h = absurd (absent w y h g)
    alone (suc v) zero y g h = absurd (absent v y g h)
    alone (suc v) (suc w) y g h = ap suc (sound.unique (m.split y).0 v w (rw g.0 inside) g.1.0 h.1.0 g.1.1.0 h.1.1.0 (g.1.1.1 ∙ sym h.1.1.1))

    -- a set whose ways all hold called blocks has no room for b
    crowd : F.back ≡ [] → ⊥
    crowd e = let z : suc m.ways ≤ length (in_set (λ x. (m.split x).0) k (different (b ∷ called))) = pigeons (suc m.ways) Seat (in_set (λ x. (m.split x).0) k (different (b ∷ called))) seated (λ i j y p q. alone i j y) in omega arith
      where
        all : now ≡ F.front
        all = F.parts ∙ ap (λ l. F.front ++ l) e ∙ append-nil F.front

        seated : (i : ℕ) → i < suc m.ways → (y : ℕ) × In y (in_set (λ x. (m.split x).0) k (different (b ∷ called))) × Seat i y
        seated zero h = (b, in_in_set (λ x. (m.split x).0) k b (different (b ∷ called)) (in_different b (b ∷ called) (inl refl)) refl, refl)
        seated (suc w) h =
            let g = F.good w (subst (In w) all (in_once once w (omega arith))) in
            (g.0, in_in_set (λ x. (m.split x).0) k g.0 (different (b ∷ called)) (in_different g.0 (b ∷ called) (inr g.1)) g.2.0, g.2)

    module _ (e : Entry) (valid : e.valid ≡ true) (tag : e.tag ≡ (m.split b).1) where
      abbrev w : ℕ
      w = last_of now

      abbrev q' : Q
      q' = P.loaded q k w

      abbrev table' : List Entry
      table' = set table (k * m.ways + w) e

      last_low : w < m.ways
      last_low = last_below now once (ways_some m.sets m.ways mapped.product)

      -- the last way stands behind the front
      behind : (init : List ℕ) × (now ≡ (F.front ++ init) ++ (w ∷ []))
      behind = go F.back refl
        where
          go : (back : List ℕ) → F.back ≡ back → (init : List ℕ) × (now ≡ (F.front ++ init) ++ (w ∷ []))
          go [] p = absurd (crowd p)
          go (y ∷ ys) p =
              let whole : now ≡ F.front ++ (y ∷ ys) = F.parts ∙ ap (λ l. F.front ++ l) p in
              let last : w ≡ last_of (y ∷ ys) = ap last_of whole ∙ last_behind F.front y ys in
              let c = ends y ys in
              let d : y ∷ ys ≡ c.0 ++ (w ∷ []) = rw last c.1 in
              (c.0, whole ∙ ap (λ l. F.front ++ l) d ∙ sym (append_assoc F.front c.0 (w ∷ [])))

      not_in_front : (v : ℕ) → In v F.front → v ≡ w → ⊥
      not_in_front v h p = (only once w (F.front ++ behind.0) [] last_low behind.1).0 (in_left w F.front behind.0 (subst (λ x. In x F.front) p h))

      still : (j v c : ℕ) → (j ≡ k → v ≡ w → ⊥) → Has m P table j v c → Has m P table' j v c
      still j v c d h = elim (changed_cases mapped reach sound k w inside last_low e (m.split c).0 v h.1.0) [
        | inl p ↦ absurd (d (sym h.0 ∙ p.0) p.1)
        | inr p ↦ (h.0, (h.1.0, (ap (λ x. x.valid) p.0 ∙ h.1.1.0, ap (λ x. x.tag) p.0 ∙ h.1.1.1)))
      ]

      has_new : Has m P table' k w b
      has_new = let o = changed_here mapped reach sound k w inside last_low e in (refl, (last_low, (ap (λ x. x.valid) o ∙ valid, ap (λ x. x.tag) o ∙ tag)))

      load_here : Front m P q' table' (b ∷ called) (suc n) (push b I.loads) k
      unfolding carry
      load_here =
          let C = carry m P q q' table table' called n I.loads k F b (w ∷ F.front) (behind.0 ++ [])
          ((moves w last_low (F.front ++ behind.0) [] behind.1).on_load ∙ ap {B = List ℕ} (λ l. w ∷ l) (append_assoc F.front behind.0 []))
          (λ v h. elim h [ inl p ↦ inl (subst (λ x. Has m P table' k x b) (sym p) has_new) | inr i ↦ inr i ]) (λ v h. inr h)
          (λ v c i. still k v c (λ x. not_in_front v i)) in
          more m P q' q' table' table' (b ∷ called) n I.loads k C b (λ x. (w, inl refl, has_new))

      load_other : (j : ℕ) → j < m.sets → (j ≡ k → ⊥) → Front m P q' table' (b ∷ called) (suc n) (push b I.loads) j
      load_other j l d =
          let G = I.each j l in
          let C = carry m P q q' table table' called n I.loads j G b G.front G.back
          (((moves w last_low (F.front ++ behind.0) [] behind.1).others j l d).0 ∙ G.parts) (λ v h. inr h) (λ v h. h) (λ v c i. still j v c (λ p. absurd (d p))) in
          more m P q' q' table' table' (b ∷ called) n I.loads j C b (λ x. absurd (d (sym x)))

      pub load : Fronts m P q' table' (b ∷ called) (suc n)
      load = record {
        loads = push b I.loads;
        apart = apart';
        within = within';
        each = λ j l. elim (cases_eq j k) [ inl p ↦ subst (Front m P q' table' (b ∷ called) (suc n) (push b I.loads)) (sym p) load_here | inr d ↦ load_other j l d ];
      }
        where
          new : (i : ℕ) → i < n → I.loads i ≡ b → ⊥
          new i lt p = let g = F.kept i lt (ap (λ x. (m.split x).0) p) in absent g.0 (I.loads i) g.2 p

          apart' : (i j : ℕ) → i < suc n → j < suc n → push b I.loads i ≡ push b I.loads j → i ≡ j
          apart' zero zero p q r = refl
          apart' zero (suc j) p q r = absurd (new j (omega arith) (sym r))
          apart' (suc i) zero p q r = absurd (new i (omega arith) r)
          apart' (suc i) (suc j) p q r = ap suc (I.apart i j (omega arith) (omega arith) r)

          within' : (i : ℕ) → i < suc n → In (push b I.loads i) (b ∷ called)
          within' zero p = inl refl
          within' (suc i) p = inr (I.within i (omega arith))

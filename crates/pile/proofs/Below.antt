-- What a level does for the cache above it.
use Rattle.std.proofs.Common.{◌≡◌, ℕ, ◌+◌, ◌*◌, ◌/◌, ◌%◌, ◌<◌, ◌≤◌, true, false, ◌⊎◌, List, [], ◌∷◌, length, get_or, set, sym, ap, ◌∙◌, inl, inr, arith}
use Rattle.std.proofs.lemmas.Bool.{lt-ltb, cases_eq}
use Rattle.std.proofs.lemmas.List.{length-set, get_or-set_same, get_or-set_other}
use Rattle.level.specs.Level.{Rules, value, taken, block}
use Rattle.level.specs.Level.Call.{read, write, return_block}
use Rattle.level.specs.Runs.{Log, Run}
use Rattle.level.specs.Runs.Run.{called}
use Rattle.level.proofs.Answers.{judged_taken}
use Rattle.level.specs.Meaning.{Kept, Meaning}
use Rattle.pile.specs.Cache.{write_back, fetch, rotation}
use Rattle.ways.specs.Members.{In}

module _ {S : Type 0} {R : Rules S} (h : Meaning R) {s : S} (fresh : R.fresh s) {log : Log} {x : S} (r : Run R s log x) where
  k : Kept R s x log r
  k = h.kept s x log fresh r

  pub takes_read : (a : ℕ) → a < R.size s → taken (R.step x (read a)).answer ≡ true
  takes_read a l = judged_taken a (R.step x (read a)).answer (rw (lt-ltb a (R.size s) l) at (k.judged (read a)))

  pub takes_write : (a v : ℕ) → a < R.size s → R.locked s (block a) ≡ false → taken (R.step x (write a v)).answer ≡ true
  takes_write a v l o = judged_taken a (R.step x (write a v)).answer (rw (lt-ltb a (R.size s) l, o) at (k.judged (write a v)))

  pub takes_return : (a : ℕ) → a < R.size s → taken (R.step x (return_block a)).answer ≡ true
  takes_return a l = judged_taken a (R.step x (return_block a)).answer (rw (lt-ltb a (R.size s) l) at (k.judged (return_block a)))

abbrev pub blocks : {S : Type 0} → Rules S → S → ℕ
blocks R s = R.size s / 4

module _ {S : Type 0} {R : Rules S} (h : Meaning R) {s : S} (fresh : R.fresh s) where
  pub few : blocks R s ≤ 16384
  few = omega (arith, h.reach s fresh)

  pub block_low : (a : ℕ) → a < R.size s → block a < blocks R s
  block_low a l = omega (arith, h.whole s fresh)

module _ {S : Type 0} {R : Rules S} (h : Meaning R) {s : S} (fresh : R.fresh s) where
  pub write_back_cost : (bs : List ℕ) {log : Log} {x : S} (r : Run R s log x) (a : ℕ) → (write_back R x a bs).spent ≤ length bs * (1 + R.worst s)
  write_back_cost [] r a = omega arith
  write_back_cost (b ∷ bs) {log} {x} r a = omega (arith, (h.kept s x log fresh r).write_cost a b, write_back_cost bs (called r (write a b)) (a + 1))

  pub fetch_cost : (ks : List ℕ) {log : Log} {x : S} (r : Run R s log x) (a : ℕ) (bytes : List ℕ) → (fetch R x a ks bytes).spent ≤ length ks * (2 + R.worst s)
  fetch_cost [] r a bytes = omega arith
  fetch_cost (c ∷ ks) {log} {x} r a bytes = omega (arith, (h.kept s x log fresh r).read_cost (a + c), fetch_cost ks (called r (read (a + c))) a (set bytes c (value (R.step x (read (a + c))).answer)))

abbrev pub Small : List ℕ → Type 0
Small [] = Unit {0}
Small (k ∷ ks) = (k < 4) × Small ks

pub rotation_small : (a : ℕ) → Small (rotation (a % 4))
rotation_small a = (omega arith, (omega arith, (omega arith, (omega arith, tt))))

pub rotation_all : (a j : ℕ) → j < 4 → In j (rotation (a % 4))
rotation_all a j l = go (cases_eq j (a % 4)) (cases_eq j ((a % 4 + 1) % 4)) (cases_eq j ((a % 4 + 2) % 4)) (cases_eq j ((a % 4 + 3) % 4))
  where
    go : (j ≡ a % 4) ⊎ (j ≡ a % 4 → ⊥) → (j ≡ (a % 4 + 1) % 4) ⊎ (j ≡ (a % 4 + 1) % 4 → ⊥) → (j ≡ (a % 4 + 2) % 4) ⊎ (j ≡ (a % 4 + 2) % 4 → ⊥) → (j ≡ (a % 4 + 3) % 4) ⊎ (j ≡ (a % 4 + 3) % 4 → ⊥) → In j (rotation (a % 4))
    go (inl e) y z w = inl e
    go (inr d) (inl e) z w = inr (inl e)
    go (inr d) (inr d') (inl e) w = inr (inr (inl e))
    go (inr d) (inr d') (inr d'') (inl e) = inr (inr (inr (inl e)))
    go (inr d) (inr d') (inr d'') (inr d''') = absurd (omega arith)

-- what is fetched from a block, if each place of the row is good already or still to be fetched
module _ {S : Type 0} {R : Rules S} (h : Meaning R) {s : S} (fresh : R.fresh s) (a : ℕ) (V : ℕ → ℕ) (room : a + 3 < R.size s) where
  pub fetched : (ks bytes : List ℕ) {log : Log} {x : S} (r : Run R s log x) → ((j : ℕ) → j < 4 → R.seen x (a + j) ≡ V j) → Small ks → length bytes ≡ 4 → ((j : ℕ) → j < 4 → (get_or bytes j 0 ≡ V j) ⊎ In j ks) →
      (length (fetch R x a ks bytes).bytes ≡ 4) × ((j : ℕ) → j < 4 → get_or (fetch R x a ks bytes).bytes j 0 ≡ V j)
  fetched [] bytes r sees small four good = (four, λ j l. end j (good j l))
    where
      end : (j : ℕ) → (get_or bytes j 0 ≡ V j) ⊎ ⊥ → get_or bytes j 0 ≡ V j
      end j (inl e) = e
      end j (inr e) = absurd e
  fetched (k ∷ ks) bytes {log} {x} r sees small four good =
      fetched ks (set bytes k got) (called r (read (a + k))) (λ j l. (h.kept s x log fresh r).read_keeps (a + k) (a + j) (omega arith) ∙ sees j l) small.1 (length-set bytes k got ∙ four)
      (λ j l. one j l (good j l) (cases_eq j k))
    where
      got : ℕ
      got = value (R.step x (read (a + k))).answer

      is : got ≡ V k
      is = (h.kept s x log fresh r).gives (read (a + k)) (takes_read h fresh r (a + k) (omega arith)) ∙ sees k small.0

      one : (j : ℕ) → j < 4 → (get_or bytes j 0 ≡ V j) ⊎ In j (k ∷ ks) → (j ≡ k) ⊎ (j ≡ k → ⊥) → (get_or (set bytes k got) j 0 ≡ V j) ⊎ In j ks
      one j l g (inl e) = inl (ap (λ n. get_or (set bytes k got) n 0) e ∙ get_or-set_same bytes k got 0 (omega arith) ∙ is ∙ ap V (sym e))
      one j l (inl g) (inr ne) = inl (get_or-set_other bytes k j got 0 ne ∙ g)
      one j l (inr (inl e)) (inr ne) = absurd (ne e)
      one j l (inr (inr g)) (inr ne) = inr g

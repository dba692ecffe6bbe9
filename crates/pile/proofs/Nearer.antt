-- The front part of an order of ways, after one way went nearer the front.
use Rattle.std.proofs.Common.{◌≡◌, ℕ, ◌⊎◌, List, [], ◌∷◌, ◌++◌, refl, ap, ◌∙◌, inl, inr}
use Rattle.ways.specs.Ways.{last_of}
use Rattle.ways.specs.Members.{In}

-- `order` begins with a part that has all of `front` and of others only w
pub record Nearer (w : ℕ) (front order : List ℕ) : Type 0 where
  pub ahead : List ℕ
  pub behind : List ℕ
  pub parts : order ≡ ahead ++ behind
  pub new : (v : ℕ) → In v ahead → (v ≡ w) ⊎ In v front
  pub old : (v : ℕ) → In v front → In v ahead

-- `order` begins with all of `front` but w
record Without (w : ℕ) (front order : List ℕ) : Type 0 where
  ahead : List ℕ
  behind : List ℕ
  parts : order ≡ ahead ++ behind
  new : (v : ℕ) → In v ahead → In v front
  old : (v : ℕ) → In v front → (v ≡ w) ⊎ In v ahead

out : (w : ℕ) (before after front back : List ℕ) → before ++ (w ∷ after) ≡ front ++ back → Without w front (before ++ after)
out w before after [] back e = record { ahead = []; behind = before ++ after; parts = refl; new = λ v h. h; old = λ v h. absurd h }
out w [] after (x ∷ front) back e = record {
  ahead = front;
  behind = back;
  parts = cc;
  new = λ v h. inr h;
  old = λ v h. elim h [ inl p ↦ inl (let q : x ≡ w = cc in p ∙ q) | inr k ↦ inr k ];
}
out w (y ∷ before) after (x ∷ front) back e =
    let e' : before ++ (w ∷ after) ≡ front ++ back = cc in
    let o = out w before after front back e' in
    let q : y ≡ x = cc in
    record {
      ahead = x ∷ o.ahead;
      behind = o.behind;
      parts = let p = o.parts in cc;
      new = λ v h. elim h [ inl p ↦ inl p | inr k ↦ inr (o.new v k) ];
      old = λ v h. elim h [ inl p ↦ inr (inl p) | inr k ↦ elim (o.old v k) [ inl p ↦ inl p | inr l ↦ inr (inr l) ] ];
    }

pub moved : (w : ℕ) (ahead passed after front back : List ℕ) → (ahead ++ passed) ++ (w ∷ after) ≡ front ++ back → Nearer w front (ahead ++ (w ∷ (passed ++ after)))
moved w ahead passed after [] back e = record { ahead = []; behind = ahead ++ (w ∷ (passed ++ after)); parts = refl; new = λ v h. absurd h; old = λ v h. absurd h }
moved w [] passed after (x ∷ front) back e =
    let o = out w passed after (x ∷ front) back e in
    record {
      ahead = w ∷ o.ahead;
      behind = o.behind;
      parts = let p = o.parts in cc;
      new = λ v h. elim h [ inl p ↦ inl p | inr k ↦ inr (o.new v k) ];
      old = λ v h. elim (o.old v h) [ inl p ↦ inl p | inr k ↦ inr k ];
    }
moved w (y ∷ ahead) passed after (x ∷ front) back e =
    let e' : (ahead ++ passed) ++ (w ∷ after) ≡ front ++ back = cc in
    let o = moved w ahead passed after front back e' in
    let q : y ≡ x = cc in
    record {
      ahead = x ∷ o.ahead;
      behind = o.behind;
      parts = let p = o.parts in cc;
      new = λ v h. elim h [ inl p ↦ inr (inl p) | inr k ↦ elim (o.new v k) [ inl p ↦ inl p | inr l ↦ inr (inr l) ] ];
      old = λ v h. elim h [ inl p ↦ inl p | inr k ↦ inr (o.old v k) ];
    }

-- a list that is not empty ends in its last
pub ends : (x : ℕ) (xs : List ℕ) → (init : List ℕ) × (x ∷ xs ≡ init ++ (last_of (x ∷ xs) ∷ []))
ends x [] = ([], refl)
ends x (y ∷ ys) = let e = ends y ys in (x ∷ e.0, ap {B = List ℕ} (λ l. x ∷ l) e.1)

pub last_behind : (front : List ℕ) (x : ℕ) (xs : List ℕ) → last_of (front ++ (x ∷ xs)) ≡ last_of (x ∷ xs)
last_behind [] x xs = refl
last_behind (a ∷ []) x xs = refl
last_behind (a ∷ b ∷ front) x xs = last_behind (b ∷ front) x xs

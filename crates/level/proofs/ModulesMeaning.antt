-- Two modules have a meaning: the homes of the even addresses come first, then those of the odd ones.
use Rattle.std.proofs.Common.{◌≡◌, ℕ, ◌+◌, ◌-◌, ◌/◌, ◌%◌, ◌<◌, ◌≤◌, Bool, true, false, cond, ◌&&◌, eqb, leb, ◌++◌, length, get_or, set, sym, refl, ap, ◌∙◌, arith}
use Rattle.std.proofs.lemmas.Bool.{leb-true, eqb-true, eqb-false, and_parts, cond_both}
use Rattle.std.proofs.lemmas.List.{length-set, length-append, get_or_append_left, get_or-append-add, set-append_left, set-append_right}
use Rattle.level.specs.declared.level.Access.TheVariants.{Read, Write}
use Rattle.level.specs.Level.Call.{read, write, return_block, return_all}
use Rattle.level.specs.Meaning.{Meaning}
use Rattle.level.specs.Memory.{length_ok, figure_ok}
use Rattle.level.specs.Modules.{Modules, modules_rules, modules_ok, modules_length, modules_length_ok, modules_figures_ok, modules_size, modules_byte, modules_put, modules_touch, modules_clocks, switched}
use Rattle.level.proofs.Sizes.{sized, below}
use Rattle.level.proofs.MemoryMeaning.{Plate, plate, Memory, memory_meaning}

-- what the check says
record Passed (s : Modules) : Type 0 where
  equal : length s.even ≡ length s.odd
  total : length_ok (modules_length s) ≡ true
  order : s.short ≤ s.long

passed : (s : Modules) → modules_ok s ≡ true → Passed s
passed s e =
    let n = length s.even in
    let p = and_parts (modules_length_ok s) (modules_figures_ok s) e in
    let q = and_parts (eqb n (length s.odd)) (eqb (n % 2) 0 && length_ok (modules_length s)) p.0 in
    let u = and_parts (eqb (n % 2) 0) (length_ok (modules_length s)) q.1 in
    let v = and_parts (figure_ok s.short) (figure_ok s.long && leb s.short s.long) p.1 in
    let w = and_parts (figure_ok s.long) (leb s.short s.long) v.1 in
    record { equal = eqb-true n (length s.odd) q.0; total = u.1; order = leb-true s.short s.long w.1 }

-- what is fixed, by the two lengths and the two figures
abbrev plate_of : ℕ → ℕ → ℕ → ℕ → Plate
plate_of n m short long =
    let ok = (eqb n m && (eqb (n % 2) 0 && length_ok (n + m))) && (figure_ok short && (figure_ok long && leb short long)) in
    record { size = cond ok (n + m) 0; locked = λ b. false; home = λ a. cond (eqb (a % 2) 0) (a / 2) (n + a / 2); worst = cond ok long 0 }

module _ (s : Modules) where
  -- an address below the size has its place in either module
  module _ (a : ℕ) (l : a < modules_size s) where
    ok : (modules_ok s ≡ true) × (a < length s.even + length s.odd)
    ok = below (modules_ok s) (length s.even + length s.odd) a l

    half : (a / 2 < length s.even) × (a / 2 < length s.odd)
    half = omega (arith, (passed s ok.0).equal, ok.1)

    homed : modules_byte s a ≡ get_or (s.even ++ s.odd) (modules_rules.home s a) 0
    homed = go (eqb (a % 2) 0)
      where
        go : (b : Bool) → cond b (get_or s.even (a / 2) 0) (get_or s.odd (a / 2) 0) ≡ get_or (s.even ++ s.odd) (cond b (a / 2) (length s.even + a / 2)) 0
        go true = sym (get_or_append_left s.even s.odd 0 (a / 2) half.0)
        go false = sym (get_or-append-add s.even s.odd (a / 2) 0)

    put_low : (v : ℕ) → (modules_put s a v).even ++ (modules_put s a v).odd ≡ set (s.even ++ s.odd) (modules_rules.home s a) v
    put_low v = go (eqb (a % 2) 0)
      where
        go : (b : Bool) → cond b (set s.even (a / 2) v) s.even ++ cond b s.odd (set s.odd (a / 2) v) ≡ set (s.even ++ s.odd) (cond b (a / 2) (length s.even + a / 2)) v
        go true = sym (set-append_left s.even s.odd (a / 2) v half.0)
        go false =
            let e : length s.even + a / 2 - length s.even ≡ a / 2 = omega arith in
            sym (set-append_right s.even s.odd (length s.even) (length s.even + a / 2) v refl (omega arith) ∙ ap (λ i. s.even ++ set s.odd i v) e)

    lodged : modules_rules.home s a < length (s.even ++ s.odd)
    lodged = cond_both (eqb (a % 2) 0) (a / 2) (length s.even + a / 2) (λ i. i < length (s.even ++ s.odd)) (λ e. simp length-append (omega (arith, half))) (λ e. simp length-append (omega (arith, half)))

    priced : modules_clocks s a ≤ modules_rules.worst s
    priced = rw ok.0 (cond_both (switched s.last (a % 2)) s.short s.long (λ k. k ≤ s.long) (λ e. (passed s ok.0).order) (λ e. omega arith))

  apart : (a b : ℕ) → a < modules_size s → b < modules_size s → modules_rules.home s a ≡ modules_rules.home s b → a ≡ b
  apart a b l m = go (eqb (a % 2) 0) refl (eqb (b % 2) 0) refl
    where
      go : (x : Bool) → eqb (a % 2) 0 ≡ x → (y : Bool) → eqb (b % 2) 0 ≡ y → cond x (a / 2) (length s.even + a / 2) ≡ cond y (b / 2) (length s.even + b / 2) → a ≡ b
      go true d true e h = omega (arith, eqb-true (a % 2) 0 d, eqb-true (b % 2) 0 e)
      go true d false e h = omega (arith, half a l)
      go false d true e h = omega (arith, half b m)
      go false d false e h = omega (arith, eqb-false (a % 2) 0 d, eqb-false (b % 2) 0 e)

  put_plate : (a v : ℕ) → plate modules_rules (modules_put s a v) ≡ plate modules_rules s
  put_plate a v = go (eqb (a % 2) 0)
    where
      go : (b : Bool) → plate modules_rules (record { even = cond b (set s.even (a / 2) v) s.even; odd = cond b s.odd (set s.odd (a / 2) v); short = s.short; long = s.long; last = s.last }) ≡ plate modules_rules s
      go true = ap (λ n. plate_of n (length s.odd) s.short s.long) (length-set s.even (a / 2) v)
      go false = ap (λ m. plate_of (length s.even) m s.short s.long) (length-set s.odd (a / 2) v)

  size_facts : (modules_size s % 4 ≡ 0) × (modules_size s ≤ 65536)
  size_facts = sized (modules_ok s) (length s.even + length s.odd) (λ e. (passed s e).total)

modules_memory : Memory modules_rules
modules_memory = record {
  price = modules_clocks;
  touch = modules_touch;
  put = modules_put;
  steps = λ s. elim [ read a ↦ refl | write a v ↦ refl | return_block a ↦ refl | return_all ↦ refl ];
  asks = λ s. elim [ Read ↦ λ a. refl | Write ↦ λ a. refl ];
  touch_plate = λ s a. refl;
  put_plate = put_plate;
  touch_low = λ s a. refl;
  put_low = λ s a v l o. put_low s a l v;
  homed = homed;
  whole = λ s. (size_facts s).0;
  reach = λ s. (size_facts s).1;
  lodged = lodged;
  apart = apart;
  priced = priced;
}

pub modules_meaning : Meaning modules_rules
modules_meaning = memory_meaning modules_memory

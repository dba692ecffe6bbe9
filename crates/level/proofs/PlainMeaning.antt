-- Plain memory has a meaning.
use Rattle.std.proofs.Common.{◌≡◌, ℕ, ◌<◌, ◌≤◌, true, length, refl, arith}
use Rattle.std.proofs.lemmas.Bool.{and_parts}
use Rattle.std.proofs.lemmas.List.{length-set}
use Rattle.level.specs.declared.level.Access.TheVariants.{Read, Write}
use Rattle.level.specs.Level.Call.{read, write, return_block, return_all}
use Rattle.level.specs.Meaning.{Meaning}
use Rattle.level.specs.Memory.{length_ok, figure_ok, Plain, plain_rules, plain_ok, plain_size, plain_put}
use Rattle.level.proofs.Sizes.{sized, below, cond_same}
use Rattle.level.proofs.MemoryMeaning.{Memory, memory_meaning}

long : (p : Plain) → plain_ok p ≡ true → length_ok (length p.bytes) ≡ true
long p e = (and_parts (length_ok (length p.bytes)) (figure_ok p.figure) e).0

pub plain_price : (p : Plain) (a : ℕ) → a < plain_size p → p.figure ≤ plain_rules.worst p
plain_price p a l = rw (below (plain_ok p) (length p.bytes) a l).0 (omega arith)

pub plain_memory : Memory plain_rules
plain_memory = record {
  price = λ p a. p.figure;
  touch = λ p a. p;
  put = plain_put;
  steps = λ p. elim [ read a ↦ rw cond_same | write a v ↦ refl | return_block a ↦ refl | return_all ↦ refl ];
  asks = λ p. elim [ Read ↦ λ a. refl | Write ↦ λ a. refl ];
  touch_plate = λ p a. refl;
  put_plate = λ p a v. rw length-set;
  touch_low = λ p a. refl;
  put_low = λ p a v l o. refl;
  homed = λ p a l. refl;
  whole = λ p. (sized (plain_ok p) (length p.bytes) (long p)).0;
  reach = λ p. (sized (plain_ok p) (length p.bytes) (long p)).1;
  lodged = λ p a l. (below (plain_ok p) (length p.bytes) a l).1;
  apart = λ p a b l m e. e;
  priced = plain_price;
}

pub plain_meaning : Meaning plain_rules
plain_meaning = memory_meaning plain_memory

-- An image has a meaning.
use Rattle.std.proofs.Common.{true, refl}
use Rattle.std.proofs.lemmas.Bool.{both_ways}
use Rattle.level.specs.declared.level.Access.TheVariants.{Read, Write}
use Rattle.level.specs.Level.Call.{read, write, return_block, return_all}
use Rattle.level.specs.Meaning.{Meaning}
use Rattle.level.specs.Memory.{image_rules}
use Rattle.level.proofs.Sizes.{cond_same}
use Rattle.level.proofs.MemoryMeaning.{Memory, memory_meaning}
use Rattle.level.proofs.PlainMeaning.{plain_memory, plain_price}

-- as plain memory, and as no write is accepted the state after one does not matter
image_memory : Memory image_rules
image_memory = record {
  price = λ p a. p.figure;
  touch = λ p a. p;
  put = λ p a v. p;
  steps = λ p. elim [ read a ↦ rw cond_same | write a v ↦ simp cond_same | return_block a ↦ refl | return_all ↦ refl ];
  asks = λ p. elim [ Read ↦ λ a. refl | Write ↦ λ a. refl ];
  touch_plate = λ p a. refl;
  put_plate = λ p a v. refl;
  touch_low = λ p a. refl;
  put_low = λ p a v l o. absurd (both_ways true o refl);
  homed = plain_memory.homed;
  whole = plain_memory.whole;
  reach = plain_memory.reach;
  lodged = plain_memory.lodged;
  apart = plain_memory.apart;
  priced = plain_price;
}

pub image_meaning : Meaning image_rules
image_meaning = memory_meaning image_memory

-- A memory that remembers has the meaning of a level: its bytes are those of plain memory.
use Rattle.std.specs.Prelude.{refl}
use Rattle.std.proofs.lemmas.List.{length-set}
use Rattle.level.specs.declared.level.Access.TheVariants.{Read, Write}
use Rattle.level.specs.Level.Call.{read, write, return_block, return_all}
use Rattle.level.specs.Meaning.{Meaning}
use Rattle.level.specs.Memory.{plain_put}
use Rattle.level.proofs.MemoryMeaning.{Memory, memory_meaning}
use Rattle.level.proofs.PlainMeaning.{plain_memory, plain_price}
use Rattle.traced.specs.Traced.{traced_rules, after_access}

traced_memory : Memory traced_rules
traced_memory = record {
  price = λ s a. s.memory.figure;
  touch = λ s a. after_access s s.memory a;
  put = λ s a v. after_access s (plain_put s.memory a v) a;
  steps = λ s. elim [ read a ↦ refl | write a v ↦ refl | return_block a ↦ refl | return_all ↦ refl ];
  asks = λ s. elim [ Read ↦ λ a. refl | Write ↦ λ a. refl ];
  touch_plate = λ s a. refl;
  put_plate = λ s a v. rw length-set;
  touch_low = λ s a. refl;
  put_low = λ s a v l o. refl;
  homed = λ s a l. refl;
  whole = λ s. plain_memory.whole s.memory;
  reach = λ s. plain_memory.reach s.memory;
  lodged = λ s. plain_memory.lodged s.memory;
  apart = λ s a b l m e. e;
  priced = λ s. plain_price s.memory;
}

pub traced_meaning : Meaning traced_rules
traced_meaning = memory_meaning traced_memory

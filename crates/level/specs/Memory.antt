-- Plain memory, the image, and what all memories have in common.
use Rattle.std.specs.Prelude.{ℕ, ◌%◌, Bool, true, false, cond, ◌&&◌, List, length, ◌==◌, nat_le, nat_lt, slice_index, slice_set}
use Rattle.level.specs.declared.level.Access.{Access}
use Rattle.level.specs.declared.level.Access.TheVariants.{Read, Write}
use Rattle.level.specs.Level.{Call, Answer, Outcome, Rules}
use Rattle.level.specs.Level.Call.{read, write, return_block, return_all}
use Rattle.level.specs.Level.Answer.{accepted, refused}

-- ---- all memories

-- a length, and a clock figure, that a memory may have
abbrev pub length_ok : ℕ → Bool
length_ok n = nat_lt 0 n && (nat_le n 65536 && n % 4 == 0)

abbrev pub figure_ok : ℕ → Bool
figure_ok t = nat_le 1 t && nat_le t 15

-- the number of the refusal of a making, or 0: m unless b holds, then n unless c holds
abbrev pub first_cause : Bool → ℕ → Bool → ℕ → ℕ
first_cause b m c n = cond b (cond c 0 n) m

-- the refusal of an address that is not below the size, else an answer
abbrev pub below_size : ℕ → ℕ → Answer → Answer
below_size size a r = cond (nat_lt a size) r (refused 1 a 0)

-- ---- plain memory: an array of bytes, and each access costs the same figure

pub record Plain : Type 0 where
  pub bytes : List ℕ
  pub figure : ℕ

abbrev pub plain_ok : Plain → Bool
plain_ok p = length_ok (length p.bytes) && figure_ok p.figure

abbrev pub plain_check : Plain → ℕ
plain_check p = first_cause (length_ok (length p.bytes)) 3 (figure_ok p.figure) 4

-- a memory made of what its check refuses has size 0
abbrev pub plain_size : Plain → ℕ
plain_size p = cond (plain_ok p) (length p.bytes) 0

abbrev pub plain_put : Plain → ℕ → ℕ → Plain
plain_put p a v = record { bytes = slice_set p.bytes a v; figure = p.figure }

abbrev pub plain_step : Plain → Call → Outcome Plain
plain_step p (read a) = record { answer = below_size (plain_size p) a (accepted (slice_index p.bytes a) p.figure); next = p }
plain_step p (write a v) = record { answer = below_size (plain_size p) a (accepted v p.figure); next = cond (nat_lt a (plain_size p)) (plain_put p a v) p }
plain_step p (return_block a) = record { answer = below_size (plain_size p) a (accepted 0 0); next = p }
plain_step p return_all = record { answer = accepted 0 0; next = p }

abbrev pub plain_rules : Rules Plain
plain_rules = record {
  size = plain_size;
  locked = λ p b. false;
  home = λ p a. a;
  worst = λ p. cond (plain_ok p) p.figure 0;
  seen = λ p a. slice_index p.bytes a;
  low = λ p. p.bytes;
  ask = λ p k a. below_size (plain_size p) a (accepted 0 0);
  step = plain_step;
  fresh = λ p. Unit {0};
}

-- ---- an image: bytes held for reading, so that every block is read-only; all else is as in plain memory

abbrev pub image_step : Plain → Call → Outcome Plain
image_step p (read a) = plain_step p (read a)
image_step p (write a v) = record { answer = below_size (plain_size p) a (refused 2 a 0); next = p }
image_step p (return_block a) = plain_step p (return_block a)
image_step p return_all = plain_step p return_all

abbrev pub image_ask : Plain → Access → ℕ → Answer
image_ask p Read a = below_size (plain_size p) a (accepted 0 0)
image_ask p Write a = below_size (plain_size p) a (refused 2 a 0)

abbrev pub image_rules : Rules Plain
image_rules = record {
  size = plain_rules.size;
  locked = λ p b. true;
  home = plain_rules.home;
  worst = plain_rules.worst;
  seen = plain_rules.seen;
  low = plain_rules.low;
  ask = image_ask;
  step = image_step;
  fresh = plain_rules.fresh;
}

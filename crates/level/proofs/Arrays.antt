-- A level that has a meaning answers as an array of bytes does.
use Rattle.std.proofs.Common.{◌≡◌, ℕ, ◌<◌, Bool, true, false, cond, eqb, List, [], ◌∷◌, get_or, set, sym, refl, ap, ◌∙◌, inl, inr, arith, length-set, get_or-set_other, get_or-set_same, true-eqb, false-eqb}
use Rattle.std.proofs.lemmas.Bool.{cases_eq}
use Rattle.level.specs.Level.{Call, Answer, Rules, address, taken, block}
use Rattle.level.specs.Level.Call.{read, write, return_block, return_all}
use Rattle.level.specs.Level.Answer.{accepted, refused}
use Rattle.level.specs.Runs.{Log, Run, logged}
use Rattle.level.specs.Runs.Run.{called}
use Rattle.level.specs.Meaning.{cause, Judged, Kept, Meaning, given, Accepts}
use Rattle.level.specs.Arrays.{AsArray, array_next, Shows, ArrayRun, LikeArray}
use Rattle.level.proofs.Answers.{accepted_cause, judged_taken, below_from, free_from}

-- a call that has a cause is refused
refused_for : (n a : ℕ) (x : Answer) → Judged n a x → eqb n 0 ≡ false → taken x ≡ false
refused_for n a (accepted v k) h e = absurd (false-eqb n 0 (sym e) h)
refused_for n a (refused m b d) h e = refl

module _ {S : Type 0} {R : Rules S} (h : Meaning R) (s : S) (f : R.fresh s) where
  module _ (t : S) (log : Log) (r : Run R s log t) (bytes : List ℕ) (w : Shows R s t bytes) where
    k : Kept R s t log r
    k = h.kept s t log f r

    -- the byte that an accepted call gives
    given_there : (c : Call) → cause (R.size s) (R.locked s) c ≡ 0 → given (R.seen t) c ≡ given (λ a. get_or bytes a 0) c
    given_there (read a) e = sym (w.seen a (below_from a (R.size s) e))
    given_there (write a v) e = refl
    given_there (return_block a) e = refl
    given_there return_all e = refl

    pub answers_one : (c : Call) → AsArray (R.size s) (R.locked s) bytes c (R.step t c).answer
    answers_one c = record {
      judged = k.judged c;
      gives = λ e. k.gives c e ∙ given_there c (accepted_cause _ (address c) (R.step t c).answer (k.judged c) e);
    }

    -- an accepted write
    put_there : (a v : ℕ) → eqb (cause (R.size s) (R.locked s) (write a v)) 0 ≡ true → Shows R s (R.step t (write a v)).next (set bytes a v)
    put_there a v e =
        let none : cause (R.size s) (R.locked s) (write a v) ≡ 0 = true-eqb _ 0 (sym e) in
        let ok : Accepts R t (write a v) = taken_for a v none in
        let lt : a < R.size s = (free_from a (R.size s) (R.locked s (block a)) none).0 in
        record {
          long = length-set bytes a v ∙ w.long;
          seen = λ b l. elim (cases_eq b a) [ inl same ↦ here a v b ok lt same | inr other ↦ get_or-set_other bytes a b v 0 (λ q. other q) ∙ w.seen b l ∙ sym (k.write_keeps a v b l (λ q. other (sym q))) ];
        }
      where
        taken_for : (a v : ℕ) → cause (R.size s) (R.locked s) (write a v) ≡ 0 → Accepts R t (write a v)
        taken_for a v e = judged_taken a (R.step t (write a v)).answer (rw (sym e) (k.judged (write a v)))

        here : (a v b : ℕ) → Accepts R t (write a v) → a < R.size s → b ≡ a → get_or (set bytes a v) b 0 ≡ R.seen (R.step t (write a v)).next b
        here a v b ok lt same = rw same (get_or-set_same bytes a v 0 (omega (arith, w.long)) ∙ sym (k.writes a v ok))

    -- a call after which the same bytes are seen
    same_there : (u : S) → ((b : ℕ) → b < R.size s → R.seen u b ≡ R.seen t b) → Shows R s u bytes
    same_there u e = record { long = w.long; seen = λ b l. w.seen b l ∙ sym (e b l) }

    pub shows_one : (c : Call) → Shows R s (R.step t c).next (array_next (R.size s) (R.locked s) bytes c)
    shows_one (read a) = same_there _ (k.read_keeps a)
    shows_one (return_block a) = same_there _ (k.return_keeps a)
    shows_one return_all = same_there _ k.return_all_keeps
    shows_one (write a v) = by (eqb (cause (R.size s) (R.locked s) (write a v)) 0) refl
      where
        by : (b : Bool) → eqb (cause (R.size s) (R.locked s) (write a v)) 0 ≡ b → Shows R s (R.step t (write a v)).next (cond b (set bytes a v) bytes)
        by true e = put_there a v e
        by false e = same_there _ (λ b l. ap (λ u. R.seen u b) (k.refusal_stays (write a v) (refused_for _ a (R.step t (write a v)).answer (k.judged (write a v)) e)))

  pub array_run : (cs : List Call) (t : S) (log : Log) → Run R s log t → (bytes : List ℕ) → Shows R s t bytes → ArrayRun R s t bytes cs
  array_run [] t log r bytes w = record {
    answers = refl;
    shows = w;
    returned = λ a l. (h.kept s t log f r).settles return_all a l tt ∙ sym (w.seen a l);
  }
  array_run (c ∷ cs) t log r bytes w =
      let rest = array_run cs (R.step t c).next (logged c (R.step t c).answer log) (called r c) (array_next (R.size s) (R.locked s) bytes c) (shows_one t log r bytes w c) in
      record { answers = (answers_one t log r bytes w c, rest.answers); shows = rest.shows; returned = rest.returned }

pub like_array : {S : Type 0} {R : Rules S} → Meaning R → LikeArray R
like_array h s t log f r bytes w cs = array_run h s f cs t log r bytes w

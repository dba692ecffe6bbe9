-- What the cache makes of the answer to its query.
use Rattle.std.proofs.Common.{◌≡◌, ℕ, Bool, refl, subst, arith}
use Rattle.level.specs.Level.{Call, Answer, Outcome, Rules, address, deeper}
use Rattle.level.specs.declared.level.Access.TheVariants.{Read, Write}
use Rattle.level.specs.Level.Call.{read, write, return_block}
use Rattle.level.specs.Level.Answer.{accepted, refused}
use Rattle.level.specs.Runs.{Log, Run}
use Rattle.level.specs.Meaning.{Kept, Judged, cause, verdict}
use Rattle.ways.specs.Ways.{Shape, Orders}
use Rattle.pile.specs.Cache.{Cached, unless_refused}

-- a query that tells what the call c gets
pub record Query (size : ℕ) (locked : ℕ → Bool) (c : Call) (q : Answer) : Type 0 where
  pub plain : verdict q ≡ q
  pub judged : Judged (cause size locked c) (address c) q

verdict_judged : (n a : ℕ) (z : Answer) → Judged n a z → Judged n a (verdict z)
verdict_judged n a (accepted v k) h = h
verdict_judged n a (refused m b d) h = h

verdict_plain : (z : Answer) → verdict (verdict z) ≡ verdict z
verdict_plain (accepted v k) = refl
verdict_plain (refused n a d) = refl

module _ {S : Type 0} {R : Rules S} {s x : S} {log : Log} {r : Run R s log x} (k : Kept R s x log r) where
  query : (c : Call) (q : Answer) → verdict (R.step x c).answer ≡ q → Query (R.size s) (R.locked s) c q
  query c q e = subst (Query (R.size s) (R.locked s) c) e (record {
    plain = verdict_plain (R.step x c).answer;
    judged = verdict_judged _ (address c) (R.step x c).answer (k.judged c);
  })

  pub query_read : (a : ℕ) → Query (R.size s) (R.locked s) (read a) (R.ask x Read a)
  query_read a = query (read a) (R.ask x Read a) (k.asks_read a)

  pub query_write : (a v : ℕ) → Query (R.size s) (R.locked s) (write a v) (R.ask x Write a)
  query_write a v = query (write a v) (R.ask x Write a) (k.asks_write a v)

  pub query_return : (a : ℕ) → Query (R.size s) (R.locked s) (return_block a) (R.ask x Read a)
  query_return a = query (return_block a) (R.ask x Read a) (k.asks_return a)

module _ {S Q : Type 0} (R : Rules S) (m : Shape) (P : Orders Q) (t : Cached S Q) where
  -- a call has no cause, or it is refused and changes nothing
  pub unless_cases : {size : ℕ} {locked : ℕ → Bool} {c : Call} (q : Answer) → Query size locked c q → (o : Outcome (Cached S Q)) (K : Outcome (Cached S Q) → Type 0) →
      (cause size locked c ≡ 0 → K o) → ((n a d : ℕ) → K (record { answer = refused n a d; next = t })) → K (unless_refused R m P t q o)
  unless_cases (accepted v k) h o K go_on off = go_on h.judged
  unless_cases (refused n a d) h o K go_on off = off n a _

  -- the outcome of a call that would be accepted
  module _ (v k : ℕ) (next : Cached S Q) where
    pub un_judged : {size : ℕ} {locked : ℕ → Bool} {c : Call} (q : Answer) → Query size locked c q → Judged (cause size locked c) (address c) (unless_refused R m P t q (record { answer = accepted v k; next = next })).answer
    un_judged (accepted a b) h = h.judged
    un_judged (refused n a d) h = let j = h.judged in (j.0, j.1, j.2, omega arith)

    pub un_asks : {size : ℕ} {locked : ℕ → Bool} {c : Call} (q : Answer) → Query size locked c q → verdict (unless_refused R m P t q (record { answer = accepted v k; next = next })).answer ≡ deeper q
    un_asks (accepted a b) h = h.plain
    un_asks (refused n a d) h = refl

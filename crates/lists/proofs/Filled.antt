-- One result more behind the others, and one word less to serve.
use Rattle.std.proofs.Common.{◌≡◌, ℕ, suc, ◌+◌, ◌*◌, ◌≤◌, List, ◌∷◌, ◌++◌, length, take, drop, Ok, Err, Result, IsOk, append_assoc, arith, rules}
use Rattle.std.specs.Option.{option_map}
use Rattle.std.specs.Result.{result_ok}
use borrow.Rule.Slice.PartMut.{put_mid}
use Rattle.std.proofs.lemmas.Slice.{take-put_mid, drop-put_mid}
use Rattle.words.specs.declared.refusal.ListRefusal.{ListRefusal}
use Rattle.words.specs.declared.request.Operation.{Operation}
use Rattle.words.specs.declared.request.Request.{Request}
use Rattle.words.specs.Requests.{asked, decoded, operations}
use Rattle.words.specs.Summaries.{AllLegal, Legal}
use Rattle.level.specs.Level.{Rules, capped}
use Rattle.level.specs.Listed.{after}
use Rattle.lists.specs.ListRuns.{result_words}
use Rattle.lists.specs.Results.{call, calls, word_of}

-- a word goes behind the first `end` bytes of xs
pub one_more : (whole xs w ws : List ℕ) (end k m : ℕ) → k ≡ 8 → length w ≡ 8 → end + 8 ≤ length xs
    → whole ≡ take end xs ++ ((w ++ ws) ++ drop (end + 8 * suc m) xs)
    → whole ≡ take (end + 8) (put_mid end k xs w) ++ (ws ++ drop (end + 8 + 8 * m) (put_mid end k xs w))
one_more whole xs w ws end k m e l h is =
    let front = take-put_mid end k xs w (end + 8) (omega arith) (omega arith) in
    let back = drop-put_mid end k xs w (end + 8 + 8 * m) (omega arith) (omega arith) (omega arith) in
    let n : end + 8 * suc m ≡ end + 8 + 8 * m = omega arith in
    rw (front, back, ← n) (simp append_assoc (simp append_assoc at is))

-- the first of legal words is decoded
pub decodes : (r : Result Request ListRefusal) (b : List ℕ) (ws more : List (List ℕ)) → ws ≡ b ∷ more → AllLegal ws (length ws) → option_map asked (result_ok r) ≡ decoded b → IsOk r
decodes (Ok q) b ws more e legal is = search rules
decodes (Err x) b ws more e legal is =
    let first : Legal b = (rw e at legal) 0 (omega arith) in
    rw (← is) at first

module _ {S : Type 0} (R : Rules S) (first : S) (all : List Operation) (before : List ℕ) where
  -- in the state s the legal words ws are still to serve, and the results so far are the first `end` bytes of xs
  pub record Due (s : S) (ws : List (List ℕ)) (xs : List ℕ) (end : ℕ) : Type 0 where
    pub legal : AllLegal ws (length ws)
    pub state : after R first (calls all) ≡ after R s (calls (operations ws))
    pub results : result_words R first all ++ drop (8 * length all) before ≡ take end xs ++ (result_words R s (operations ws) ++ drop (end + 8 * length (operations ws)) xs)
    pub room : end + 8 * length ws ≤ length before

  pub turn : (s t : S) (o : Operation) (b : List ℕ) (ws more : List (List ℕ)) (xs w : List ℕ) (end start k next : ℕ)
      → ws ≡ b ∷ more → operations ws ≡ o ∷ operations more → t ≡ (R.step s (call o)).next → w ≡ word_of o (capped (R.step s (call o)).answer)
      → start ≡ end → k ≡ 8 → next ≡ end + 8 → length w ≡ 8 → length xs ≡ length before
      → Due s ws xs end → Due t more (put_mid start k xs w) next
  turn s t o b ws more xs w end start k next e asks n is here eight on long same due =
      let r = rw e at due.room in
      let whole = rw (asks, ← is) at due.results in
      rw (here, on) (record {
        legal = λ k l. (rw e at due.legal) (suc k) (omega arith);
        state = rw n (rw asks at due.state);
        results = rw n (one_more _ xs w _ end k _ eight long (omega arith) whole);
        room = omega arith;
      })

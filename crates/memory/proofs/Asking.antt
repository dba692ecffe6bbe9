-- The query of a read tells whether a level has the address.
use Rattle.std.proofs.Common.{◌≡◌, ℕ, Bool, true, false, cond, ltb, [], sym, refl, ap, ◌∙◌, arith}
use Rattle.level.specs.declared.level.Access.TheVariants.{Read}
use Rattle.level.specs.Level.{Answer, Rules, taken}
use Rattle.level.specs.Level.Call.{read}
use Rattle.level.specs.Level.Answer.{accepted, refused}
use Rattle.level.specs.Runs.Run.{begun}
use Rattle.level.specs.Meaning.{Judged, Meaning, verdict}

-- the empty run is judged as every run is
pub asked_read : {S : Type 0} {R : Rules S} → Meaning R → (s : S) → R.fresh s → (a : ℕ) → taken (R.ask s Read a) ≡ ltb a (R.size s)
asked_read {R = R} m s fresh a =
    let k = m.kept s s [] fresh begun in
    ap taken (sym (k.asks_read a)) ∙ go (R.step s (read a)).answer (ltb a (R.size s)) (k.judged (read a))
  where
    go : (x : Answer) (b : Bool) → Judged (cond b 0 1) a x → taken (verdict x) ≡ b
    go (accepted v k) true h = refl
    go (accepted v k) false h = cc
    go (refused n b d) true h = absurd (omega arith)
    go (refused n b d) false h = refl

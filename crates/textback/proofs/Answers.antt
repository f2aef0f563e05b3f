-- Where a call that writes text answers code 0, the image is accepted, and the bytes that it answers are the text.
use Prim.Native.Nat.{ℕ}
use mathlib.Core.Path.{◌≡◌, refl, sym, ap, ◌∙◌}
use mathlib.Core.List.{List, ◌++◌}
use lib.Dec.{eqb}
use lib.ListN.{length, take, drop}
use lib.Seq.{take_at}
use borrow.Author.Tests.{eqb-true, eqb-false}
use Rattle.std.specs.Prelude.{Ok, Err}
use Rattle.ground.specs.Each.{every}
use Rattle.ground.specs.Judged.{Judged}
use Rattle.ground.proofs.Each.{by_bool}
use Rattle.refusals.specs.FirstBroken.{Verdict, Passed, Refused, first_broken}
use Rattle.refusals.specs.Rules.{checked}
use Rattle.refusals.proofs.FirstBroken.{and_then, broken_append}
use Rattle.picture.specs.Painted.{band_rules, paint_rules, afterwards}
use Rattle.picture.proofs.Answers.{no_code, band_verdict, as_checked, passed_accepted, given_code}
use Rattle.painttext.specs.declared.Written.{Written}
use Rattle.painttext.specs.PaintedText.{output_rules, written_verdict, written_of}

-- where two verdicts one after the other pass, the first does
first_passes : (v w : Verdict) → and_then v w ≡ Passed → v ≡ Passed
first_passes (Ok passed) w e = refl
first_passes (Err refusal) w e = e

module _ (image : List ℕ) (first rows : ℕ) (lent : List Judged) (wanted : ℕ) (out : List ℕ) where
  abbrev verdict : Verdict
  verdict = written_verdict image first rows lent wanted out

  parts : verdict ≡ and_then (first_broken (paint_rules image first rows lent)) (first_broken (output_rules wanted out))
  unfolding written_verdict
  parts = broken_append (paint_rules image first rows lent) (output_rules wanted out)

  -- of an accepted image it is the verdict of the rules that are no rules of the check
  added : (checked image).code ≡ 0 → verdict ≡ first_broken (band_rules image first rows lent ++ output_rules wanted out)
  added z = parts ∙ rw (band_verdict image first rows lent z) (sym (broken_append (band_rules image first rows lent) (output_rules wanted out)))

  refused : ((checked image).code ≡ 0 → ⊥) → verdict ≡ Refused (checked image).code (checked image).place
  refused n = parts ∙ rw ((as_checked image first rows lent).refused n)

  never_zero : (place : ℕ) → verdict ≡ Refused 0 place → ⊥
  unfolding every
  never_zero place e =
      by_bool (eqb (checked image).code 0)
      (λ z. no_code (band_rules image first rows lent ++ output_rules wanted out) place refl (sym (added (eqb-true _ _ z)) ∙ e))
      (λ n.
      let some = eqb-false (checked image).code 0 n in
      let r = refused some in
      some (ap given_code (sym r ∙ e)))

  -- The answer has code 0 only where all rules are kept.
  pub code_passed : (bytes : ℕ) → (written_of verdict bytes).code ≡ 0 → verdict ≡ Passed
  unfolding written_of
  code_passed bytes e = by verdict refl e
    where
      by : (v : Verdict) → verdict ≡ v → (written_of v bytes).code ≡ 0 → verdict ≡ Passed
      by (Ok passed) same h = same
      by (Err refusal) same h = absurd (never_zero refusal.place (same ∙ ap (λ (n : ℕ). Refused n refusal.place) h))

  pub passed_checked : verdict ≡ Passed → (checked image).code ≡ 0
  passed_checked p =
      passed_accepted image first rows lent _ (as_checked image first rows lent) (first_passes _ _ (sym parts ∙ p))

-- The bytes that the answer counts are the text.
pub text_left :
    (v : Verdict) (text out out' : List ℕ) (answer : Written) → v ≡ Passed →
    answer ≡ written_of v (length text) → out' ≡ afterwards v text out → take answer.bytes out' ≡ text
unfolding written_of afterwards
text_left v text out out' answer passed answered left =
    let bytes : answer.bytes ≡ length text = rw (answered, passed) in
    rw (bytes, left, passed) (take_at text (drop (length text) out) (length text) refl)

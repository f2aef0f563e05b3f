-- What is found tells: its code, and the rest as lent words.
use Prim.Native.Nat.{ℕ}
use mathlib.Core.List.{List}
use mathlib.Core.Path.{◌≡◌, ap, ◌∙◌}
use lib.ListN.{set}
use Rattle.refusals.specs.declared.Answer.{Answer}
use Rattle.paint.specs.declared.Outcome.{Outcome}
use Rattle.painttext.specs.declared.Written.{Written}
use Rattle.pivotdawn.specs.Told.{told, told_place, told_written}

-- of an image
module _ (found promised : Answer) (e : found ≡ promised) where
  pub image_code : found.code ≡ promised.code
  image_code = ap (λ (a : Answer). a.code) e

  pub image_words :
      (before between after : List ℕ) →
      between ≡ set before 0 found.place → after ≡ set between 1 found.runs →
      after ≡ told promised before
  image_words before between after place runs =
      runs ∙ ap (λ (l : List ℕ). set l 1 found.runs) place ∙ ap (λ (a : Answer). told a before) e

-- of a band
module _ (found promised : Outcome) (e : found ≡ promised) where
  pub band_code : found.code ≡ promised.code
  band_code = ap (λ (o : Outcome). o.code) e

  pub band_words : (before after : List ℕ) → after ≡ set before 0 found.place → after ≡ told_place promised before
  band_words before after place = place ∙ ap (λ (o : Outcome). told_place o before) e

-- of a band as text
pub text_words :
    (written : Written) (before between after : List ℕ) →
    between ≡ set before 0 written.place → after ≡ set between 1 written.bytes →
    after ≡ told_written written before
text_words written before between after place bytes = bytes ∙ ap (λ (l : List ℕ). set l 1 written.bytes) place

-- Every character of an accepted image's text is a scalar value and no control character.
use native.Mathlib.Omega.{arith}
use Prim.Native.Nat.{ℕ}
use mathlib.Core.Path.{◌≡◌, sym, ◌∙◌}
use mathlib.Core.Bool.{true}
use mathlib.Core.List.{List}
use mathlib.Core.Logic.{inl, ⊎_elim}
use borrow.Author.Tests.{le-leb}
use Rattle.ground.proofs.Order.{by_order}
use Rattle.ground.proofs.Each.{and_both}
use Rattle.cell.specs.declared.Parts.TheVariants.{Text}
use Rattle.glyph.specs.Ranges.{Fixed, space, quote, opening, closing}
use Rattle.records.specs.Good.{Scalar}
use Rattle.refusals.specs.Rules.{checked}
use Rattle.refusals.proofs.Theorems.{accepted_iff}
use Rattle.picture.specs.Picture.{picture_row}
use Rattle.picture.specs.Characters.{parts_at, Character, written, glyph}
use Rattle.picture.proofs.Theorems.{picture_characters, no_control}
use Rattle.sheettext.specs.Scalars.{is_scalar}
use Rattle.sheettext.proofs.Scalars.{below_surrogates, above_surrogates}
use Rattle.textback.proofs.Reading.{clear}
use Rattle.textback.proofs.Rows.{AllClear, parts_clear}

-- the check's scalar values are those of the reader of text
scalar_is : (n : ℕ) → Scalar n → is_scalar n ≡ true
scalar_is n s = ⊎_elim (λ low. sym (below_surrogates n low)) (λ high. sym (above_surrogates n high.0) ∙ le-leb n 0x10FFFF high.1) s

fixed_scalar : (ch : ℕ) → Fixed ch → is_scalar ch ≡ true
fixed_scalar ch space = sym (below_surrogates 0x20 (omega arith))
fixed_scalar ch quote = sym (below_surrogates 0x22 (omega arith))
fixed_scalar ch opening = sym (below_surrogates 0x5B (omega arith))
fixed_scalar ch closing = sym (below_surrogates 0x5D (omega arith))

module _ (image : List ℕ) (accepted : (checked image).code ≡ 0) where
  character_scalar : (ch : ℕ) → Character image ch → is_scalar ch ≡ true
  character_scalar ch (written f) = fixed_scalar ch f
  character_scalar ch (glyph k h e) = rw e (scalar_is _ (((accepted_iff image).0 accepted).tables.fields.glyphs k h).value)

  text_clear : (y x ch : ℕ) → parts_at (picture_row image y).cells x ≡ Text ch → clear ch ≡ true
  text_clear y x ch e =
      and_both
      (character_scalar ch (picture_characters image accepted y x ch e))
      (by_order ch 0x20 (λ low. absurd (no_control image accepted y x ch e (inl (omega arith)))) (le-leb 0x20 ch))

  pub picture_clear : (y : ℕ) → AllClear (picture_row image y).cells
  picture_clear y x ch e = parts_clear (parts_at (picture_row image y).cells x) ch (text_clear y x) e

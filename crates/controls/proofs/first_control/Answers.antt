-- `first_control` finds the first glyph that is a control character.
use borrow.Author.Rules.{rules}
use Rattle.layout.specs.Layout.{glyph_value}
use Rattle.layout.specs.Tables.{field}
use Rattle.elements.proofs.Records.{broken_searched}
use Rattle.controls.specs.Controls.{is_control, controls_judged}
use Rattle.controls.proofs.first_control.Goals as goal

pub returns : goal.returns
unfolding controls_judged
returns c =
    broken_searched c.args.glyphs (λ k. is_control (field c.args.image.now c.args.glyphs k glyph_value)) _ _ c.first_found.ensures
    (λ k answer h e. search rules)

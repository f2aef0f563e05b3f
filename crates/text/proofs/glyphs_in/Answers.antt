-- `glyphs_in` writes glyphs side by side into a row. The invariant: with those ahead, the row and the column come to the whole.
use borrow.Author.Rules.{rules}
use Prim.Native.Nat.{◌-◌}
use mathlib.Core.Path.{refl, ◌∙◌}
use Rattle.text.proofs.Laws.{columns_again, columns_done, text_again, text_end}
use Rattle.text.proofs.glyphs_in.Goals as goal

pub loop-ch-init : goal.loop-ch-init
loop-ch-init c = (search rules, refl, refl)

pub loop-ch-preserved : goal.loop-ch-preserved
loop-ch-preserved c =
    let width = c.number-column.ensures.0 ∙ c.char_width.ensures.0 in (
      search rules,
      columns_again _ _ _ _ _ c.loop-ch-test.true refl _ _ width c.loop-ch.invariant.1,
      text_again _ _ _ _ _ c.loop-ch-test.true refl _ _ _ _ width c.loop-ch.invariant.2 c.text.ensures,
    )

pub returns-clause-value : goal.returns-clause-value
returns-clause-value c = columns_done _ _ _ _ _ c.loop-ch-test.false c.loop-ch.invariant.1

pub returns-clause-row_after : goal.returns-clause-row_after
returns-clause-row_after c = text_end _ _ _ _ _ _ c.loop-ch-test.false c.loop-ch.invariant.2

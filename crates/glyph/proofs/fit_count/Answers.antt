-- `fit_count` is how many glyphs fit. The invariant: the glyphs passed, and those of the rest that fit, are that many.
use borrow.Author.Rules.{rules}
use native.Mathlib.Omega.{arith}
use mathlib.Core.Path.{◌≡◌, ◌∙◌}
use lib.ListN.{length}
use Rattle.glyph.proofs.Laws.{all_fit, one_more, no_more}
use Rattle.glyph.proofs.fit_count.Goals as goal

pub returns-then-left-width : goal.returns-then-left-width
returns-then-left-width c = (no_more _ _ _ _ _ c.loop-n.invariant.1 c.number-width.result (search rules) (search rules) (search rules), search rules)

pub loop-n-preserved : goal.loop-n-preserved
loop-n-preserved c = (search rules, one_more _ _ _ _ _ (search rules) _ (search rules) (search rules) (search rules))

pub returns : goal.returns
returns c =
    let end : length c.args.label.now ≡ c.loop-n.n = omega (arith, c.loop-n.invariant.0) in
    (end ∙ all_fit _ _ _ _ _ c.loop-n.invariant.1 (search rules), search rules)

-- `first_broken` finds the first range that breaks the rule.
use borrow.Author.Rules.{rules}
use mathlib.Core.Path.{◌∙◌}
use Rattle.ground.specs.Judged.{first_bad}
use Rattle.ground.proofs.Judged.{first_judged}
use Rattle.glyph.specs.Width.{range_count}
use Rattle.glyph.specs.Ranges.{judged_range, judged_ranges, first_broken}
use Rattle.glyph.proofs.Laws.{range_looked}
use Rattle.glyph.proofs.first_broken.Goals as goal

pub returns : goal.returns
unfolding first_broken judged_ranges
returns c =
    let ranges = c.args.ranges.now in
    c.first_found.ensures (λ k. first_bad (judged_range (λ n. n) ranges k)) (λ k answer h e. search (range_looked (λ n. n), rules))
    ∙ first_judged (judged_range (λ n. n) ranges) 0 (range_count ranges)

-- `bad_corner` finds the first edge with a corner below 0.
use borrow.Author.Rules.{rules}
use Rattle.elements.proofs.Records.{broken_searched}
use Rattle.corners.specs.Corners.{edge_below, corners_judged}
use Rattle.corners.proofs.bad_corner.Goals as goal

pub returns : goal.returns
unfolding corners_judged
returns c =
    broken_searched c.args.ts.edges (edge_below c.args.image.now c.args.ts) _ _ c.first_found.ensures (λ k answer h e. search rules)

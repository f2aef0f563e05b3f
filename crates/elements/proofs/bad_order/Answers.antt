-- `bad_order` finds the first element whose rows are out of order.
use borrow.Author.Rules.{rules}
use Rattle.elements.specs.Elements.{rows_broken, order_judged}
use Rattle.elements.proofs.Records.{broken_searched}
use Rattle.elements.proofs.bad_order.Goals as goal

pub returns : goal.returns
unfolding order_judged
returns c =
    broken_searched c.args.ts.elements (rows_broken c.args.image.now c.args.ts) _ _ c.first_found.ensures (λ k answer h e. search rules)

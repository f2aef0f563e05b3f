-- `unlisted_subgraph` finds the first subgraph that touches a row which its listing lacks.
use borrow.Author.Rules.{rules}
use Rattle.image.specs.declared.ElementKind.TheVariants as kind
use Rattle.listing.proofs.Laws.{things_searched}
use Rattle.listing.proofs.unlisted_subgraph.Goals as goal

pub returns : goal.returns
returns c =
    things_searched kind.Subgraph c.args.image.now c.args.ts c.args.slots.now c.from-number.result _ _ c.requires c.from-number.ensures.0 c.first_found.ensures (λ k answer h e. search rules)

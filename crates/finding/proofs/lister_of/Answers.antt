-- `lister_of` finds the first element that names a thing.
use borrow.Author.Rules.{rules}
use Rattle.std.specs.Bool.{then_some}
use Rattle.elements.specs.Elements.{names, lister}
use Rattle.finding.proofs.lister_of.Goals as goal

pub returns : goal.returns
unfolding lister
returns c =
    let image = c.args.image.now in
    rw (← c.tables_of-ts.ensures.value) (c.first_found.ensures (λ k. then_some (names image c.tables_of-ts.result c.args.kind c.args.index k) k) (λ k answer h e. search rules))

-- `Arms::pack` gives the packing of four arms, which is below 4096.
use borrow.Author.Rules.{rules}
use Rattle.cell.specs.OneCell.{pack_arms}
use Rattle.cell.proofs.Arms.pack.Goals as goal

pub returns : goal.returns
unfolding pack_arms
returns c = search rules

-- `bend_piece` gives the arrow at a stop, the target's first, or the bend.
use borrow.Author.Rules.{rules}
use Rattle.leg_pieces.proofs.Laws.{bend_of}
use Rattle.leg_pieces.proofs.bend_piece.Goals as goal

pub returns : goal.returns
returns c = search (bend_of, rules)

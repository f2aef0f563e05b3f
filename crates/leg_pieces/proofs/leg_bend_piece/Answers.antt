-- `leg_bend_piece` is the bend at a leg's start, and nothing at the source.
use Rattle.orthogonal.specs.Orthogonal.{leg_bend_piece}
use Rattle.orthogonal.proofs.Laws.{bend_after}
use Rattle.leg_pieces.proofs.leg_bend_piece.Goals as goal

pub returns-then-leg : goal.returns-then-leg
unfolding leg_bend_piece
returns-then-leg c = rw c.if-leg.true

pub returns : goal.returns
returns c = bend_after _ _ _ _ _ c.if-leg.false c.bend_piece.ensures

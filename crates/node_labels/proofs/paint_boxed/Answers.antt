-- `paint_boxed` paints a light box with the label's fitting part in it.
use borrow.Author.Rules.{rules}
use native.Mathlib.Omega.{arith}
use Rattle.window.proofs.Theorems.{ready_after}
use Rattle.text.proofs.Laws.{fitting_few}
use Rattle.node_labels.proofs.Laws.{boxed_inked}
use Rattle.node_labels.proofs.paint_boxed.Goals as goal

pub text_at-requires : goal.text_at-requires
text_at-requires c = (ready_after _ _ _ _ _ _ _ _ _ _ c.box_at.ensures c.requires.0, (omega (arith, c.number-x.ensures.1), fitting_few _ _ _ _ c.fitting_part-part.ensures c.requires.1))

pub returns : goal.returns
returns c = search (boxed_inked, rules)

-- `paint_look` paints what a node shows that looks so.
use borrow.Author.Rules.{rules}
use mathlib.Core.Path.{sym}
use Rattle.window.proofs.Theorems.{ink_none, ready_after}
use Rattle.frame.specs.Nodes.{look_spots}
use Rattle.node_paint.proofs.Laws.{look_inked, look_boxed, look_simple}
use Rattle.node_paint.proofs.paint_look.Goals as goal

pub paint_loop-requires : goal.paint_loop-requires
paint_loop-requires c = ready_after _ _ _ _ _ _ _ _ _ _ c.paint_boxed.ensures c.requires.0

pub paint_loop-requires-in-Simple : goal.paint_loop-requires-in-Simple
paint_loop-requires-in-Simple c = ready_after _ _ _ _ _ _ _ _ _ _ c.paint_simple.ensures c.requires.0

pub returns-in-Hidden : goal.returns-in-Hidden
unfolding look_spots
returns-in-Hidden c = look_inked _ _ _ c.args.n c.args.label.now _ _ _ _ c.in-Hidden.is (sym (ink_none _ _ _))

pub returns-in-Dummy : goal.returns-in-Dummy
unfolding look_spots
returns-in-Dummy c = look_inked _ _ _ c.args.n c.args.label.now _ _ _ _ c.in-Dummy.is c.paint_dummy.ensures

pub returns-in-Box : goal.returns-in-Box
returns-in-Box c = search (look_boxed, rules)

pub returns-in-Simple : goal.returns-in-Simple
returns-in-Simple c = search (look_simple, rules)

pub returns-in-Blank : goal.returns-in-Blank
unfolding look_spots
returns-in-Blank c = look_inked _ _ _ c.args.n c.args.label.now _ _ _ _ c.in-Blank.is c.paint_loop-in-Blank.ensures

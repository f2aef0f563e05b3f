-- `look_of` says how a node looks.
use Rattle.frame.specs.Nodes.{look_of}
use Rattle.frame.proofs.nodes.look_of.Goals as goal

pub returns-in-Simple : goal.returns-in-Simple
unfolding look_of
returns-in-Simple c = rw c.in-Simple.is

pub returns-in-Boxed : goal.returns-in-Boxed
unfolding look_of
returns-in-Boxed c = rw c.in-Boxed.is c.box_or_simple.ensures

pub returns-in-Blank : goal.returns-in-Blank
unfolding look_of
returns-in-Blank c = rw c.in-Blank.is

pub returns-then-show_dummies : goal.returns-then-show_dummies
unfolding look_of
returns-then-show_dummies c = rw (c.in-Dummy.is, c.if-show_dummies.true)

pub returns-else-show_dummies : goal.returns-else-show_dummies
unfolding look_of
returns-else-show_dummies c = rw (c.in-Dummy.is, c.if-show_dummies.false)

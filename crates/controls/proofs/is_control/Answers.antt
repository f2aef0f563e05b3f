-- `is_control` tells whether a value is a control character.
use borrow.Author.Rules.{rules}
use Rattle.controls.specs.Controls.{is_control}
use Rattle.controls.proofs.is_control.Goals as goal

pub returns : goal.returns
unfolding is_control
returns c = search rules

-- `mark` marks a slot, and nothing past the end.
use borrow.Author.Rules.{rules}
use mathlib.Core.Path.{sym}
use lib.Seq.{set_out}
use Rattle.selection.proofs.mark.Goals as goal

pub returns-else-slot-marks : goal.returns-else-slot-marks
returns-else-slot-marks c = sym (set_out _ _ _ (search rules))

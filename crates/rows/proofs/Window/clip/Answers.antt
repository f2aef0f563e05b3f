-- `Window::clip` gives the rows from a to b that the window has.
use borrow.Author.Rules.{rules}
use native.Mathlib.Omega.{arith}
use Rattle.rows.proofs.Windows.{clipped, clipped_none}
use Rattle.rows.proofs.Window.clip.Goals as goal

pub returns-then-b-from : goal.returns-then-b-from
returns-then-b-from c = clipped_none _ _ _ (omega arith)

pub returns-then-rows-from : goal.returns-then-rows-from
returns-then-rows-from c = clipped_none _ _ _ (omega arith)

pub returns-then-b-top : goal.returns-then-b-top
returns-then-b-top c = clipped _ _ _ _ _ (search rules) (omega arith) (omega arith)

pub returns : goal.returns
returns c = clipped _ _ _ _ _ (search rules) (omega arith) (omega arith)

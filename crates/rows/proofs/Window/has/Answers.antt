-- `Window::has` says whether a row is the window's.
use borrow.Author.Rules.{rules}
use borrow.Author.Tests.{lt-leb}
use Rattle.rows.specs.Window.{in_window}
use Rattle.rows.proofs.Windows.{in_window_lem}
use Rattle.rows.proofs.Window.has.Goals as goal

pub returns-then-self-y : goal.returns-then-self-y
returns-then-self-y c = in_window_lem _ _ (search rules)

pub returns-else-self-y : goal.returns-else-self-y
unfolding in_window
returns-else-self-y c = rw (lt-leb _ _ c.if-self-y.false)

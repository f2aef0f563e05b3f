-- `mark_element` marks the thing of an element that reaches the window's top.
use borrow.Author.Rules.{rules}
use Rattle.selection.proofs.Laws.{element_marked, element_past}
use Rattle.selection.proofs.mark_element.Goals as goal

pub returns-then-top-number : goal.returns-then-top-number
returns-then-top-number c = search (element_marked, rules)

pub returns-else-top-number : goal.returns-else-top-number
returns-else-top-number c = search (element_past, rules)

-- `accept` gives the run count of every slice of words that breaks no rule, or the first rule that it breaks.
use borrow.Author.Rules.{rules}
use Rattle.refusals.proofs.Laws.{has_passed, form_refused, form_listed}
use Rattle.refusals.proofs.accept.Goals as goal

pub returns-in_err-check_form : goal.returns-in_err-check_form
returns-in_err-check_form c = search (form_refused, rules)

pub check_listing-requires : goal.check_listing-requires
check_listing-requires c = search (has_passed, rules)

pub returns : goal.returns
returns c = search (form_listed, rules)

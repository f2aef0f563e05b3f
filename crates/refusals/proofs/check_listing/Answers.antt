-- `check_listing` refuses with code 7, then 8, then goes on with the listings in their slots.
use borrow.Author.Rules.{rules}
use Rattle.refusals.proofs.FirstBroken.{nothing_found}
use Rattle.refusals.proofs.Kept.{few_elements, good_elements, elements_inside, ready}
use Rattle.refusals.proofs.Laws.{listing_twice, listing_order, listing_touched}
use Rattle.refusals.proofs.check_listing.Goals as goal

pub returns-in_err-unless : goal.returns-in_err-unless
returns-in_err-unless c = search (listing_twice, rules)

pub returns-in_err-unless-2 : goal.returns-in_err-unless-2
returns-in_err-unless-2 c = search (listing_order, rules)

pub check_touched-requires : goal.check_touched-requires
check_touched-requires c =
    let none = nothing_found _ _ _ _ c.unless.ensures c.in_ok-unless.was in
    search (ready, none, rules)

pub returns : goal.returns
returns c = search (listing_touched, rules)

pub bad_order-requires : goal.bad_order-requires
bad_order-requires c = search (elements_inside, rules)

pub list_elements-requires-clause-inside : goal.list_elements-requires-clause-inside
list_elements-requires-clause-inside c = search (few_elements, good_elements, elements_inside, rules)

-- `check_form` refuses with code 1, then 2, then 3, then goes on.
use borrow.Author.Rules.{rules}
use Rattle.layout.proofs.Inside.{all_inside}
use Rattle.refusals.proofs.Laws.{form_short, form_header, form_length, form_content}
use Rattle.refusals.proofs.check_form.Goals as goal

pub returns-then-image-lt-HEADER_SIZE : goal.returns-then-image-lt-HEADER_SIZE
returns-then-image-lt-HEADER_SIZE c = search (form_short, rules)

pub returns-in_err-unless : goal.returns-in_err-unless
returns-in_err-unless c = search (form_header, rules)

pub returns-then-image-wanted : goal.returns-then-image-wanted
returns-then-image-wanted c =
    form_length _ (search rules) _ c.bad_header.ensures _ c.unless-2.ensures _ c.in_ok-unless.was _ _ c.tables_of-ts.ensures.value c.table_end-wanted.ensures.0 _
    (search rules) (search rules)

pub returns : goal.returns
returns c =
    form_content _ (search rules) _ c.bad_header.ensures _ c.unless-2.ensures _ c.in_ok-unless.was _ _ c.tables_of-ts.ensures.value c.table_end-wanted.ensures.0 _
    (search rules) c.check_content.ensures

pub check_content-requires : goal.check_content-requires
check_content-requires c = search (all_inside, rules)

-- `bad_record_field` finds the first word of a record that breaks its rule, over the tables in their order.
use Rattle.fields.specs.Tables.{records_judged}
use Rattle.fields.proofs.Laws.{in_two}
use Rattle.fields.proofs.bad_record_field.Goals as goal

pub returns : goal.returns
unfolding records_judged
returns c = search in_two

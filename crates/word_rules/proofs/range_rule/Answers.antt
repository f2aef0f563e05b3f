-- `range_rule` is the rule of a width range's field.
use borrow.Author.Tests.{ne_eqb}
use Rattle.word_rules.specs.Rules.{range_rule}
use Rattle.word_rules.proofs.range_rule.Goals as goal

pub returns-then-field-eq-RANGE_WIDTH : goal.returns-then-field-eq-RANGE_WIDTH
unfolding range_rule
returns-then-field-eq-RANGE_WIDTH c = rw c.if-field-eq-RANGE_WIDTH.true

pub returns-else-field-eq-RANGE_WIDTH : goal.returns-else-field-eq-RANGE_WIDTH
unfolding range_rule
returns-else-field-eq-RANGE_WIDTH c = simp (ne_eqb _ _ c.if-field-eq-RANGE_WIDTH.false)

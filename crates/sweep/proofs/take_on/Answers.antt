-- `take_on` takes on the elements that begin above the end. The invariant: those passed.
use native.Mathlib.Omega.{arith}
use borrow.Author.Rules.{rules}
use Prim.Native.Nat.{◌-◌}
use mathlib.Core.Path.{◌≡◌, sym, ◌∙◌}
use Rattle.sweep.proofs.Laws.{taking_start, taking_again, taking_stop, taking_done, put_behind}
use Rattle.sweep.proofs.take_on.Goals as goal

pub loop-k-init : goal.loop-k-init
loop-k-init c = (search rules, search (taking_start, rules))

pub returns-then-begins_below-clause-taken_on : goal.returns-then-begins_below-clause-taken_on
returns-then-begins_below-clause-taken_on c = taking_stop _ _ _ _ _ _ _ c.requires.1 c.requires.2 c.requires.3 _ _ _ c.loop-k.invariant.1 (sym c.begins_below.ensures ∙ c.if-begins_below.true)

pub returns-then-begins_below-clause-active_value : goal.returns-then-begins_below-clause-active_value
returns-then-begins_below-clause-active_value c = c.loop-k.invariant.1.many

pub returns-then-begins_below-clause-list_after : goal.returns-then-begins_below-clause-list_after
returns-then-begins_below-clause-list_after c = c.loop-k.invariant.1.list

pub loop-k-preserved : goal.loop-k-preserved
loop-k-preserved c = (
  put_behind _ _ _ c.reaches-wanted.result c.put_if-many.ensures.value c.loop-k.invariant.0,
  taking_again _ _ _ _ _ _ _ c.requires.1 c.requires.2 c.requires.3 _ _ _ c.loop-k.invariant.1 (search rules) _ _ c.reaches-wanted.result (sym c.begins_below.ensures ∙ c.if-begins_below.false) c.reaches-wanted.ensures c.put_if-many.ensures.value c.put_if-many.ensures.list_after,
)

pub returns-clause-taken_on : goal.returns-clause-taken_on
returns-clause-taken_on c =
    let all : c.loop-k.k ≡ c.args.ts.elements.count = omega arith in
    rw all at (taking_done _ _ _ _ _ _ _ c.requires.1 c.requires.2 c.requires.3 _ _ _ c.loop-k.invariant.1 (search rules))

pub returns-clause-active_value : goal.returns-clause-active_value
returns-clause-active_value c =
    let all : c.loop-k.k ≡ c.args.ts.elements.count = omega arith in
    rw all at c.loop-k.invariant.1.many

pub returns-clause-list_after : goal.returns-clause-list_after
returns-clause-list_after c =
    let all : c.loop-k.k ≡ c.args.ts.elements.count = omega arith in
    rw all at c.loop-k.invariant.1.list

-- `count_above` halves the elements. The invariant: those before `low` begin above the end, those from `high` on begin below it.
use native.Mathlib.Omega.{arith}
use borrow.Author.Rules.{rules}
use Prim.Native.Nat.{◌-◌}
use Rattle.selection.proofs.Laws.{below_none, below_here, above_here, begun_met}
use Rattle.selection.proofs.count_above.Goals as goal

pub loop-low-init : goal.loop-low-init
loop-low-init c = (search rules, search rules, search (below_none, rules), λ k h. absurd (omega arith))

pub loop-low-preserved-then-end-number : goal.loop-low-preserved-then-end-number
loop-low-preserved-then-end-number c = (search rules, search rules, search (below_here, rules), search rules)

pub loop-low-preserved : goal.loop-low-preserved
loop-low-preserved c = (search rules, search rules, search rules, above_here _ _ _ _ _ _ c.requires c.field_inside.ensures c.number.ensures.0 (search rules) (search rules))

pub returns : goal.returns
returns c = search (begun_met, rules)

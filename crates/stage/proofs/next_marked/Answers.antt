-- `next_marked` passes over things that are not marked. The invariant: so are those passed.
use borrow.Author.Rules.{rules}
use Prim.Native.Nat.{◌-◌}
use Rattle.stage.proofs.Laws.{mark_none, unmarked_none, unmarked_then, unmarked_to}
use Rattle.stage.proofs.next_marked.Goals as goal

pub loop-k-init : goal.loop-k-init
loop-k-init c = (search rules, search rules, search (unmarked_none, rules))

pub passed_at-k-requires : goal.passed_at-k-requires
passed_at-k-requires c = (search rules, search (mark_none, rules))

pub loop-k-preserved : goal.loop-k-preserved
loop-k-preserved c = (search rules, search rules, search (unmarked_then, rules))

pub returns : goal.returns
returns c = (search rules, search rules, search (unmarked_to, rules))

-- `list_all` ends. The measure: the things that are left.
use Rattle.std.proofs.Common.{◌≡◌, ◌-◌, ◌≤◌, length}
use Rattle.sheetdraft.proofs.fill.list_all.Given as goal

abbrev pub invariant-loop-k : goal.invariant-loop-k
invariant-loop-k l = (l.k ≤ l.things) × (length l.draft ≡ length l.initial.draft)

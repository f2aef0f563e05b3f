-- `is_outside` tells whether a band leaves the sheet.
use borrow.Author.Rules.{rules}
use native.Mathlib.Omega.{arith}
use Prim.Native.Nat.{ℕ}
use mathlib.Core.Path.{◌≡◌}
use Rattle.lending.proofs.Laws.{outside_few, outside_many}
use Rattle.lending.proofs.is_outside.Goals as goal

pub returns-then-rows-height : goal.returns-then-rows-height
returns-then-rows-height c = (search (outside_few, rules), λ f. search rules)

pub returns-else-rows-height : goal.returns-else-rows-height
returns-else-rows-height c = (search (outside_many, rules), λ f. let z : ◌≡◌ {A = ℕ} 0 1 = cc in absurd (omega arith))

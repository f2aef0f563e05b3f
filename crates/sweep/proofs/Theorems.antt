-- Between two bands the record is determined by the next row alone: whatever bands came before, it is the same.
use native.Mathlib.Omega.{arith}
use Prim.Native.Nat.{ℕ, ◌+◌}
use mathlib.Core.List.{List}
use mathlib.Core.Path.{◌≡◌, sym, ◌∙◌}
use lib.ListN.{take}
use Rattle.ground.proofs.Order.{by_three}
use Rattle.layout.specs.declared.Tables.{Tables}
use Rattle.selection.specs.Selection.{Begun}
use Rattle.sweep.specs.declared.Sweep.{Sweep}
use Rattle.sweep.specs.Swept.{Swept}

-- so many elements begin above a row, and no other number of them
begun_once : (image : List ℕ) (ts : Tables) (end n m : ℕ) → Begun image ts end n → Begun image ts end m → n ≡ m
begun_once image ts end n m a b =
    by_three n m
    (λ less. absurd (omega (arith, b.above n less, a.below n (omega arith) (omega (arith, b.there)))))
    (λ more. absurd (omega (arith, a.above m more, b.below m (omega arith) (omega (arith, a.there)))))
    (λ same. same)

-- The cursor, how many elements are active, and which.
pub swept_once :
    (image : List ℕ) (ts : Tables) (a b : Sweep) (list other : List ℕ) → Swept image ts 0 a list → Swept image ts 0 b other → a.next ≡ b.next →
    (a.cursor ≡ b.cursor) × (a.active ≡ b.active) × (take a.active list ≡ take b.active other)
swept_once image ts a b list other p q e =
    let c : a.cursor ≡ b.cursor = begun_once image ts (b.next + 0) a.cursor b.cursor (rw e at p.begun) q.begun in (
      c,
      p.many ∙ rw (e, c) (sym q.many),
      p.active ∙ rw (e, c) (sym q.active),
    )

-- Rows one after the other, as the code goes down a column: a turn of its loop, and rows above and below the window left out.
use native.Mathlib.Omega.{arith}
use Prim.Native.Nat.{ℕ, ◌+◌, ◌-◌, ◌*◌, ◌≤◌, ◌<◌, min, max}
use mathlib.Core.List.{List, []}
use mathlib.Core.Path.{◌≡◌, refl, sym, ◌∙◌}
use Rattle.std.specs.Prelude.{Option, Some}
use Rattle.ground.proofs.Turns.{turns_again, turns_rest, turns_start}
use Rattle.rows.specs.declared.Window.{Window}
use Rattle.window.specs.declared.Lent.{Lent}
use Rattle.window.specs.declared.Lent.TheVariants.{Cells, All}
use Rattle.window.specs.Writes.{fill, paint_on}
use Rattle.window.specs.Window.{on_part, on_row, plane_of}
use Rattle.window.specs.Computed.{on_rows}
use Rattle.window.proofs.Parts.{none}
use Rattle.window.proofs.Rows.{within, above, below, on_row_out, on_row_length, on_row_same, paint_keeps}
use Rattle.window.proofs.Fills.{nothing}
use Rattle.window.proofs.Laws.{row_done}

-- a window of three numbers: what a loop's invariant can name
abbrev pub window : ℕ → ℕ → ℕ → Window
window width first rows = record { width = width; first = first; rows = rows }

module _ (v : Window) (change : ℕ → List ℕ → List ℕ) where
  step : ℕ → List ℕ → List ℕ
  step y plane = on_row v y (change y) plane

  -- a turn of the loop, over a row of the window
  pub rows_again :
      (y high end start : ℕ) (plane next whole : List ℕ) →
      v.first ≤ y →
      y < end →
      end ≡ min high (v.first + v.rows) →
      start ≡ (y - v.first) * v.width →
      on_rows v y high change plane ≡ whole →
      next ≡ on_part start v.width (change y) plane →
      on_rows v (y + 1) high change next ≡ whole
  unfolding on_rows step
  rows_again y high end start plane next whole p q e s i n =
      turns_again step y high plane next whole (omega arith) i
      (row_done v y (change y) start plane next (within v y p (omega arith)) s n)

  -- its start: rows above the window change nothing
  rows_start :
      (low high from : ℕ) (plane : List ℕ) →
      from ≡ max low v.first →
      on_rows v from high change plane ≡ on_rows v low high change plane
  unfolding on_rows step
  rows_start low high from plane e =
      let d : low + (from - low) ≡ from = omega arith in
      sym (turns_start step (from - low) low high plane (λ i p q. on_row_out v i (change i) plane (above v i (omega arith))) ∙ rw d)

  -- its end: nor do rows below it
  pub rows_done :
      (low high from end y : ℕ) (plane before : List ℕ) →
      end ≤ y →
      end ≡ min high (v.first + v.rows) →
      from ≡ max low v.first →
      on_rows v y high change plane ≡ on_rows v from high change before →
      plane ≡ on_rows v low high change before
  unfolding on_rows step
  rows_done low high from end y plane before h e s i =
      turns_rest step y high plane _ i (λ j p q. on_row_out v j (change j) plane (below v j (omega arith)))
      ∙ rows_start low high from before s

  -- rows that stay as they are
  rows_idle : (low high : ℕ) (plane : List ℕ) → ((y : ℕ) → plane ≡ on_row v y (change y) plane) → plane ≡ on_rows v low high change plane
  unfolding on_rows step
  rows_idle low high plane same = turns_rest step low high plane _ refl (λ y p q. sym (same y))

-- What is painted: nothing, or a value.

module _ (v : Window) (x low high : ℕ) (paint : Option ℕ) (plane : List ℕ) where
  pub down_keep : ((value : ℕ) → paint ≡ Some value → ⊥) → plane ≡ on_rows v low high (λ y. paint_on paint x 1) plane
  unfolding paint_on
  down_keep not_some = rw (nothing paint not_some) (rows_idle v (λ y row. row) low high plane (λ y. on_row_same v y (λ row. row) plane (λ row. refl)))

  pub down_set :
      (value : ℕ) (after : List ℕ) →
      paint ≡ Some value →
      after ≡ on_rows v low high (λ y. fill value x 1) plane →
      after ≡ on_rows v low high (λ y. paint_on paint x 1) plane
  unfolding paint_on
  down_set value after e d = rw e d

-- a plane that is not lent stays away
pub down_absent :
    (lent : Lent) (v : Window) (x low high : ℕ) (paint : Option ℕ) (before after : List ℕ) →
    lent ≡ Cells →
    plane_of lent after ≡ on_rows v low high (λ y. paint_on paint x 1) (plane_of lent before)
unfolding plane_of
down_absent lent v x low high paint before after e =
    rw e
    (rows_idle v (λ y. paint_on paint x 1) low high []
    (λ y. sym (none _ (on_row_length v y (paint_on paint x 1) (paint_keeps paint x 1) []))))

-- one that is lent is its buffer
pub down_present :
    (lent : Lent) (v : Window) (x low high : ℕ) (paint : Option ℕ) (before after : List ℕ) →
    lent ≡ All →
    after ≡ on_rows v low high (λ y. paint_on paint x 1) before →
    plane_of lent after ≡ on_rows v low high (λ y. paint_on paint x 1) (plane_of lent before)
unfolding plane_of
down_present lent v x low high paint before after e d = rw e d

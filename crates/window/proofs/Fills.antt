-- A value in columns of a row, what is painted on a part of a plane, and the planes that are lent.
use native.Mathlib.Omega.{arith}
use Prim.Native.Nat.{ℕ, zero, suc, ◌+◌, ◌-◌, ◌*◌, ◌≤◌, ◌<◌, min}
use mathlib.Core.Bool.{Bool, true, false}
use mathlib.Core.List.{List}
use mathlib.Core.Path.{◌≡◌, refl, sym, ◌∙◌}
use lib.ListN.{length, set, length-set}
use lib.Seq.{set_out}
use Rattle.std.specs.Prelude.{Option, Some, None}
use Rattle.ground.proofs.Order.{by_order}
use Rattle.rows.specs.declared.Window.{Window}
use Rattle.rows.specs.Window.{in_window}
use Rattle.window.specs.declared.Lent.{Lent}
use Rattle.window.specs.declared.Lent.TheVariants.{Cells, All}
use Rattle.window.specs.Writes.{fill, paint_on}
use Rattle.window.specs.Window.{row_start, on_part, on_row, plane_of, Room, LentRoom}
use Rattle.window.proofs.Parts.{on_same, on_nil}
use Rattle.window.proofs.Rows.{on_row_out, paint_keeps}
use Rattle.window.proofs.Laws.{row_done}

-- a fill past the row's end vanishes
fill_off : (value x columns : ℕ) (row : List ℕ) → length row ≤ x → fill value x columns row ≡ row
unfolding fill
fill_off value x zero row h = refl
fill_off value x (suc more) row h = rw (set_out row x value h) (fill_off value (suc x) more row (omega arith))

-- so only the columns that the row has count
fill_clip : (value x columns : ℕ) (row : List ℕ) → fill value x (min columns (length row - x)) row ≡ fill value x columns row
unfolding fill
fill_clip value x zero row = let e : min 0 (length row - x) ≡ 0 = omega arith in rw e
fill_clip value x (suc more) row =
    by_order x (length row)
    (λ p. let e : min (suc more) (length row - x) ≡ suc (min more (length row - suc x)) = omega arith in
    rw (e, ← length-set row x value) (fill_clip value (suc x) more (set row x value)))
    (λ p. let e : min (suc more) (length row - x) ≡ 0 = omega arith in
    rw e (sym (fill_off value x (suc more) row p)))

-- a turn of the loop
pub fill_again :
    (value x k count : ℕ) (row whole : List ℕ) →
    k < count →
    fill value (x + k) (count - k) row ≡ whole →
    fill value (x + (k + 1)) (count - (k + 1)) (set row (x + k) value) ≡ whole
unfolding fill
fill_again value x k count row whole h e =
    let d : count - k ≡ suc (count - (k + 1)) = omega arith in
    let n : x + (k + 1) ≡ suc (x + k) = omega arith in
    let first : fill value (x + k) (count - k) row ≡ fill value (x + (k + 1)) (count - (k + 1)) (set row (x + k) value) = rw (d, n) in
    sym first ∙ e

-- its end
pub fill_done :
    (value x k count room columns : ℕ) (row before : List ℕ) →
    count ≤ k →
    room ≡ length before - x →
    count ≡ min columns room →
    fill value (x + k) (count - k) row ≡ fill value x count before →
    row ≡ fill value x columns before
unfolding fill
fill_done value x k count room columns row before h r m e =
    let none : count - k ≡ 0 = omega arith in
    let some : count ≡ min columns (length before - x) = omega arith in
    (rw (none, some) at e) ∙ fill_clip value x columns before

-- What is painted: nothing, or a value.

pub nothing : (paint : Option ℕ) → ((value : ℕ) → paint ≡ Some value → ⊥) → paint ≡ None
nothing None not_some = refl
nothing (Some value) not_some = absurd (not_some value refl)

module _ (start width x columns : ℕ) (paint : Option ℕ) (plane : List ℕ) where
  pub paint_keep : ((value : ℕ) → paint ≡ Some value → ⊥) → plane ≡ on_part start width (paint_on paint x columns) plane
  unfolding paint_on
  paint_keep not_some = rw (nothing paint not_some) (on_same start width _ plane (λ row. refl))

  pub paint_set :
      (value : ℕ) (after : List ℕ) →
      paint ≡ Some value →
      after ≡ on_part start width (fill value x columns) plane →
      after ≡ on_part start width (paint_on paint x columns) plane
  unfolding paint_on
  paint_set value after e d = rw e d

-- The planes that are lent besides the cells.

module _ (lent : Lent) (start width x columns : ℕ) (paint : Option ℕ) (before after : List ℕ) where
  -- a plane that is not lent stays away
  pub paint_absent : lent ≡ Cells → plane_of lent after ≡ on_part start width (paint_on paint x columns) (plane_of lent before)
  unfolding plane_of
  paint_absent e = rw e (sym (on_nil width (paint_on paint x columns) (paint_keeps paint x columns) start))

  -- one that is lent is its buffer
  pub paint_present :
      lent ≡ All →
      after ≡ on_part start width (paint_on paint x columns) before →
      plane_of lent after ≡ on_part start width (paint_on paint x columns) (plane_of lent before)
  unfolding plane_of
  paint_present e d = rw e d

-- it has room
module _ (lent : Lent) (v : Window) (colours stamps : List ℕ) (all : lent ≡ All) (room : LentRoom lent v colours stamps) where
  pub colours_room : Room v colours
  unfolding LentRoom
  colours_room = (rw all at room).0

  pub stamps_room : Room v stamps
  unfolding LentRoom
  stamps_room = (rw all at room).1

  -- so a row of the window is a part of it
  module _ (start : ℕ) (inside : start + v.width ≤ v.rows * v.width) where
    pub colours_part : start + v.width ≤ length colours
    colours_part = omega (arith, colours_room)

    pub stamps_part : start + v.width ≤ length stamps
    stamps_part = omega (arith, stamps_room)

-- A row of the sheet, by the window that has it or not.

pub row_inside :
    (v : Window) (y : ℕ) (f : List ℕ → List ℕ) (has : Bool) (start : ℕ) (plane after : List ℕ) →
    has ≡ in_window v y →
    has ≡ true →
    start ≡ row_start v y →
    after ≡ on_part start v.width f plane →
    after ≡ on_row v y f plane
row_inside v y f has start plane after e i = row_done v y f start plane after (sym e ∙ i)

pub row_outside : (v : Window) (y : ℕ) (f : List ℕ → List ℕ) (has : Bool) (plane : List ℕ) → has ≡ in_window v y → has ≡ false → plane ≡ on_row v y f plane
row_outside v y f has plane e o = sym (on_row_out v y f plane (sym e ∙ o))

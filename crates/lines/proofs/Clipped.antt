-- A line is clipped to the rows of the window, or to the columns of a row, and where no arrow lies there it is strokes alone: what is left is the whole line.
use Rattle.std.specs.Prelude.{Option}
use native.Mathlib.Omega.{arith}
use Prim.Native.Nat.{ℕ, ◌+◌, ◌-◌, ◌*◌, ◌≤◌, ◌<◌, min, max}
use mathlib.Core.Bool.{Bool, true}
use mathlib.Core.List.{List}
use mathlib.Core.Path.{◌≡◌, refl, sym, ap, ◌∙◌}
use lib.ListN.{length}
use Rattle.ground.specs.Turns.{turns}
use Rattle.ground.proofs.Order.{by_order}
use Rattle.ground.proofs.Turns.{turns_rest, turns_done, turns_keep, turns_split, turns_same}
use Rattle.cell.specs.declared.Arms.{Arms}
use Rattle.cell.specs.OneCell.{read_arms}
use Rattle.rows.specs.declared.Window.{Window}
use Rattle.rows.specs.Spots.{Ink, stroke}
use Rattle.flow.specs.declared.Head.{Head}
use Rattle.window.specs.Writes.{ink_on}
use Rattle.window.specs.Window.{on_part, on_row}
use Rattle.window.specs.Computed.{on_rows}
use Rattle.window.proofs.Rows.{ink_keeps}
use Rattle.window.proofs.Down.{rows_again, rows_done}
use Rattle.lines.specs.Computed.{free_of, ink_at, ink_along}
use Rattle.lines.proofs.Laws.{ink_off, free_ink}

-- Steps from low to below end, and from there to below high.
turns_on : {A : Type 0} (f : ℕ → A → A) (low end high : ℕ) (s : A) → low ≤ end → end ≤ high → turns f end (high - end) (turns f low (end - low) s) ≡ turns f low (high - low) s
turns_on f low end high s p q =
    let n : high - low ≡ (end - low) + (high - end) = omega arith in
    let k : low + (end - low) ≡ end = omega arith in
    rw n (sym (rw k at (turns_split f low (end - low) (high - end) s)))

-- Down a column.

-- a turn of a loop over rows of the window, and its end
module _ (v : Window) (change : ℕ → List ℕ → List ℕ) (y end : ℕ) (plane whole : List ℕ) (left : on_rows v y end change plane ≡ whole) where
  pub down_again :
      (start : ℕ) (next : List ℕ) →
      start ≡ (y - v.first) * v.width →
      next ≡ on_part start v.width (change y) plane →
      v.first ≤ y →
      y < end →
      end ≤ v.first + v.rows →
      on_rows v (y + 1) end change next ≡ whole
  down_again start next s n p q r = rows_again v change y end end start plane next whole p q (omega arith) s left n

  pub down_done : end ≤ y → plane ≡ whole
  unfolding on_rows
  down_done h = turns_done (λ k p. on_row v k (change k) p) y end plane whole h left

module _ (v : Window) (low high : ℕ) where
  -- where no row of the window is passed, nothing changes
  pub rows_missed :
      (change : ℕ → List ℕ → List ℕ) (plane : List ℕ) →
      min high (v.first + v.rows) ≤ max low v.first →
      plane ≡ on_rows v low high change plane
  rows_missed change plane h = rows_done v change low high _ _ _ plane plane h refl refl refl

  module _ (from end : ℕ) (bottom : from ≡ max low v.first) (top : end ≡ min high (v.first + v.rows)) (before after : List ℕ) where
    -- the rows of the window are all that change
    rows_clipped : (change : ℕ → List ℕ → List ℕ) → after ≡ on_rows v from end change before → after ≡ on_rows v low high change before
    unfolding on_rows turns
    rows_clipped change done =
        by_order from end
        (λ p. rows_done v change low high from end end after before (omega arith) top bottom
        (rw done (turns_on (λ y plane. on_row v y (change y) plane) from end high before (omega arith) (omega arith))))
        (λ p. let none : end - from ≡ 0 = omega arith in
        let same : after ≡ before = done ∙ rw none in
        same ∙ rows_missed change before (omega arith))

    module _ (ranges : List ℕ) (x word : ℕ) (arms : Arms) (dashed : Bool) (winner other : Option Head) (made : read_arms word ≡ arms) where
      -- with its arrows
      pub down_arrows :
          after ≡ on_rows v from end (λ y. ink_on ranges x (ink_at (read_arms word) dashed winner other y)) before →
          after ≡ on_rows v low high (λ y. ink_on ranges x (ink_at arms dashed winner other y)) before
      down_arrows done = rows_clipped (λ y. ink_on ranges x (ink_at arms dashed winner other y)) (simp made at done)

      -- without arrows
      pub down_strokes :
          free_of winner from end ≡ true →
          free_of other from end ≡ true →
          after ≡ on_rows v from end (λ y. ink_on ranges x (stroke (read_arms word))) before →
          after ≡ on_rows v low high (λ y. ink_on ranges x (ink_at arms dashed winner other y)) before
      unfolding on_rows
      down_strokes one two done =
          rows_clipped (λ y. ink_on ranges x (ink_at arms dashed winner other y))
          (simp made at done
          ∙ turns_same _ (λ y plane. on_row v y (ink_on ranges x (ink_at arms dashed winner other y)) plane) from (end - from) before
          (λ y plane p q. ap (λ (ink : Ink). on_row v y (ink_on ranges x ink) plane)
          (free_ink arms dashed winner other from end one two y p (omega arith))))

-- Along a row.

module _ (ranges : List ℕ) (low high end word : ℕ) (arms : Arms) (dashed : Bool) (winner other : Option Head) (row after : List ℕ) (clip : end ≡ min high (length row)) (made : read_arms word ≡ arms) where
  step : ℕ → List ℕ → List ℕ
  step k r = ink_on ranges k (ink_at arms dashed winner other k) r

  -- the columns of the row are all that change
  columns_clipped : after ≡ turns step low (end - low) row → after ≡ turns step low (high - low) row
  unfolding step turns
  columns_clipped done =
      let long : length after ≡ length row =
      rw done
      (turns_keep step (λ (r : List ℕ). length r ≡ length row)
      (λ k r h. ink_keeps ranges k (ink_at arms dashed winner other k) r ∙ h) low (end - low) row refl) in
      by_order low end
      (λ p. turns_rest step end high after _
      (rw done (turns_on step low end high row (omega arith) (omega arith)))
      (λ k q r. ink_off ranges k (ink_at arms dashed winner other k) after (omega arith)))
      (λ p. let none : end - low ≡ 0 = omega arith in
      let same : after ≡ row = done ∙ rw none in
      same ∙ turns_rest step low high row _ refl (λ k q r. ink_off ranges k (ink_at arms dashed winner other k) row (omega arith)))

  -- with its arrows
  pub along_arrows :
      after ≡ ink_along ranges (read_arms word) dashed winner other low end row →
      after ≡ ink_along ranges arms dashed winner other low high row
  unfolding ink_along step
  along_arrows done = columns_clipped (simp made at done)

  -- without arrows
  pub along_strokes :
      free_of winner low end ≡ true →
      free_of other low end ≡ true →
      after ≡ turns (λ x. ink_on ranges x (stroke (read_arms word))) low (end - low) row →
      after ≡ ink_along ranges arms dashed winner other low high row
  unfolding ink_along step
  along_strokes one two done =
      columns_clipped
      (simp made at done
      ∙ turns_same _ step low (end - low) row
      (λ x r p q. ap (λ (ink : Ink). ink_on ranges x ink r) (free_ink arms dashed winner other low end one two x p (omega arith))))

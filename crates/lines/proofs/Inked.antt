-- A line as writes: row after row of a window, or all in one row, plane by plane.
use Rattle.std.specs.Prelude.{Option, None, Some}
use native.Mathlib.Omega.{arith}
use Prim.Native.Nat.{ℕ, zero, suc, ◌+◌, ◌-◌, ◌≤◌, min, max}
use mathlib.Core.Bool.{Bool, false}
use mathlib.Core.List.{List, map}
use mathlib.Core.Path.{◌≡◌, refl, sym, ap, ◌∙◌}
use lib.ListN.{set}
use Rattle.std.specs.Prelude.{Option, Some, None}
use Rattle.ground.specs.Each.{numbers}
use Rattle.ground.specs.Turns.{turns}
use Rattle.ground.proofs.Each.{cond_holds, numbers_done}
use Rattle.cell.specs.declared.Arms.{Arms}
use Rattle.rows.specs.declared.Window.{Window}
use Rattle.rows.specs.Window.{in_window}
use Rattle.rows.specs.Spots.{Ink, stroke, Spot, at}
use Rattle.flow.specs.declared.Head.{Head}
use Rattle.flow.specs.declared.Line.{Line}
use Rattle.flow.specs.Pieces.{arrow_or, line_ink}
use Rattle.window.specs.declared.Lent.{Lent}
use Rattle.window.specs.declared.Tint.{Tint}
use Rattle.window.specs.Writes.{Write, write, tinted, ink_on, columns_of, fill, paint_on, ink_cells, ink_colours, ink_stamps}
use Rattle.window.specs.Window.{on_row, window_after, ink_window, plane_of, canvas_of}
use Rattle.window.specs.Computed.{on_rows}
use Rattle.window.proofs.Rows.{on_row_out, cells_keep, colours_keep, stamps_keep}
use Rattle.window.proofs.Theorems.{ink_none}
use Rattle.window.proofs.Parts.{Keeps}
use Rattle.window.proofs.OneRow.{on_row_cong, in_order, AllOn, one_row}
use Rattle.lines.specs.Lines.{down_spots, across_spots}
use Rattle.lines.specs.Computed.{head_here, head_dir, ink_at, ink_along}
use Rattle.lines.proofs.Clipped.{rows_missed}

-- A write at each of some numbers, in one plane.

module _ (change : Write → List ℕ → List ℕ) (tint : Tint) (spot : ℕ → Spot) (step : ℕ → List ℕ → List ℕ) (agree : (k : ℕ) (row : List ℕ) → change (write tint (spot k)) row ≡ step k row) (v : Window) where
  abbrev writes : ℕ → ℕ → List Write
  writes low n = tinted tint (map spot (numbers low n))

  -- row after row
  plane_down : ((k : ℕ) → (spot k).y ≡ k) → (low n : ℕ) (plane : List ℕ) → window_after change v (writes low n) plane ≡ turns (λ k p. on_row v k (step k) p) low n plane
  unfolding window_after numbers turns
  plane_down on low zero plane = refl
  plane_down on low (suc n) plane =
      ap (λ (y : ℕ). window_after change v (writes (suc low) n) (on_row v y (change (write tint (spot low))) plane)) (on low)
      ∙ ap (window_after change v (writes (suc low) n)) (on_row_cong v low (change (write tint (spot low))) (step low) plane (agree low))
      ∙ plane_down on (suc low) n (on_row v low (step low) plane)

  -- all in one row

  all_on : (y : ℕ) → ((k : ℕ) → (spot k).y ≡ y) → (low n : ℕ) → AllOn y (writes low n)
  unfolding AllOn numbers
  all_on y on low zero = tt
  all_on y on low (suc n) = (on low, all_on y on (suc low) n)

  in_order_lem : (low n : ℕ) (row : List ℕ) → in_order change (writes low n) row ≡ turns step low n row
  unfolding in_order numbers turns
  in_order_lem low zero row = refl
  in_order_lem low (suc n) row =
      ap (in_order change (writes (suc low) n)) (agree low row) ∙ in_order_lem (suc low) n (step low row)

  plane_along :
      (y : ℕ) → ((w : Write) → Keeps (change w)) → ((k : ℕ) → (spot k).y ≡ y) → (low n : ℕ) (plane : List ℕ) →
      window_after change v (writes low n) plane ≡ on_row v y (turns step low n) plane
  plane_along y keeps on low n plane =
      one_row v y change keeps (writes low n) plane (all_on y on low n)
      ∙ on_row_cong v y (in_order change (writes low n)) (turns step low n) plane (in_order_lem low n)

-- a colour or a stamp in each of some columns
paint_along : (paint : Option ℕ) (low n : ℕ) (row : List ℕ) → turns (λ k r. paint_on paint k 1 r) low n row ≡ paint_on paint low n row
unfolding turns paint_on fill
paint_along None low zero row = refl
paint_along None low (suc n) row = paint_along None (suc low) n row
paint_along (Some value) low zero row = refl
paint_along (Some value) low (suc n) row = paint_along (Some value) (suc low) n (set row low value)

module _ (ranges : List ℕ) (tint : Tint) (arms : Arms) (dashed : Bool) (l : Line) where
  -- what stands at a place, as the code finds it
  abbrev here : ℕ → Ink
  here k = ink_at arms dashed l.winner l.other k

  -- it is what the document says
  ink_at_lem : (k : ℕ) → here k ≡ line_ink dashed l arms k
  unfolding ink_at head_here head_dir
  ink_at_lem k = by_heads l.winner l.other
    where
      by_heads : (one two : Option Head) → ink_at arms dashed one two k ≡ arrow_or dashed one k (arrow_or dashed two k (stroke arms))
      by_heads None None = refl
      by_heads None (Some h) = refl
      by_heads (Some h) None = refl
      by_heads (Some h) (Some o) = refl

  -- and takes one column
  line_columns_lem : (k : ℕ) → columns_of ranges (line_ink dashed l arms k) ≡ 1
  unfolding columns_of ink_at
  line_columns_lem k =
      ap (columns_of ranges) (sym (ink_at_lem k))
      ∙ cond_holds (λ (ink : Ink). columns_of ranges ink ≡ 1) (head_here l.winner k) refl
      (cond_holds (λ (ink : Ink). columns_of ranges ink ≡ 1) (head_here l.other k) refl refl)

  -- what a write of the line changes in each plane
  module _ (x y k : ℕ) (row : List ℕ) where
    abbrev w : Write
    w = write tint (at x y (line_ink dashed l arms k))

    in_cells : ink_cells ranges w row ≡ ink_on ranges x (here k) row
    unfolding ink_cells
    in_cells = ap (λ (ink : Ink). ink_on ranges x ink row) (sym (ink_at_lem k))

    in_colours_lem : ink_colours ranges w row ≡ paint_on tint.colour x 1 row
    unfolding ink_colours
    in_colours_lem = ap (λ (n : ℕ). paint_on tint.colour x n row) (line_columns_lem k)

    in_stamps_lem : ink_stamps ranges w row ≡ paint_on tint.stamp x 1 row
    unfolding ink_stamps
    in_stamps_lem = ap (λ (n : ℕ). paint_on tint.stamp x n row) (line_columns_lem k)

  module _ (v : Window) (lent : Lent) (before high : ℕ) (bottom : before ≡ min l.from l.to) (top : high ≡ max l.from l.to) (cells colours stamps : List ℕ) where
    -- what is to be shown
    abbrev Inked : List Spot → List ℕ → List ℕ → List ℕ → Type 0
    Inked spots cells' colours' stamps' =
        canvas_of lent cells' colours' stamps' ≡ ink_window v ranges (tinted tint spots) (canvas_of lent cells colours stamps)

    -- ends next to each other have nothing between
    pub horizontal_none : high - before ≤ 1 → Inked (across_spots dashed l arms) cells colours stamps
    horizontal_none h =
        rw (← bottom, ← top, numbers_done (before + 1) high (omega arith)) (sym (ink_none v ranges (canvas_of lent cells colours stamps)))

    -- from what is done in each plane
    module _ (cells' colours' stamps' : List ℕ) where
      inked :
          (spots : List Spot) →
          window_after (ink_cells ranges) v (tinted tint spots) cells ≡ cells' →
          window_after (ink_colours ranges) v (tinted tint spots) (plane_of lent colours) ≡ plane_of lent colours' →
          window_after (ink_stamps ranges) v (tinted tint spots) (plane_of lent stamps) ≡ plane_of lent stamps' →
          Inked spots cells' colours' stamps'
      unfolding ink_window
      inked spots a b c = rw (a, b, c)

      pub vertical_done :
          cells' ≡ on_rows v (before + 1) high (λ y. ink_on ranges l.lane (here y)) cells →
          (plane_of lent colours' ≡ on_rows v (before + 1) high (λ y. paint_on tint.colour l.lane 1) (plane_of lent colours))
          × (plane_of lent stamps' ≡ on_rows v (before + 1) high (λ y. paint_on tint.stamp l.lane 1) (plane_of lent stamps)) →
          Inked (down_spots dashed l arms) cells' colours' stamps'
      unfolding on_rows
      vertical_done a t =
          let x = l.lane in
          let spot : ℕ → Spot = λ y. at x y (line_ink dashed l arms y) in
          let low = before + 1 in
          rw (← bottom, ← top)
          (inked (map spot (numbers low (high - low)))
          (plane_down (ink_cells ranges) tint spot (λ y. ink_on ranges x (here y)) (λ y row. in_cells x y y row) v (λ y. refl) low (high - low) cells ∙ sym a)
          (plane_down (ink_colours ranges) tint spot (λ y. paint_on tint.colour x 1) (λ y row. in_colours_lem x y y row) v (λ y. refl) low (high - low) (plane_of lent colours) ∙ sym t.0)
          (plane_down (ink_stamps ranges) tint spot (λ y. paint_on tint.stamp x 1) (λ y row. in_stamps_lem x y y row) v (λ y. refl) low (high - low) (plane_of lent stamps) ∙ sym t.1))

      pub horizontal_done :
          cells' ≡ on_row v l.lane (ink_along ranges arms dashed l.winner l.other (before + 1) high) cells →
          (plane_of lent colours' ≡ on_row v l.lane (paint_on tint.colour (before + 1) (high - (before + 1))) (plane_of lent colours))
          × (plane_of lent stamps' ≡ on_row v l.lane (paint_on tint.stamp (before + 1) (high - (before + 1))) (plane_of lent stamps)) →
          Inked (across_spots dashed l arms) cells' colours' stamps'
      unfolding ink_along
      horizontal_done a t =
          let y = l.lane in
          let spot : ℕ → Spot = λ x. at x y (line_ink dashed l arms x) in
          let low = before + 1 in
          let n = high - low in
          rw (← bottom, ← top)
          (inked (map spot (numbers low n))
          (plane_along (ink_cells ranges) tint spot (λ x. ink_on ranges x (here x)) (λ x row. in_cells x y x row) v y (cells_keep ranges) (λ x. refl) low n cells ∙ sym a)
          (plane_along (ink_colours ranges) tint spot (λ x. paint_on tint.colour x 1) (λ x row. in_colours_lem x y x row) v y (colours_keep ranges) (λ x. refl) low n (plane_of lent colours)
          ∙ on_row_cong v y _ (paint_on tint.colour low n) (plane_of lent colours) (paint_along tint.colour low n) ∙ sym t.0)
          (plane_along (ink_stamps ranges) tint spot (λ x. paint_on tint.stamp x 1) (λ x row. in_stamps_lem x y x row) v y (stamps_keep ranges) (λ x. refl) low n (plane_of lent stamps)
          ∙ on_row_cong v y _ (paint_on tint.stamp low n) (plane_of lent stamps) (paint_along tint.stamp low n) ∙ sym t.1))

    -- a line that has no row in the window
    pub vertical_missed : min high (v.first + v.rows) ≤ max (before + 1) v.first → Inked (down_spots dashed l arms) cells colours stamps
    vertical_missed h =
        let low = before + 1 in
        vertical_done cells colours stamps
        (rows_missed v low high _ cells h)
        (rows_missed v low high _ (plane_of lent colours) h, rows_missed v low high _ (plane_of lent stamps) h)

    -- and one whose row it has not
    pub horizontal_missed : in_window v l.lane ≡ false → Inked (across_spots dashed l arms) cells colours stamps
    horizontal_missed out =
        let y = l.lane in
        horizontal_done cells colours stamps
        (sym (on_row_out v y _ cells out))
        (sym (on_row_out v y _ (plane_of lent colours) out), sym (on_row_out v y _ (plane_of lent stamps) out))

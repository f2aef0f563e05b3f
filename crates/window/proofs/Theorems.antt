-- What holds of writes into a window: one list after another, the planes' lengths, each row by itself, and that what touches no row of the window changes
-- nothing.
use native.Mathlib.Omega.{arith}
use Prim.Native.Nat.{ℕ, ◌+◌, ◌≤◌, ◌<◌}
use mathlib.Core.Bool.{true, false}
use mathlib.Core.List.{List, [], ◌∷◌, ◌++◌}
use mathlib.Core.Path.{◌≡◌, refl, sym, ap, ◌∙◌}
use lib.Dec.{ltb}
use lib.ListN.{length}
use borrow.Author.Tests.{eq-eqb, ltb-false}
use Rattle.std.specs.Prelude.{Option, Some, None}
use Rattle.ground.specs.Each.{some}
use Rattle.ground.proofs.Each.{by_bool, or_left, or_right, and_both}
use Rattle.glyph.specs.Width.{width_of}
use Rattle.canvas.proofs.Laws.{text_none}
use Rattle.rows.specs.declared.Window.{Window}
use Rattle.rows.specs.Spots.{Ink, stroke, marker, glyph, Spot, inks, spot_touches, touches}
use Rattle.window.specs.declared.Lent.{Lent}
use Rattle.window.specs.declared.Lent.TheVariants.{Cells, All}
use Rattle.window.specs.declared.Tint.{Tint}
use Rattle.window.specs.Writes.{Write, tinted, ink_on, columns_of, fill, paint_on, ink_cells, ink_colours, ink_stamps, Canvas, canvas, ink_row}
use Rattle.window.specs.Window.{on_row, window_after, ink_window, plane_of, canvas_of, LentRoom, Ready}
use Rattle.window.proofs.Rows.{by_window, on_row_out, on_row_same, row_of, window_append, window_length, row_after_lem, cells_keep, colours_keep, stamps_keep}

-- No writes change nothing.
pub ink_none : (v : Window) (ranges : List ℕ) (c : Canvas) → ink_window v ranges [] c ≡ c
unfolding ink_window window_after
ink_none v ranges c = refl

-- Writes after others.
pub ink_append :
    (v : Window) (ranges : List ℕ) (ws us : List Write) (c : Canvas) →
    ink_window v ranges (ws ++ us) c ≡ ink_window v ranges us (ink_window v ranges ws c)
unfolding ink_window
ink_append v ranges ws us c =
    rw (
      window_append (ink_cells ranges) v ws us c.cells,
      window_append (ink_colours ranges) v ws us c.colours,
      window_append (ink_stamps ranges) v ws us c.stamps,
    )

-- The planes keep their lengths.
pub record SameLengths (a b : Canvas) : Type 0 where
  pub cells : length a.cells ≡ length b.cells
  pub colours : length a.colours ≡ length b.colours
  pub stamps : length a.stamps ≡ length b.stamps

pub ink_lengths : (v : Window) (ranges : List ℕ) (ws : List Write) (c : Canvas) → SameLengths (ink_window v ranges ws c) c
unfolding ink_window
ink_lengths v ranges ws c = record {
  cells = window_length (ink_cells ranges) (cells_keep ranges) v ws c.cells;
  colours = window_length (ink_colours ranges) (colours_keep ranges) v ws c.colours;
  stamps = window_length (ink_stamps ranges) (stamps_keep ranges) v ws c.stamps;
}

-- So what was ready to be painted in still is.
same_room : (lent : Lent) (v : Window) (colours stamps colours' stamps' : List ℕ) →
    length (plane_of lent colours') ≡ length (plane_of lent colours) →
    length (plane_of lent stamps') ≡ length (plane_of lent stamps) →
    LentRoom lent v colours stamps →
    LentRoom lent v colours' stamps'
unfolding LentRoom plane_of
same_room Cells v colours stamps colours' stamps' e d h = tt
same_room All v colours stamps colours' stamps' e d h = (rw e h.0, rw d h.1)

pub ready_still :
    (lent : Lent) (v : Window) (cells colours stamps cells' colours' stamps' : List ℕ) →
    SameLengths (canvas_of lent cells' colours' stamps') (canvas_of lent cells colours stamps) →
    Ready lent v cells colours stamps →
    Ready lent v cells' colours' stamps'
ready_still lent v cells colours stamps cells' colours' stamps' s r = record {
  small = r.small;
  room = rw s.cells r.room;
  others = same_room lent v colours stamps colours' stamps' s.colours s.stamps r.others;
}

pub ready_after :
    (lent : Lent) (v : Window) (ranges : List ℕ) (ws : List Write) (cells colours stamps cells' colours' stamps' : List ℕ) →
    canvas_of lent cells' colours' stamps' ≡ ink_window v ranges ws (canvas_of lent cells colours stamps) →
    Ready lent v cells colours stamps →
    Ready lent v cells' colours' stamps'
ready_after lent v ranges ws cells colours stamps cells' colours' stamps' e r =
    let s : SameLengths (canvas_of lent cells' colours' stamps') (canvas_of lent cells colours stamps)
    = rw e (ink_lengths v ranges ws (canvas_of lent cells colours stamps)) in
    ready_still lent v cells colours stamps cells' colours' stamps' s r

-- one row of all planes
abbrev pub row_canvas : Window → ℕ → Canvas → Canvas
row_canvas v y c = canvas (row_of v y c.cells) (row_of v y c.colours) (row_of v y c.stamps)

-- What writes leave of a row of the window is what they leave of that row by itself.
pub row_in_window :
    (v : Window) (ranges : List ℕ) (y : ℕ) → v.first ≤ y → y < v.first + v.rows → (ws : List Write) (c : Canvas) →
    row_canvas v y (ink_window v ranges ws c) ≡ ink_row ranges y ws (row_canvas v y c)
unfolding ink_window ink_row
row_in_window v ranges y p q ws c =
    rw (
      row_after_lem (ink_cells ranges) (cells_keep ranges) v y p q ws c.cells,
      row_after_lem (ink_colours ranges) (colours_keep ranges) v y p q ws c.colours,
      row_after_lem (ink_stamps ranges) (stamps_keep ranges) v y p q ws c.stamps,
    )

-- Ink that makes none: a glyph of width 0.

no_columns : (ranges : List ℕ) (ink : Ink) → inks ranges ink ≡ false → columns_of ranges ink ≡ 0
unfolding inks columns_of
no_columns ranges (stroke arms) h = cc
no_columns ranges (marker kind dir dashed) h = cc
no_columns ranges (glyph ch) h = ltb_zero (width_of ranges ch) h
  where
    ltb_zero : (n : ℕ) → ltb 0 n ≡ false → n ≡ 0
    ltb_zero n e = omega (arith, ltb-false 0 n e)

no_ink : (ranges : List ℕ) (x : ℕ) (ink : Ink) (row : List ℕ) → inks ranges ink ≡ false → ink_on ranges x ink row ≡ row
unfolding inks ink_on columns_of
no_ink ranges x (stroke arms) row h = cc
no_ink ranges x (marker kind dir dashed) row h = cc
no_ink ranges x (glyph ch) row h = sym (text_none row ranges x ch (no_columns ranges (glyph ch) h))

no_paint : (paint : Option ℕ) (x : ℕ) (row : List ℕ) → paint_on paint x 0 row ≡ row
unfolding paint_on fill
no_paint None x row = refl
no_paint (Some value) x row = refl

-- a change in one plane that ink of no columns leaves out
abbrev Idle : List ℕ → (Write → List ℕ → List ℕ) → Type 0
Idle ranges change = (w : Write) (row : List ℕ) → inks ranges w.spot.ink ≡ false → change w row ≡ row

cells_idle : (ranges : List ℕ) → Idle ranges (ink_cells ranges)
unfolding ink_cells
cells_idle ranges w row h = no_ink ranges w.spot.x w.spot.ink row h

colours_idle : (ranges : List ℕ) → Idle ranges (ink_colours ranges)
unfolding ink_colours
colours_idle ranges w row h = rw (no_columns ranges w.spot.ink h) (no_paint w.tint.colour w.spot.x row)

stamps_idle : (ranges : List ℕ) → Idle ranges (ink_stamps ranges)
unfolding ink_stamps
stamps_idle ranges w row h = rw (no_columns ranges w.spot.ink h) (no_paint w.tint.stamp w.spot.x row)

-- no row of the window is touched by these spots
abbrev pub Untouched : Window → List ℕ → List Spot → Type 0
Untouched v ranges spots = (y : ℕ) → v.first ≤ y → y < v.first + v.rows → touches ranges spots y ≡ false

module _ (v : Window) (ranges : List ℕ) (change : Write → List ℕ → List ℕ) (idle : Idle ranges change) (tint : Tint) where
  plane_untouched : (spots : List Spot) (plane : List ℕ) → Untouched v ranges spots → window_after change v (tinted tint spots) plane ≡ plane
  unfolding window_after touches some
  plane_untouched [] plane h = refl
  plane_untouched (s ∷ rest) plane h =
      ap (window_after change v (tinted tint rest)) same
      ∙ plane_untouched rest plane (λ y p q. or_right (spot_touches ranges y s) _ (h y p q))
    where
      w : Write
      w = record { spot = s; tint = tint }

      same : on_row v s.y (change w) plane ≡ plane
      same =
          by_window v s.y
          (λ p q. by_bool (inks ranges s.ink)
          (λ e.
          let t : spot_touches ranges s.y s ≡ true = and_both (eq-eqb s.y s.y refl) e in
          let f : spot_touches ranges s.y s ≡ false = or_left (spot_touches ranges s.y s) _ (h s.y p q) in
          cc)
          (λ e. sym (on_row_same v s.y (change w) plane (λ row. idle w row e))))
          (λ out. on_row_out v s.y (change w) plane out)

-- What touches no row of the window changes nothing.
pub untouched :
    (v : Window) (ranges : List ℕ) (tint : Tint) (spots : List Spot) (c : Canvas) →
    Untouched v ranges spots →
    ink_window v ranges (tinted tint spots) c ≡ c
unfolding ink_window
untouched v ranges tint spots c h =
    rw (
      plane_untouched v ranges (ink_cells ranges) (cells_idle ranges) tint spots c.cells h,
      plane_untouched v ranges (ink_colours ranges) (colours_idle ranges) tint spots c.colours h,
      plane_untouched v ranges (ink_stamps ranges) (stamps_idle ranges) tint spots c.stamps h,
    )

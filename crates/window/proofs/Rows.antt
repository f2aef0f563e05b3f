-- A row of the sheet in a plane of a window, and writes in one plane.
use native.Mathlib.Omega.{arith}
use native.Mathlib.Nat.{mul-le-mul_right, suc-mul}
use Prim.Native.Nat.{ℕ, zero, suc, ◌+◌, ◌-◌, ◌*◌, ◌≤◌, ◌<◌}
use mathlib.Core.Bool.{true, false, and-false}
use mathlib.Core.List.{List, [], ◌∷◌, ◌++◌}
use mathlib.Core.Path.{◌≡◌, refl, ap, ◌∙◌}
use lib.Dec.{eqb}
use lib.ListN.{length, take, set, length-set}
use borrow.Author.Tests.{lt-ltb, le-ltb, le-leb, lt-leb, eq-eqb, ne_eqb}
use Rattle.std.specs.Prelude.{Option, Some, None}
use Rattle.ground.proofs.Order.{by_order, by_three}
use Rattle.ground.proofs.Each.{cond_holds}
use Rattle.rows.specs.declared.Window.{Window}
use Rattle.rows.specs.Window.{in_window}
use Rattle.rows.specs.Spots.{Ink, stroke, marker, glyph}
use Rattle.canvas.proofs.Theorems.{stroke_length, marker_length, text_length}
use Rattle.window.specs.Writes.{Write, ink_on, columns_of, fill, paint_on, ink_cells, ink_colours, ink_stamps, row_after}
use Rattle.window.specs.Window.{row_start, part, on_part, on_row, window_after}
use Rattle.window.proofs.Parts.{Keeps, on_same, on_length, crop_before, crop_after, crop_here}

-- Which rows lie in a window.

module _ (v : Window) (y : ℕ) where
  pub within : v.first ≤ y → y < v.first + v.rows → in_window v y ≡ true
  unfolding in_window
  within p q = simp (le-leb _ _ p, lt-ltb _ _ q)

  pub above : y < v.first → in_window v y ≡ false
  unfolding in_window
  above p = simp (lt-leb _ _ p)

  pub below : v.first + v.rows ≤ y → in_window v y ≡ false
  unfolding in_window
  below p = simp (le-ltb _ _ p, and-false)

  pub by_window : {P : Type 0} → (v.first ≤ y → y < v.first + v.rows → P) → (in_window v y ≡ false → P) → P
  by_window inside outside =
      by_order y v.first
      (λ p. outside (above p))
      (λ p. by_order y (v.first + v.rows) (λ q. inside p q) (λ q. outside (below q)))

  module _ (f : List ℕ → List ℕ) (plane : List ℕ) where
    -- a row of the window is changed in its part
    pub on_row_in : in_window v y ≡ true → on_row v y f plane ≡ on_part (row_start v y) v.width f plane
    unfolding on_row
    on_row_in e = rw e

    -- any other is not
    pub on_row_out : in_window v y ≡ false → on_row v y f plane ≡ plane
    unfolding on_row
    on_row_out e = rw e

pub on_row_length : (v : Window) (y : ℕ) (f : List ℕ → List ℕ) → Keeps f → (plane : List ℕ) → length (on_row v y f plane) ≡ length plane
unfolding on_row
on_row_length v y f keeps plane =
    cond_holds (λ (l : List ℕ). length l ≡ length plane) (in_window v y) (on_length v.width f keeps _ plane) refl

-- a row changed by what changes nothing
pub on_row_same : (v : Window) (y : ℕ) (f : List ℕ → List ℕ) (plane : List ℕ) → ((row : List ℕ) → f row ≡ row) → plane ≡ on_row v y f plane
unfolding on_row
on_row_same v y f plane same =
    cond_holds (λ (l : List ℕ). plane ≡ l) (in_window v y) (on_same (row_start v y) v.width f plane same) refl

-- A row begins where the one before it ends.

pub row_end : (r w n : ℕ) → r < n → r * w + w ≤ n * w
row_end r w n h = omega (arith, mul-le-mul_right w h, suc-mul r w)

rows_apart : (v : Window) (a b : ℕ) → v.first ≤ a → a < b → row_start v a + v.width ≤ row_start v b
rows_apart v a b p q = row_end (a - v.first) v.width (b - v.first) (omega arith)

-- row y of a plane
abbrev pub row_of : Window → ℕ → List ℕ → List ℕ
row_of v y plane = part (row_start v y) v.width plane

-- What a change of a row leaves of that row, and of another.
module _ (v : Window) (y : ℕ) (f : List ℕ → List ℕ) (keeps : Keeps f) (plane : List ℕ) where
  pub row_here : in_window v y ≡ true → row_of v y (on_row v y f plane) ≡ f (row_of v y plane)
  row_here e = rw (on_row_in v y f plane e) (crop_here v.width f keeps (row_start v y) plane)

  pub row_other :
      (z : ℕ) → v.first ≤ z → (y ≡ z → ⊥) →
      row_of v z (on_row v y f plane) ≡ row_of v z plane
  row_other z p n =
      by_window v y
      (λ a b. rw (on_row_in v y f plane (within v y a b))
      (by_three y z
      (λ less. ap (take v.width) (crop_after v.width f keeps (row_start v z) (row_start v y) plane (rows_apart v y z a less)))
      (λ more. crop_before v.width f keeps (row_start v z) v.width (row_start v y) plane (rows_apart v z y p more))
      (λ e. absurd (n e))))
      (λ out. rw (on_row_out v y f plane out))

-- Writes in one plane.

module _ (change : Write → List ℕ → List ℕ) where
  pub window_append :
      (v : Window) (ws us : List Write) (plane : List ℕ) →
      window_after change v (ws ++ us) plane ≡ window_after change v us (window_after change v ws plane)
  unfolding window_after
  window_append v [] us plane = refl
  window_append v (w ∷ ws) us plane = window_append v ws us (on_row v w.spot.y (change w) plane)

  module _ (keeps : (w : Write) → Keeps (change w)) where
    pub window_length : (v : Window) (ws : List Write) → Keeps (window_after change v ws)
    unfolding window_after
    window_length v [] plane = refl
    window_length v (w ∷ ws) plane =
        window_length v ws (on_row v w.spot.y (change w) plane) ∙ on_row_length v w.spot.y (change w) (keeps w) plane

    pub row_length : (y : ℕ) (ws : List Write) → Keeps (row_after change y ws)
    unfolding row_after
    row_length y [] row = refl
    row_length y (w ∷ ws) row =
        row_length y ws _
        ∙ cond_holds (λ (r : List ℕ). length r ≡ length row) (eqb w.spot.y y) (keeps w row) refl

    -- what writes leave of one row of the window is what they leave of that row by itself
    pub row_after_lem :
        (v : Window) (y : ℕ) → v.first ≤ y → y < v.first + v.rows → (ws : List Write) (plane : List ℕ) →
        row_of v y (window_after change v ws plane) ≡ row_after change y ws (row_of v y plane)
    unfolding window_after row_after
    row_after_lem v y p q [] plane = refl
    row_after_lem v y p q (w ∷ ws) plane =
        row_after_lem v y p q ws (on_row v w.spot.y (change w) plane)
        ∙ ap (row_after change y ws)
        (by_three w.spot.y y
        (λ less. let n : w.spot.y ≡ y → ⊥ = λ e. omega arith in
        rw (ne_eqb _ _ n) (row_other v w.spot.y (change w) (keeps w) plane y p n))
        (λ more. let n : w.spot.y ≡ y → ⊥ = λ e. omega arith in
        rw (ne_eqb _ _ n) (row_other v w.spot.y (change w) (keeps w) plane y p n))
        (λ e. rw (eq-eqb _ _ e)
        (ap (λ (z : ℕ). row_of v y (on_row v z (change w) plane)) e ∙ row_here v y (change w) (keeps w) plane (within v y p q))))

-- What a write does keeps a row's length, in each plane.

pub fill_keeps : (value x columns : ℕ) → Keeps (fill value x columns)
unfolding fill
fill_keeps value x zero row = refl
fill_keeps value x (suc more) row = fill_keeps value (suc x) more (set row x value) ∙ length-set row x value

pub paint_keeps : (paint : Option ℕ) (x columns : ℕ) → Keeps (paint_on paint x columns)
unfolding paint_on
paint_keeps None x columns row = refl
paint_keeps (Some value) x columns row = fill_keeps value x columns row

pub ink_keeps : (ranges : List ℕ) (x : ℕ) (ink : Ink) → Keeps (ink_on ranges x ink)
unfolding ink_on
ink_keeps ranges x (stroke arms) row = stroke_length row ranges x arms
ink_keeps ranges x (marker kind dir dashed) row = marker_length row ranges x kind dir dashed
ink_keeps ranges x (glyph ch) row = text_length row ranges x ch

module _ (ranges : List ℕ) (w : Write) where
  pub cells_keep : Keeps (ink_cells ranges w)
  unfolding ink_cells
  cells_keep row = ink_keeps ranges w.spot.x w.spot.ink row

  pub colours_keep : Keeps (ink_colours ranges w)
  unfolding ink_colours
  colours_keep row = paint_keeps w.tint.colour w.spot.x (columns_of ranges w.spot.ink) row

  pub stamps_keep : Keeps (ink_stamps ranges w)
  unfolding ink_stamps
  stamps_keep row = paint_keeps w.tint.stamp w.spot.x (columns_of ranges w.spot.ink) row

-- The rows that spots touch: of a box, of glyphs side by side, of the simple look, and of ink on rows that are touched anyhow.
use Rattle.std.specs.Prelude.{None}
use native.Mathlib.Omega.{arith}
use Prim.Native.Nat.{ℕ, ◌+◌, ◌-◌, ◌≤◌, ◌<◌, min, max}
use mathlib.Core.Bool.{Bool, true, false, cond, ◌&&◌, ◌||◌, and-true, and-false}
use mathlib.Core.List.{List, [], ◌∷◌, ◌++◌}
use mathlib.Core.Path.{◌≡◌, refl, sym, ◌∙◌}
use lib.Dec.{leb, ltb, eqb}
use borrow.Author.Tests.{le-leb, lt-leb, lt-ltb, le-ltb, eq-eqb, ne_eqb}
use Rattle.ground.specs.Each.{some}
use Rattle.ground.proofs.Order.{by_three}
use Rattle.ground.proofs.Each.{by_bool, and_both, or_neither}
use Rattle.cell.specs.declared.Weight.{Weight}
use Rattle.cell.specs.OneCell.{horizontal, vertical}
use Rattle.glyph.specs.Width.{width_of}
use Rattle.image.specs.declared.Node.{Node}
use Rattle.rows.specs.declared.Window.{Window}
use Rattle.rows.specs.Spots.{Spot, at, stroke, glyph, inks, touches}
use Rattle.rows.specs.Window.{touched_rows}
use Rattle.rows.specs.Computed.{window_rows}
use Rattle.rows.proofs.Windows.{clash, touched_same, touched_none, window_rows_lem, window_row}
use Rattle.rows.proofs.Spots.{touches_append, touches_along, touches_down}
use Rattle.frame.specs.Frames.{corners, across, down, box_of, text}
use Rattle.frame.specs.Nodes.{closing, text_until, simple_spots}
use Rattle.frame.specs.Computed.{any_ink}

-- one row, where a test holds
pub row_where : (w : Window) (test : Bool) (row : ℕ) → touched_rows w (λ y. test && eqb row y) ≡ cond test (window_rows w row row) None
row_where w true row = sym (window_row w row)
row_where w false row = touched_none w _ (λ y i j. refl)

module _ (ranges : List ℕ) where
  -- Ink on rows that are touched without it adds no row.
  pub rows_covered :
      (w : Window) (k l : List Spot) → ((y : ℕ) → touches ranges k y ≡ false → touches ranges l y ≡ false) →
      touched_rows w (touches ranges (k ++ l)) ≡ touched_rows w (touches ranges k)
  rows_covered w k l h = touched_same w _ _ (λ y i j. touches_append ranges k l y ∙ covered y)
    where
      covered : (y : ℕ) → (touches ranges k y || touches ranges l y) ≡ touches ranges k y
      covered y = by_bool (touches ranges k y) (λ t. rw t) (λ t. rw (t, h y t))

  -- A box touches each row from its top to its bottom.

  five :
      (a b c d e : List Spot) (y : ℕ) → touches ranges (a ++ b ++ c ++ d ++ e) y
      ≡ touches ranges a y || touches ranges b y || touches ranges c y || touches ranges d y || touches ranges e y
  five a b c d e y = simp (touches_append ranges)

  corners_touch :
      (w : Weight) (left right top bottom y : ℕ) →
      touches ranges (corners w left right top bottom) y ≡ eqb top y || eqb bottom y
  unfolding touches some inks
  corners_touch w left right top bottom y = twice (eqb top y) (eqb bottom y)
    where
      twice : (t b : Bool) → ((t && true) || ((t && true) || ((b && true) || ((b && true) || false)))) ≡ t || b
      twice true b = refl
      twice false true = refl
      twice false false = refl

  abbrev inside : ℕ → ℕ → ℕ → Bool
  inside top bottom y = leb (min top bottom + 1) y && ltb y (min top bottom + 1 + (max top bottom - (min top bottom + 1)))

  -- a line along the top or the bottom, where there is one, touches no row that the corners do not; and the two sides touch the same rows
  once : (wide t b m : Bool) → t || b || wide && t || wide && b || m || m ≡ t || b || m
  once wide true b m = refl
  once wide false true m = refl
  once true false false true = refl
  once true false false false = refl
  once false false false true = refl
  once false false false false = refl

  top_to_bottom : (top bottom y : ℕ) → top ≤ bottom → eqb top y || eqb bottom y || inside top bottom y ≡ leb top y && leb y bottom
  top_to_bottom top bottom y h =
      by_three y top
      (λ o. let p : y < min top bottom + 1 = omega arith in
      rw (ne_eqb top y (λ e. omega arith), ne_eqb bottom y (λ e. omega arith), lt-leb _ _ p, lt-leb _ _ o))
      (λ o. let l : min top bottom + 1 ≤ y = omega arith in let t : top ≤ y = omega arith in
      rw (ne_eqb top y (λ e. omega arith), le-leb _ _ l, le-leb _ _ t)
      (by_three y bottom
      (λ p. let r : y < min top bottom + 1 + (max top bottom - (min top bottom + 1)) = omega arith in let b : y ≤ bottom = omega arith in
      rw (ne_eqb bottom y (λ e. omega arith), lt-ltb _ _ r, le-leb _ _ b))
      (λ p. let r : min top bottom + 1 + (max top bottom - (min top bottom + 1)) ≤ y = omega arith in
      rw (ne_eqb bottom y (λ e. omega arith), le-ltb _ _ r, lt-leb _ _ p))
      (λ p. let b : y ≤ bottom = omega arith in rw (eq-eqb _ _ (sym p), le-leb _ _ b))))
      (λ o. let t : top ≤ y = omega arith in let b : y ≤ bottom = omega arith in rw (eq-eqb _ _ (sym o), le-leb _ _ t, le-leb _ _ b))

  module _ (w : Weight) (left right top bottom : ℕ) (h : top ≤ bottom) where
    pub box_touches : (y : ℕ) → touches ranges (box_of w left right top bottom) y ≡ leb top y && leb y bottom
    unfolding box_of inks
    box_touches y =
        five (corners w left right top bottom) (across w left right top) (across w left right bottom) (down w left top bottom) (down w right top bottom) y
        ∙ rw (
          corners_touch w left right top bottom y,
          touches_along ranges top (λ x. stroke (horizontal w)) (λ k. refl) _ _ y,
          touches_along ranges bottom (λ x. stroke (horizontal w)) (λ k. refl) _ _ y,
          touches_down ranges left (λ x. stroke (vertical w)) (λ k. refl) _ _ y,
          touches_down ranges right (λ x. stroke (vertical w)) (λ k. refl) _ _ y,
        )
        (once (ltb 0 (max left right - (min left right + 1))) (eqb top y) (eqb bottom y) (inside top bottom y) ∙ top_to_bottom top bottom y h)

    pub rows_box : (window : Window) → touched_rows window (touches ranges (box_of w left right top bottom)) ≡ window_rows window top bottom
    rows_box window = touched_same window _ _ (λ y i j. box_touches y) ∙ sym (window_rows_lem window top bottom)

  -- Glyphs side by side touch their row, where one of them has a width.

  pub text_touches : (x row : ℕ) (glyphs : List ℕ) (y : ℕ) → touches ranges (text ranges x row glyphs) y ≡ any_ink ranges glyphs && eqb row y
  unfolding touches some inks text any_ink
  text_touches x row [] y = refl
  text_touches x row (ch ∷ rest) y =
      rw (text_touches (x + width_of ranges ch) row rest y)
      (either (ltb 0 (width_of ranges ch)) (any_ink ranges rest) (eqb row y))
    where
      either : (a b e : Bool) → (e && a) || (b && e) ≡ (a || b) && e
      either a b true = rw (and-true b, and-true (a || b))
      either a b false = rw (and-false b, and-false (a || b))

  pub text_off : (x row : ℕ) (glyphs : List ℕ) (y : ℕ) → (row ≡ y → ⊥) → touches ranges (text ranges x row glyphs) y ≡ false
  text_off x row glyphs y o = text_touches x row glyphs y ∙ rw (ne_eqb row y o) (and-false (any_ink ranges glyphs))

  pub rows_text :
      (w : Window) (x row : ℕ) (glyphs : List ℕ) →
      touched_rows w (touches ranges (text ranges x row glyphs)) ≡ cond (any_ink ranges glyphs) (window_rows w row row) None
  rows_text w x row glyphs = touched_same w _ _ (λ y i j. text_touches x row glyphs y) ∙ row_where w (any_ink ranges glyphs) row

  -- A box with glyphs on one of its rows touches no further row.
  pub rows_framed :
      (w : Window) (weight : Weight) (left right top bottom x row : ℕ) (glyphs : List ℕ) → top ≤ row → row ≤ bottom →
      touched_rows w (touches ranges (box_of weight left right top bottom ++ text ranges x row glyphs)) ≡ window_rows w top bottom
  rows_framed w weight left right top bottom x row glyphs p q =
      let h : top ≤ bottom = omega arith in
      rows_covered w (box_of weight left right top bottom) (text ranges x row glyphs)
      (λ y off. text_off x row glyphs y
      (λ e. clash
      (box_touches weight left right top bottom h y ∙ and_both (le-leb top y (omega arith)) (le-leb y bottom (omega arith)))
      off))
      ∙ rows_box weight left right top bottom h w

  -- The simple look touches its row and no other.

  until_off : (close x row : ℕ) (glyphs : List ℕ) (y : ℕ) → eqb row y ≡ false → touches ranges (text_until ranges close x row glyphs) y ≡ false
  unfolding touches some text_until
  until_off close x row [] y e = refl
  until_off close x row (ch ∷ rest) y e =
      by_bool (leb (x + width_of ranges ch) close)
      (λ t. rw (t, e) (until_off close (x + width_of ranges ch) row rest y e))
      (λ t. rw t)

  close_off :
      (wide : Bool) (x row : ℕ) (ch y : ℕ) → eqb row y ≡ false → touches ranges (cond wide (at x row (glyph ch) ∷ []) []) y ≡ false
  unfolding touches some
  close_off true x row ch y t = rw t
  close_off false x row ch y t = refl

  pub simple_touches :
      (n : Node) (glyphs : List ℕ) → 0 < width_of ranges 0x5B → (y : ℕ) → touches ranges (simple_spots ranges n glyphs) y ≡ eqb n.y y
  unfolding touches some inks
  simple_touches n glyphs h y =
      by_bool (eqb n.y y)
      (λ t. rw (t, lt-ltb _ _ h))
      (λ t. rw t
      (touches_append ranges (text_until ranges (closing n) (n.x + 1) n.y glyphs) _ y
      ∙ or_neither (until_off _ _ _ glyphs y t) (close_off (leb 2 n.width) _ _ _ y t)))

  pub rows_simple :
      (w : Window) (n : Node) (glyphs : List ℕ) → 0 < width_of ranges 0x5B →
      touched_rows w (touches ranges (simple_spots ranges n glyphs)) ≡ window_rows w n.y n.y
  rows_simple w n glyphs h = touched_same w _ _ (λ y i j. simple_touches n glyphs h y) ∙ sym (window_row w n.y)

-- Glyphs side by side: in one row, plane by plane; a turn of the loop over them, and its end; those before a closing column.
use native.Mathlib.Omega.{arith}
use native.Mathlib.Numerals.{add-one}
use native.Mathlib.Nat.{add_assoc}
use Prim.Native.Nat.{ℕ, zero, suc, ◌+◌, ◌-◌, ◌≤◌, ◌<◌}
use mathlib.Core.Bool.{Bool, true, false}
use mathlib.Core.List.{List, [], ◌∷◌, ◌++◌, append_assoc, append-nil}
use mathlib.Core.Path.{◌≡◌, refl, sym, ap, ◌∙◌}
use lib.ListN.{length, take, drop, set, get_or, drop_of_length-le, length-take}
use lib.Seq.{drop-cons, take-add}
use borrow.Author.Tests.{le-leb, lt-leb}
use Rattle.std.specs.Prelude.{Option, Some, None}
use Rattle.ground.proofs.Order.{by_order}
use Rattle.glyph.specs.Width.{width_of}
use Rattle.glyph.specs.Fitting as glyph
use Rattle.canvas.specs.Row.{text_row}
use Rattle.rows.specs.declared.Window.{Window}
use Rattle.rows.specs.Window.{in_window}
use Rattle.rows.specs.Spots.{Spot, at}
use Rattle.rows.specs.Spots as spot
use Rattle.window.specs.declared.Lent.{Lent}
use Rattle.window.specs.declared.Tint.{Tint}
use Rattle.window.specs.Writes.{Write, Canvas, tinted, ink_on, columns_of, fill, paint_on, ink_cells, ink_colours, ink_stamps}
use Rattle.window.specs.Window.{row_start, on_part, on_row, window_after, ink_window, plane_of, canvas_of}
use Rattle.window.proofs.Rows.{on_row_out, cells_keep, colours_keep, stamps_keep}
use Rattle.window.proofs.Laws.{row_done}
use Rattle.window.proofs.OneRow.{on_row_cong, in_order, AllOn, one_row}
use Rattle.frame.specs.Frames.{text, label_room, fitting_part}
use Rattle.frame.specs.Nodes.{text_until}
use Rattle.text.specs.Text.{text_cells, glyphs_until}

-- In one row, plane by plane.

fill_add : (value x m n : ℕ) (row : List ℕ) → fill value (x + m) n (fill value x m row) ≡ fill value x (m + n) row
unfolding fill
fill_add value x zero n row = let e : x + 0 ≡ x = omega arith in let d : 0 + n ≡ n = omega arith in rw (e, d)
fill_add value x (suc m) n row =
    let e : x + suc m ≡ suc x + m = omega arith in
    let d : suc m + n ≡ suc (m + n) = omega arith in
    rw (e, d) (fill_add value (suc x) m n (set row x value))

paint_add : (paint : Option ℕ) (x m n : ℕ) (row : List ℕ) → paint_on paint (x + m) n (paint_on paint x m row) ≡ paint_on paint x (m + n) row
unfolding paint_on
paint_add None x m n row = refl
paint_add (Some value) x m n row = fill_add value x m n row

paint_none : (paint : Option ℕ) (x : ℕ) (row : List ℕ) → row ≡ paint_on paint x 0 row
unfolding paint_on fill
paint_none None x row = refl
paint_none (Some value) x row = refl

module _ (ranges : List ℕ) (y : ℕ) (tint : Tint) where
  abbrev writes : ℕ → List ℕ → List Write
  writes x glyphs = tinted tint (text ranges x y glyphs)

  on_row_lem : (x : ℕ) (glyphs : List ℕ) → AllOn y (writes x glyphs)
  unfolding text AllOn
  on_row_lem x [] = tt
  on_row_lem x (ch ∷ rest) = (refl, on_row_lem (x + width_of ranges ch) rest)

  cells_of : (x : ℕ) (glyphs row : List ℕ) → in_order (ink_cells ranges) (writes x glyphs) row ≡ text_cells ranges x glyphs row
  unfolding text in_order text_cells ink_cells ink_on
  cells_of x [] row = refl
  cells_of x (ch ∷ rest) row = cells_of (x + width_of ranges ch) rest (text_row row ranges x ch)

  colours_of : (x : ℕ) (glyphs row : List ℕ) → in_order (ink_colours ranges) (writes x glyphs) row ≡ paint_on tint.colour x (glyph.columns_of glyphs ranges) row
  unfolding text in_order ink_colours columns_of glyph.columns_of
  colours_of x [] row = paint_none tint.colour x row
  colours_of x (ch ∷ rest) row =
      colours_of (x + width_of ranges ch) rest (paint_on tint.colour x (width_of ranges ch) row)
      ∙ paint_add tint.colour x (width_of ranges ch) (glyph.columns_of rest ranges) row

  stamps_of : (x : ℕ) (glyphs row : List ℕ) → in_order (ink_stamps ranges) (writes x glyphs) row ≡ paint_on tint.stamp x (glyph.columns_of glyphs ranges) row
  unfolding text in_order ink_stamps columns_of glyph.columns_of
  stamps_of x [] row = paint_none tint.stamp x row
  stamps_of x (ch ∷ rest) row =
      stamps_of (x + width_of ranges ch) rest (paint_on tint.stamp x (width_of ranges ch) row)
      ∙ paint_add tint.stamp x (width_of ranges ch) (glyph.columns_of rest ranges) row

  module _ (v : Window) (x : ℕ) (glyphs : List ℕ) where
    plane_cells : (plane : List ℕ) → window_after (ink_cells ranges) v (writes x glyphs) plane ≡ on_row v y (text_cells ranges x glyphs) plane
    plane_cells plane =
        one_row v y (ink_cells ranges) (cells_keep ranges) (writes x glyphs) plane (on_row_lem x glyphs)
        ∙ on_row_cong v y _ _ plane (cells_of x glyphs)

    plane_colours : (plane : List ℕ) → window_after (ink_colours ranges) v (writes x glyphs) plane ≡ on_row v y (paint_on tint.colour x (glyph.columns_of glyphs ranges)) plane
    plane_colours plane =
        one_row v y (ink_colours ranges) (colours_keep ranges) (writes x glyphs) plane (on_row_lem x glyphs)
        ∙ on_row_cong v y _ _ plane (colours_of x glyphs)

    plane_stamps : (plane : List ℕ) → window_after (ink_stamps ranges) v (writes x glyphs) plane ≡ on_row v y (paint_on tint.stamp x (glyph.columns_of glyphs ranges)) plane
    plane_stamps plane =
        one_row v y (ink_stamps ranges) (stamps_keep ranges) (writes x glyphs) plane (on_row_lem x glyphs)
        ∙ on_row_cong v y _ _ plane (stamps_of x glyphs)

    module _ (lent : Lent) where
      abbrev Inked : (cells colours stamps cells' colours' stamps' : List ℕ) → Type 0
      Inked cells colours stamps cells' colours' stamps' =
          canvas_of lent cells' colours' stamps' ≡ ink_window v ranges (writes x glyphs) (canvas_of lent cells colours stamps)

      -- in a row of the window
      pub text_inside :
          (has : Bool) (start end count : ℕ) (cells colours stamps cells' colours' stamps' : List ℕ) →
          has ≡ in_window v y →
          has ≡ true →
          start ≡ row_start v y →
          end ≡ x + glyph.columns_of glyphs ranges →
          count ≡ end - x →
          cells' ≡ on_part start v.width (text_cells ranges x glyphs) cells →
          (plane_of lent colours' ≡ on_part start v.width (paint_on tint.colour x count) (plane_of lent colours))
          × (plane_of lent stamps' ≡ on_part start v.width (paint_on tint.stamp x count) (plane_of lent stamps)) →
          Inked cells colours stamps cells' colours' stamps'
      unfolding ink_window
      text_inside has start end count cells colours stamps cells' colours' stamps' e i s d n a t =
          let h : in_window v y ≡ true = sym e ∙ i in
          let m : count ≡ glyph.columns_of glyphs ranges = omega arith in
          let p = row_done v y (text_cells ranges x glyphs) start cells cells' h s a in
          let q = row_done v y (paint_on tint.colour x count) start (plane_of lent colours) (plane_of lent colours') h s t.0 in
          let r = row_done v y (paint_on tint.stamp x count) start (plane_of lent stamps) (plane_of lent stamps') h s t.1 in
          rw (plane_cells cells, plane_colours (plane_of lent colours), plane_stamps (plane_of lent stamps), ← m, p, q, r)

      -- in any other row
      pub text_outside : (has : Bool) (cells colours stamps : List ℕ) → has ≡ in_window v y → has ≡ false → Inked cells colours stamps cells colours stamps
      unfolding ink_window
      text_outside has cells colours stamps e o =
          let h : in_window v y ≡ false = sym e ∙ o in
          rw (
            plane_cells cells,
            plane_colours (plane_of lent colours),
            plane_stamps (plane_of lent stamps),
            on_row_out v y (text_cells ranges x glyphs) cells h,
            on_row_out v y (paint_on tint.colour x (glyph.columns_of glyphs ranges)) (plane_of lent colours) h,
            on_row_out v y (paint_on tint.stamp x (glyph.columns_of glyphs ranges)) (plane_of lent stamps) h,
          )

-- A turn of the loop over glyphs, and its end.

module _ (ranges glyphs : List ℕ) (k column ch : ℕ) (inside : k < length glyphs) (here : ch ≡ get_or glyphs k 0) where
  left : drop k glyphs ≡ ch ∷ drop (k + 1) glyphs
  left = rw (add-one k, here) (drop-cons glyphs k 0 inside)

  pub columns_again :
      (width total : ℕ) → width ≡ width_of ranges ch →
      column + glyph.columns_of (drop k glyphs) ranges ≡ total →
      column + width + glyph.columns_of (drop (k + 1) glyphs) ranges ≡ total
  unfolding glyph.columns_of
  columns_again width total wide e =
      rw (wide, ← e, left) (add_assoc column (width_of ranges ch) (glyph.columns_of (drop (k + 1) glyphs) ranges))

  pub text_again :
      (width : ℕ) (row after whole : List ℕ) → width ≡ width_of ranges ch →
      text_cells ranges column (drop k glyphs) row ≡ whole →
      after ≡ text_row row ranges column ch →
      text_cells ranges (column + width) (drop (k + 1) glyphs) after ≡ whole
  unfolding text_cells
  text_again width row after whole wide e d = rw (d, wide) (rw left at e)

pub columns_done : (ranges glyphs : List ℕ) (k column total : ℕ) → length glyphs ≤ k → column + glyph.columns_of (drop k glyphs) ranges ≡ total → column ≡ total
unfolding glyph.columns_of
columns_done ranges glyphs k column total h e = let n : column + 0 ≡ column = omega arith in sym n ∙ (rw (drop_of_length-le glyphs h) at e)

pub text_end : (ranges glyphs : List ℕ) (k column : ℕ) (row whole : List ℕ) → length glyphs ≤ k → text_cells ranges column (drop k glyphs) row ≡ whole → row ≡ whole
unfolding text_cells
text_end ranges glyphs k column row whole h e = rw (drop_of_length-le glyphs h) at e

-- Those before a closing column.
pub until_is_text :
    (ranges : List ℕ) (close x y : ℕ) (glyphs : List ℕ) →
    text_until ranges close x y glyphs ≡ text ranges x y (glyphs_until ranges close x glyphs)
unfolding text_until text glyphs_until
until_is_text ranges close x y [] = refl
until_is_text ranges close x y (ch ∷ rest) =
    by_order close (x + width_of ranges ch)
    (λ p. rw (lt-leb _ _ p))
    (λ p. rw (le-leb _ _ p) (ap (λ (l : List Spot). at x y (spot.glyph ch) ∷ l) (until_is_text ranges close (x + width_of ranges ch) y rest)))

-- A turn of the loop that counts them, and its two ends.

-- what those looked at and those ahead make
abbrev pub Counted : List ℕ → ℕ → ℕ → List ℕ → ℕ → ℕ → Type 0
Counted ranges close x glyphs k column =
    take k glyphs ++ glyphs_until ranges close column (drop k glyphs) ≡ glyphs_until ranges close x glyphs

pub count_begins : (ranges : List ℕ) (close x : ℕ) (glyphs : List ℕ) → Counted ranges close x glyphs 0 x
count_begins ranges close x glyphs = refl

module _ (ranges : List ℕ) (close x : ℕ) (glyphs : List ℕ) (k column width next : ℕ) (so : Counted ranges close x glyphs k column)
    (inside : k < length glyphs) (wide : width ≡ width_of ranges (get_or glyphs k 0)) (moved : next ≡ column + width) where
  ahead : drop k glyphs ≡ get_or glyphs k 0 ∷ drop (k + 1) glyphs
  ahead = rw (add-one k) (drop-cons glyphs k 0 inside)

  pub count_again : next ≤ close → Counted ranges close x glyphs (k + 1) next
  unfolding glyphs_until
  count_again h =
      let ch = get_or glyphs k 0 in
      let room : column + width_of ranges ch ≤ close = rw (moved, wide) at h in
      let one : take (k + 1) glyphs ≡ take k glyphs ++ (ch ∷ []) = rw (take-add k 1 glyphs, ahead) in
      let here : glyphs_until ranges close column (drop k glyphs) ≡ ch ∷ glyphs_until ranges close (column + width_of ranges ch) (drop (k + 1) glyphs)
      = rw (ahead, le-leb _ _ room) in
      rw (one, moved, wide, append_assoc (take k glyphs) (ch ∷ []) (glyphs_until ranges close (column + width_of ranges ch) (drop (k + 1) glyphs)))
      (ap (λ (l : List ℕ). take k glyphs ++ l) (sym here) ∙ so)

  pub count_stops : close < next → take k glyphs ≡ glyphs_until ranges close x glyphs
  unfolding glyphs_until
  count_stops h =
      let over : close < column + width_of ranges (get_or glyphs k 0) = rw (moved, wide) at h in
      let none : glyphs_until ranges close column (drop k glyphs) ≡ [] = rw (ahead, lt-leb _ _ over) in
      sym (append-nil (take k glyphs)) ∙ (rw none at so)

pub count_ends :
    (ranges : List ℕ) (close x : ℕ) (glyphs : List ℕ) (k column : ℕ) → length glyphs ≤ k → Counted ranges close x glyphs k column →
    take k glyphs ≡ glyphs_until ranges close x glyphs
unfolding glyphs_until
count_ends ranges close x glyphs k column h so = sym (append-nil (take k glyphs)) ∙ (rw (drop_of_length-le glyphs h) at so)

-- A part of the glyphs is no longer than they are, and so is a label's fitting part.

pub part_few : (n : ℕ) (glyphs : List ℕ) → length glyphs ≤ 0x800000000000 → length (take n glyphs) ≤ 0x800000000000
part_few n glyphs h = omega (arith, length-take n glyphs)

pub fitting_few :
    (ranges : List ℕ) (width : ℕ) (label part : List ℕ) →
    part ≡ fitting_part ranges width label →
    length label ≤ 0x100000000 →
    length part ≤ 0x800000000000
unfolding glyph.fit_prefix
fitting_few ranges width label part e h = rw e (part_few (glyph.fit_count label ranges (label_room width)) label (omega arith))

-- Those that were counted, written side by side.
pub until_inked :
    (v : Window) (ranges : List ℕ) (close x y : ℕ) (glyphs part : List ℕ) (tint : Tint) (c after : Canvas) →
    part ≡ glyphs_until ranges close x glyphs →
    after ≡ ink_window v ranges (tinted tint (text ranges x y part)) c →
    after ≡ ink_window v ranges (tinted tint (text_until ranges close x y glyphs)) c
until_inked v ranges close x y glyphs part tint c after e d = rw (until_is_text ranges close x y glyphs, ← e) d

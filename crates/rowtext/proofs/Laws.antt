-- Cells in their colours, and rows, written one after the other, over plain variables.
use native.Mathlib.Omega.{arith}
use native.Mathlib.Numerals.{add-one}
use native.Mathlib.Nat.{mul-le-mul_left, mul-suc}
use Prim.Native.Nat.{ℕ, suc, ◌+◌, ◌*◌, ◌-◌, ◌≤◌, ◌<◌}
use mathlib.Core.Path.{◌≡◌, refl, sym, ap, ◌∙◌}
use mathlib.Core.List.{List, [], ◌∷◌, ◌++◌}
use lib.ListN.{length, get_or, take, drop, drop_of_length-le}
use lib.Seq.{drop-cons, drop-drop, get_or-drop}
use borrow.Author.Tests.{ne_eqb, eq-eqb}
use Rattle.ground.specs.Each.{numbers, each}
use Rattle.cell.specs.OneCell.{read}
use Rattle.std.specs.Prelude.{Option, None, Some}
use Rattle.shapes.specs.Shapes.{shape_of}
use Rattle.utf8.specs.Utf8.{utf8, written_at}
use Rattle.utf8.proofs.Written.{Put, put_nothing, put_both, put_as, fits_first, fits_then, LeftOf, all_left, left_fits, piece_less, last_put}
use Rattle.sequence.specs.Sequence.{sequence}
use Rattle.rowtext.specs.Text.{feed}
use Rattle.rowtext.specs.Coloured.{change_to, shape_coloured, colour_after, coloured_from, coloured_row, row_at, band_text}

-- a change of colour

module _ (before colour : ℕ) where
  pub no_change : before ≡ colour → change_to before colour ≡ []
  unfolding change_to
  no_change e = rw (eq-eqb _ _ e)

  pub a_change : (before ≡ colour → ⊥) → change_to before colour ≡ sequence colour
  unfolding change_to
  a_change n = rw (ne_eqb _ _ n)

-- a change of colour and what is written after it
module _ (at before colour : ℕ) (text whole start : List ℕ) (e : whole ≡ change_to before colour ++ text) (fits : at + length whole ≤ length start) where
  both_fit : at + length (change_to before colour ++ text) ≤ length start
  both_fit = rw e at fits

  pub change_fits : at + length (change_to before colour) ≤ length start
  change_fits = fits_first at _ (change_to before colour) text both_fit

  pub text_fits : (begin : ℕ) → begin ≡ at + length (change_to before colour) → begin + length text ≤ length start
  text_fits begin p = fits_then at _ (change_to before colour) text both_fit begin p

  pub text_put :
      (begin end : ℕ) (out after : List ℕ) → Put at (change_to before colour) start begin out → Put begin text out end after → Put at whole start end after
  text_put begin end out after p q =
      rw e (put_both at begin end (change_to before colour) text start out after (omega (arith, fits)) p q)

-- what is written of a character, and at the end of a row, is a change of colour and a text after it

pub of_character : (before colour ch : ℕ) → shape_coloured before colour (Some ch) ≡ change_to before colour ++ utf8 ch
unfolding shape_coloured
of_character before colour ch = refl

pub of_end : (before : ℕ) → coloured_from before [] [] ≡ change_to before 0 ++ (feed ∷ [])
unfolding coloured_from
of_end before = refl

-- a cell, by its shape
module _ (w before colour : ℕ) (s : Option ℕ) (p : s ≡ shape_of (read w)) where
  pub nothing_shown : s ≡ None → (shape_coloured before colour (shape_of (read w)) ≡ []) × (colour_after before colour (shape_of (read w)) ≡ before)
  unfolding shape_coloured colour_after
  nothing_shown e = rw (sym p ∙ e) (refl, refl)

  pub character_shown :
      (ch : ℕ) → s ≡ Some ch →
      (shape_coloured before colour (shape_of (read w)) ≡ shape_coloured before colour (Some ch)) × (colour_after before colour (shape_of (read w)) ≡ colour)
  unfolding colour_after
  character_shown ch e = rw (sym p ∙ e) (refl, refl)

  pub character_fits :
      (ch at room : ℕ) → s ≡ Some ch → at + length (shape_coloured before colour (shape_of (read w))) ≤ room →
      at + length (shape_coloured before colour (Some ch)) ≤ room
  character_fits ch at room e fits = rw (character_shown ch e).0 at fits

-- the cells from x on: the first, and those after it
cells_left :
    (now x : ℕ) (row colours : List ℕ) → x < length row →
    coloured_from now (drop x row) (drop x colours)
    ≡ shape_coloured now (get_or colours x 0) (shape_of (read (get_or row x 0)))
    ++ coloured_from (colour_after now (get_or colours x 0) (shape_of (read (get_or row x 0)))) (drop (x + 1) row) (drop (x + 1) colours)
unfolding coloured_from
cells_left now x row colours h =
    let zeroth : get_or (drop x colours) 0 0 ≡ get_or colours x 0 = get_or-drop x colours 0 0 ∙ ap (λ (n : ℕ). get_or colours n 0) (omega arith) in
    let rest : drop 1 (drop x colours) ≡ drop (x + 1) colours = drop-drop 1 x colours in
    rw (drop-cons row x 0 h, zeroth, rest, add-one x)

-- no cell is left: the end of the row
none_left : (now x : ℕ) (row colours : List ℕ) → length row ≤ x → coloured_from now (drop x row) (drop x colours) ≡ coloured_from now [] []
unfolding coloured_from
none_left now x row colours h = rw (drop_of_length-le row h)

-- A turn of the loop over a row: the cells from x on are left.
module _ (at : ℕ) (row colours start : List ℕ) (fits : at + length (coloured_row row colours) ≤ length start) (now x end : ℕ) (out : List ℕ) (same : length out ≡ length start)
    (i : LeftOf at (coloured_row row colours) start end (coloured_from now (drop x row) (drop x colours)) out) where
  abbrev cell : ℕ → List ℕ
  cell tint = shape_coloured now tint (shape_of (read (get_or row x 0)))

  left_room : end + length (coloured_from now (drop x row) (drop x colours)) ≤ length out
  left_room = left_fits at (coloured_row row colours) start end _ out i fits same

  pub cell_fits : (tint : ℕ) → tint ≡ get_or colours x 0 → x < length row → end + length (cell tint) ≤ length out
  cell_fits tint t h = rw t (fits_first end _ (cell (get_or colours x 0)) _ (rw (cells_left now x row colours h) at left_room))

  pub cell_less :
      (tint next then : ℕ) (after : List ℕ) → tint ≡ get_or colours x 0 → x < length row →
      Put end (cell tint) out next after → then ≡ colour_after now tint (shape_of (read (get_or row x 0))) →
      LeftOf at (coloured_row row colours) start next (coloured_from then (drop (x + 1) row) (drop (x + 1) colours)) after
  cell_less tint next then after t h p e =
      rw (e, t)
      (piece_less at (coloured_row row colours) start end next _ (cell (get_or colours x 0)) _ out after i (cells_left now x row colours h) (omega (arith, left_room)) (rw t at p))

  pub end_fits : length row ≤ x → end + length (coloured_from now [] []) ≤ length out
  end_fits h = rw (none_left now x row colours h) at left_room

  pub row_put : (next : ℕ) (after : List ℕ) → length row ≤ x → Put end (coloured_from now [] []) out next after → Put at (coloured_row row colours) start next after
  row_put next after h p =
      last_put at (coloured_row row colours) start end next _ out after i (put_as end next _ _ out after (none_left now x row colours h) p)

-- A turn of the loop over a band: the rows from r on are left.
module _ (width rows : ℕ) (cells colours start : List ℕ) (fits : length (band_text width rows cells colours) ≤ length start) (r end : ℕ) (out : List ℕ) (same : length out ≡ length start) where
  abbrev row_of : ℕ → List ℕ
  row_of k = coloured_row (row_at width cells k) (row_at width colours k)

  abbrev row : List ℕ
  row = coloured_row (take width (drop (width * r) cells)) (take width (drop (width * r) colours))

  rows_left : r < rows → each (numbers r (rows - r)) row_of ≡ row ++ each (numbers (r + 1) (rows - (r + 1))) row_of
  unfolding each numbers
  rows_left h =
      let one : rows - r ≡ suc (rows - (r + 1)) = omega arith in
      rw (one, add-one r)

  module _ (i : LeftOf 0 (band_text width rows cells colours) start end (each (numbers r (rows - r)) row_of) out) where
    left_here : end + length (each (numbers r (rows - r)) row_of) ≤ length out
    left_here = left_fits 0 (band_text width rows cells colours) start end _ out i (omega (arith, fits)) same

    pub row_fits : r < rows → end + length row ≤ length out
    row_fits h = fits_first end _ row _ (rw (rows_left h) at left_here)

    pub row_less :
        (next : ℕ) (after : List ℕ) → r < rows → Put end row out next after →
        LeftOf 0 (band_text width rows cells colours) start next (each (numbers (r + 1) (rows - (r + 1))) row_of) after
    row_less next after h p =
        piece_less 0 (band_text width rows cells colours) start end next _ row _ out after i (rows_left h) (omega (arith, left_here)) p

    pub band_put : rows ≤ r → (end ≡ length (band_text width rows cells colours)) × (out ≡ written_at 0 (band_text width rows cells colours) start)
    unfolding each numbers
    band_put h =
        let none : rows - r ≡ 0 = omega arith in
        let all = last_put 0 (band_text width rows cells colours) start end end _ out out i (put_nothing end out _ (rw none)) in
        (omega (arith, all.0), all.1)

-- at first all rows are left
pub no_row_yet :
    (width rows : ℕ) (cells colours start : List ℕ) →
    LeftOf 0 (band_text width rows cells colours) start 0 (each (numbers 0 (rows - 0)) (λ k. coloured_row (row_at width cells k) (row_at width colours k))) start
unfolding band_text
no_row_yet width rows cells colours start = let all : rows - 0 ≡ rows = omega arith in rw all (all_left 0 (band_text width rows cells colours) start)

-- a row of the cells is inside them
pub row_inside : (width rows r room : ℕ) → r < rows → width * rows ≤ room → width * r + width ≤ room
row_inside width rows r room h fits =
    let more : width * suc r ≤ width * rows = mul-le-mul_left width (omega arith) in
    let sum : width * suc r ≡ width * r + width = mul-suc width r in
    omega arith

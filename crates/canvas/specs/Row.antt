-- "One cell", the part about neighbours: a cell put into a row, and a stroke, a marker and a glyph at a column of it. A row is the list of its cells; a
-- column past its end reads as empty and is not written.
use Rattle.std.specs.Prelude.{ℕ, ◌+◌, ◌-◌, Bool, true, false, cond, ◌&&◌, List, length, get_or, set, eqb, ltb}
use Rattle.cell.specs.declared.Arms.{Arms}
use Rattle.cell.specs.declared.MarkerKind.{MarkerKind}
use Rattle.cell.specs.declared.Dir.{Dir}
use Rattle.cell.specs.declared.Parts.{Parts}
use Rattle.cell.specs.declared.Parts.TheVariants.{Empty, Text, Continuation, Stroke, Marker}
use Rattle.cell.specs.OneCell.{pack, read, painted_stroke, painted_marker, painted_text}
use Rattle.glyph.specs.Width.{width_of}

abbrev pub space : ℕ
space = 0x20

-- a wide lead is a text of width 2, by the image's own ranges
abbrev pub lead_parts : Parts → List ℕ → Bool
lead_parts Empty ranges = false
lead_parts (Text ch) ranges = eqb (width_of ranges ch) 2
lead_parts Continuation ranges = false
lead_parts (Stroke arms) ranges = false
lead_parts (Marker kind dir dashed) ranges = false

abbrev pub continuation_parts : Parts → Bool
continuation_parts Empty = false
continuation_parts (Text ch) = false
continuation_parts Continuation = true
continuation_parts (Stroke arms) = false
continuation_parts (Marker kind dir dashed) = false

unfoldable pub is_wide_lead : ℕ → List ℕ → Bool
is_wide_lead cell ranges = lead_parts (read cell) ranges

unfoldable pub is_continuation : ℕ → Bool
is_continuation cell = continuation_parts (read cell)

-- "Overwriting a wide lead empties its continuation"
unfoldable pub empty_continuation : List ℕ → List ℕ → ℕ → List ℕ
empty_continuation row ranges x =
    cond (is_wide_lead (get_or row x 0) ranges && is_continuation (get_or row (x + 1) 0))
    (set row (x + 1) (pack Empty))
    row

-- "overwriting a continuation by another cell turns its lead into a space"
unfoldable pub blank_lead : List ℕ → List ℕ → ℕ → List ℕ
blank_lead row ranges x =
    cond (is_continuation (get_or row x 0) && (ltb 0 x && is_wide_lead (get_or row (x - 1) 0) ranges))
    (set row (x - 1) (pack (Text space)))
    row

-- "Putting an equal cell does nothing."
unfoldable pub put : List ℕ → List ℕ → ℕ → ℕ → List ℕ
put row ranges x new =
    cond (eqb (get_or row x 0) new) row
    (set (blank_lead (empty_continuation row ranges x) ranges x) x new)

-- a stroke and a marker at a column

unfoldable pub stroke_row : List ℕ → List ℕ → ℕ → Arms → List ℕ
stroke_row row ranges x arms = put row ranges x (painted_stroke (get_or row x 0) arms)

unfoldable pub marker_row : List ℕ → List ℕ → ℕ → MarkerKind → Dir → Bool → List ℕ
marker_row row ranges x kind dir dashed = put row ranges x (painted_marker (get_or row x 0) kind dir dashed)

unfoldable pub letter_row : List ℕ → List ℕ → ℕ → ℕ → List ℕ
letter_row row ranges x ch = put row ranges x (painted_text (get_or row x 0) ch)

-- "width 2 in the last column paints a space, elsewhere lead and continuation"
unfoldable pub wide_row : List ℕ → List ℕ → ℕ → ℕ → List ℕ
wide_row row ranges x ch =
    cond (ltb (x + 1) (length row))
    (put (letter_row row ranges x ch) ranges (x + 1) (pack Continuation))
    (letter_row row ranges x space)

-- a glyph at a column: "Width 0 paints nothing"
unfoldable pub text_row : List ℕ → List ℕ → ℕ → ℕ → List ℕ
text_row row ranges x ch =
    cond (eqb (width_of ranges ch) 0) row
    (cond (eqb (width_of ranges ch) 2) (wide_row row ranges x ch) (letter_row row ranges x ch))

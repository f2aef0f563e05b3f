-- "Placed labels": when one paints, and what it makes.
use Rattle.std.specs.Prelude.{ℕ, Bool, not, cond, ◌&&◌, List, [], ◌∷◌, ◌++◌, Option, Some, None}
use Rattle.image.specs.declared.LabelPolicy.{LabelPolicy}
use Rattle.image.specs.declared.LabelPolicy.TheVariants.{Geometric, AvoidNodeRows}
use Rattle.image.specs.declared.PlacedLabel.{PlacedLabel}
use Rattle.image.specs.declared.Span.{Span}
use Rattle.rows.specs.Spots.{Spot}
use Rattle.frame.specs.Frames.{text}

-- "`"`, all glyphs, `"`"
abbrev pub quoted : List ℕ → List ℕ
quoted glyphs = 0x22 ∷ glyphs ++ 0x22 ∷ []

-- "Geometric paints if placeable; AvoidNodeRows also needs no node in the row."
abbrev pub paints_under : LabelPolicy → PlacedLabel → Bool
paints_under Geometric p = p.placeable
paints_under AvoidNodeRows p = p.placeable && not p.row_has_node

-- "An edge that has no label present paints nothing for it." The label is the edge's, and the glyphs are those of its span.
unfoldable pub placed_label_spots : LabelPolicy → List ℕ → PlacedLabel → Option Span → List ℕ → List Spot
placed_label_spots policy ranges p None glyphs = []
placed_label_spots policy ranges p (Some span) glyphs =
    cond (paints_under policy p) (text ranges p.x p.y (quoted glyphs)) []

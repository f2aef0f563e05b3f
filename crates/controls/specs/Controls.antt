-- Code 13: "Values 0000 to 001F and 007F to 009F are no longer glyphs", place "the first such glyph word".
use Rattle.std.specs.Prelude.{ℕ, ◌≤◌, ◌<◌, Bool, not, ◌&&◌, ◌||◌, List, ◌⊎◌, leb}
use Rattle.ground.specs.Judged.{Judged}
use Rattle.layout.specs.declared.Table.{Table}
use Rattle.layout.specs.Layout.{glyph_value}
use Rattle.layout.specs.Tables.{field}
use Rattle.elements.specs.Records.{judged_records}

-- "0000 to 001F and 007F to 009F"
unfoldable pub is_control : ℕ → Bool
is_control value = leb value 0x1F || (leb 0x7F value && leb value 0x9F)

-- every word of the glyph table, whether a label uses it or not
unfoldable pub controls_judged : List ℕ → Table → List Judged
controls_judged image glyphs = judged_records glyphs (λ k. not (is_control (field image glyphs k glyph_value)))

-- The same in words.

abbrev pub Control : ℕ → Type 0
Control value = (value ≤ 0x1F) ⊎ ((0x7F ≤ value) × (value ≤ 0x9F))

-- what an image keeps that code 13 does not refuse
abbrev pub NoControls : List ℕ → Table → Type 0
NoControls image glyphs = (k : ℕ) → k < glyphs.count → Control (field image glyphs k glyph_value) → ⊥

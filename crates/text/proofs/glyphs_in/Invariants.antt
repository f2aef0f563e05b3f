-- `glyphs_in` writes glyphs side by side into a row. The invariant: with those ahead, the row and the column come to the whole.
use Prim.Native.Nat.{◌+◌, ◌-◌, ◌*◌, ◌≤◌}
use mathlib.Core.Path.{◌≡◌}
use lib.ListN.{drop}
use Rattle.glyph.specs.Fitting.{columns_of}
use Rattle.text.specs.Text.{text_cells}
use Rattle.text.proofs.glyphs_in.Given as goal

abbrev pub invariant-loop-ch : goal.invariant-loop-ch
invariant-loop-ch l =
    (l.column ≤ l.x + 2 * l.ch-index)
    × (l.column + columns_of (drop l.ch-index l.glyphs) l.ranges ≡ l.x + columns_of l.glyphs l.ranges)
    × (text_cells l.ranges l.column (drop l.ch-index l.glyphs) l.row ≡ text_cells l.ranges l.x l.glyphs l.initial.row)

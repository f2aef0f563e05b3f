-- For the proofs alone: what the code finds of a thing.
use Rattle.std.specs.Prelude.{ℕ, ◌≤◌, ◌<◌, List, ◌≡◌, Option}
use Rattle.glyph.specs.Width.{width_of}
use Rattle.layout.specs.declared.Tables.{Tables}
use Rattle.image.specs.declared.ElementKind.{ElementKind}
use Rattle.image.specs.declared.ElementKind.TheVariants as kind
use Rattle.rows.specs.declared.Rows.{Rows}
use Rattle.rows.specs.Window.{touched_rows}
use Rattle.flow.specs.declared.Reach.{Reach}
use Rattle.things.specs.Things.{sheet_of, ranges_of, thing_touches, edge_runs_at}

-- the opening bracket of a simple node has a width
abbrev pub Bracket : List ℕ → Tables → Type 0
Bracket image ts = 0 < width_of (ranges_of image ts) 0x5B

-- rows are those that thing k of a kind touches, from the first to the last (for the bracket's sake where that has a width)
pub record Touched (kind : ElementKind) (image : List ℕ) (ts : Tables) (k : ℕ) (r : Option Rows) : Type 0 where
  pub rows : Bracket image ts → r ≡ touched_rows (sheet_of image) (thing_touches kind image ts k)

-- what edge k touches, and its runs
pub record EdgeReach (image : List ℕ) (ts : Tables) (k : ℕ) (r : Reach) : Type 0 where
  pub touched : Touched kind.Edge image ts k r.rows
  pub runs : r.runs ≡ edge_runs_at image ts k
  pub few : r.runs ≤ 0x10000000000

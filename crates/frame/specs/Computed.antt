-- For the proofs alone: how the code finds the rows. (`node-rows` and `subgraph-rows` of the proofs: they are the first and the last that the spots touch.)
use Rattle.std.specs.Prelude.{ℕ, ◌+◌, ◌-◌, Bool, cond, ◌&&◌, List, ltb, Option, None, Some}
use Rattle.ground.specs.Each.{some}
use Rattle.glyph.specs.Width.{width_of}
use Rattle.image.specs.declared.Point.{Point}
use Rattle.image.specs.declared.Node.{Node}
use Rattle.image.specs.declared.Subgraph.{Subgraph}
use Rattle.rows.specs.declared.Rows.{Rows}
use Rattle.rows.specs.declared.Window.{Window}
use Rattle.rows.specs.Window.{join_rows}
use Rattle.rows.specs.Computed.{window_rows}
use Rattle.frame.specs.declared.Look.{Look}
use Rattle.frame.specs.declared.Look.TheVariants.{Hidden, Dummy, Box, Simple, Blank}
use Rattle.frame.specs.Frames.{fitting_part}
use Rattle.frame.specs.Nodes.{look_of}
use Rattle.frame.specs.Subgraphs.{has_border, has_label, label_row}

-- the rows of a box, so many from y on
abbrev pub box_rows : Window → ℕ → ℕ → Option Rows
box_rows w y height = window_rows w y (y + height - 1)

-- the row of a self-loop
abbrev pub loop_rows : Window → Option Point → Option Rows
loop_rows w None = None
loop_rows w (Some p) = window_rows w p.y p.y

-- a box touches each of its rows, the simple look its first row alone, a blank node none; all but dummies also their self-loop's row
unfoldable pub look_rows : Window → Node → Look → Option Rows
look_rows w n Hidden = None
look_rows w n Dummy = window_rows w n.y n.y
look_rows w n Box = join_rows (box_rows w n.y n.height) (loop_rows w n.self_loop)
look_rows w n Simple = join_rows (window_rows w n.y n.y) (loop_rows w n.self_loop)
look_rows w n Blank = loop_rows w n.self_loop

unfoldable pub node_rows : Window → Bool → Node → Option Rows
node_rows w show n = look_rows w n (look_of show n)

-- some glyph has width 1 or 2
unfoldable pub any_ink : List ℕ → List ℕ → Bool
any_ink ranges glyphs = some glyphs (λ ch. ltb 0 (width_of ranges ch))

-- a subgraph's label makes such a glyph
unfoldable pub label_inks : List ℕ → Subgraph → List ℕ → Bool
label_inks ranges s label = has_label s label && any_ink ranges (fitting_part ranges s.width label)

abbrev pub border_rows : Window → Subgraph → Option Rows
border_rows w s = cond (has_border s) (box_rows w s.y s.height) None

abbrev pub label_rows : Window → List ℕ → Subgraph → List ℕ → Option Rows
label_rows w ranges s label = cond (label_inks ranges s label) (window_rows w (label_row s) (label_row s)) None

unfoldable pub subgraph_rows : Window → List ℕ → Subgraph → List ℕ → Option Rows
subgraph_rows w ranges s label = join_rows (border_rows w s) (label_rows w ranges s label)

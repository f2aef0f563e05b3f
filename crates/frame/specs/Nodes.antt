-- "Nodes": how a node looks, and what it makes.
use Rattle.std.specs.Prelude.{ℕ, ◌+◌, ◌-◌, max, Bool, false, cond, ◌&&◌, List, [], ◌∷◌, ◌++◌, leb, Option, Some, None}
use Rattle.cell.specs.declared.Weight.TheVariants.{Light}
use Rattle.cell.specs.declared.MarkerKind.TheVariants as markerKind
use Rattle.cell.specs.declared.Dir.TheVariants.{Up}
use Rattle.glyph.specs.Width.{width_of}
use Rattle.image.specs.declared.NodeKind.{NodeKind}
use Rattle.image.specs.declared.NodeKind.TheVariants as kind
use Rattle.image.specs.declared.Point.{Point}
use Rattle.image.specs.declared.Node.{Node}
use Rattle.rows.specs.Spots.{Spot, at, marker, glyph}
use Rattle.frame.specs.declared.Look.{Look}
use Rattle.frame.specs.declared.Look.TheVariants.{Hidden, Dummy, Box, Simple, Blank}
use Rattle.frame.specs.Frames.{box, fitting_text}

-- "Boxed with height ≥ 3 and width ≥ 2: Light box .. Boxed otherwise, and simple: `[` always"
abbrev pub box_or_simple : ℕ → ℕ → Look
box_or_simple width height = cond (leb 3 height && leb 2 width) Box Simple

-- "Dummy: a Dummy Up marker if shown, nothing else."
abbrev pub look_for : Bool → NodeKind → ℕ → ℕ → Look
look_for show kind.Simple width height = Simple
look_for show kind.Boxed width height = box_or_simple width height
look_for show kind.Blank width height = Blank
look_for show kind.Dummy width height = cond show Dummy Hidden

unfoldable pub look_of : Bool → Node → Look
look_of show n = look_for show n.kind n.width n.height

-- "a Dummy Up marker"
abbrev pub dummy_spots : Node → List Spot
dummy_spots n = at n.x n.y (marker markerKind.Dummy Up false) ∷ []

-- "Light box, fitting part at x + 2, y + 1"
abbrev pub boxed_spots : List ℕ → Node → List ℕ → List Spot
boxed_spots ranges n glyphs =
    box Light n.x n.y n.width n.height ++ fitting_text ranges n.x (n.y + 1) n.width glyphs

-- "the closing column x + max(width,1) − 1"
abbrev pub closing : Node → ℕ
closing n = n.x + max n.width 1 - 1

-- "glyphs until the first that would reach the closing column"
unfoldable pub text_until : List ℕ → ℕ → ℕ → ℕ → List ℕ → List Spot
text_until ranges close x y [] = []
text_until ranges close x y (ch ∷ rest) =
    cond (leb (x + width_of ranges ch) close)
    (at x y (glyph ch) ∷ text_until ranges close (x + width_of ranges ch) y rest)
    []

-- "`[` always; glyphs until ..; `]` there if width ≥ 2"
abbrev pub simple_spots : List ℕ → Node → List ℕ → List Spot
simple_spots ranges n glyphs =
    at n.x n.y (glyph 0x5B)
    ∷ text_until ranges (closing n) (n.x + 1) n.y glyphs
    ++ cond (leb 2 n.width) (at (closing n) n.y (glyph 0x5D) ∷ []) []

-- "Then the self-loop marker, Up."
abbrev pub loop_spots : Option Point → List Spot
loop_spots None = []
loop_spots (Some p) = at p.x p.y (marker markerKind.SelfLoop Up false) ∷ []

-- what a node makes that looks so: a dummy "nothing else", and "Blank: none", all but dummies then their self-loop
unfoldable pub look_spots : List ℕ → Node → List ℕ → Look → List Spot
look_spots ranges n glyphs Hidden = []
look_spots ranges n glyphs Dummy = dummy_spots n
look_spots ranges n glyphs Box = boxed_spots ranges n glyphs ++ loop_spots n.self_loop
look_spots ranges n glyphs Simple = simple_spots ranges n glyphs ++ loop_spots n.self_loop
look_spots ranges n glyphs Blank = loop_spots n.self_loop

-- what a node makes, with dummies shown or not; the glyphs are its label's
abbrev pub node_spots : List ℕ → Bool → Node → List ℕ → List Spot
node_spots ranges show n glyphs = look_spots ranges n glyphs (look_of show n)

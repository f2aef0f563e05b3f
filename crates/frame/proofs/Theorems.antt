-- The rows that the code computes are the first and the last that the spots of a node and of a subgraph touch.
use native.Mathlib.Omega.{arith}
use Rattle.std.specs.Prelude.{Option, Some, None}
use Prim.Native.Nat.{ℕ, ◌+◌, ◌-◌, ◌≤◌, ◌<◌}
use mathlib.Core.Bool.{Bool, true, false, ◌&&◌}
use mathlib.Core.List.{List}
use mathlib.Core.Path.{◌≡◌, refl, sym, ◌∙◌}
use lib.Dec.{leb, ltb}
use borrow.Author.Tests.{leb-true}
use Rattle.ground.proofs.Each.{by_bool, and_left, and_right}
use Rattle.cell.specs.OneCell.{weight_number}
use Rattle.glyph.specs.Width.{width_of}
use Rattle.image.specs.declared.NodeKind.{NodeKind}
use Rattle.image.specs.declared.NodeKind.TheVariants as kind
use Rattle.image.specs.declared.Point.{Point}
use Rattle.image.specs.declared.Node.{Node}
use Rattle.image.specs.declared.Subgraph.{Subgraph}
use Rattle.rows.specs.declared.Window.{Window}
use Rattle.rows.specs.Spots.{inks, touches}
use Rattle.rows.specs.Window.{touched_rows}
use Rattle.rows.specs.Computed.{window_rows}
use Rattle.rows.proofs.Spots.{rows_nil, rows_one, rows_append}
use Rattle.frame.specs.declared.Look.TheVariants.{Box, Simple}
use Rattle.frame.specs.Nodes.{look_for, look_of, boxed_spots, simple_spots, loop_spots, look_spots, node_spots}
use Rattle.frame.specs.Subgraphs.{has_border, has_label, border_spots, subgraph_label_spots, subgraph_spots}
use Rattle.frame.specs.Computed.{loop_rows, look_rows, node_rows, label_inks, border_rows, label_rows, subgraph_rows}
use Rattle.frame.proofs.Spots.{rows_box, rows_text, rows_framed, rows_simple}

-- a subgraph that has a border is tall enough for one
border_tall : (s : Subgraph) → has_border s ≡ true → 2 ≤ s.height
unfolding has_border
border_tall s e =
    leb-true 2 s.height
    (and_right (leb 2 s.width) (leb 2 s.height) (and_right (ltb 0 (weight_number s.border)) (leb 2 s.width && leb 2 s.height) e))

module _ (w : Window) (ranges : List ℕ) where
  loop_rows_lem : (at : Option Point) → touched_rows w (touches ranges (loop_spots at)) ≡ loop_rows w at
  unfolding inks
  loop_rows_lem None = rows_nil w ranges
  loop_rows_lem (Some p) = rows_one w ranges p.x p.y _ refl

  -- the label's row lies in the box
  boxed_rows :
      (n : Node) (glyphs : List ℕ) → 3 ≤ n.height →
      touched_rows w (touches ranges (boxed_spots ranges n glyphs)) ≡ window_rows w n.y (n.y + n.height - 1)
  boxed_rows n glyphs h = rows_framed ranges w _ _ _ _ _ _ _ _ (omega arith) (omega arith)

  -- each look
  module _ (n : Node) (glyphs : List ℕ) (bracket : 0 < width_of ranges 0x5B) where
    as_box : 3 ≤ n.height → look_rows w n Box ≡ touched_rows w (touches ranges (look_spots ranges n glyphs Box))
    unfolding look_rows look_spots
    as_box tall =
        rw (rows_append w ranges (boxed_spots ranges n glyphs) (loop_spots n.self_loop), boxed_rows n glyphs tall, loop_rows_lem n.self_loop)

    as_simple : look_rows w n Simple ≡ touched_rows w (touches ranges (look_spots ranges n glyphs Simple))
    unfolding look_rows look_spots
    as_simple =
        rw (rows_append w ranges (simple_spots ranges n glyphs) (loop_spots n.self_loop), rows_simple ranges w n glyphs bracket, loop_rows_lem n.self_loop)

    look_rows_lem :
        (show : Bool) (k : NodeKind) →
        look_rows w n (look_for show k n.width n.height) ≡ touched_rows w (touches ranges (look_spots ranges n glyphs (look_for show k n.width n.height)))
    unfolding inks look_rows look_spots
    look_rows_lem show kind.Simple = as_simple
    look_rows_lem show kind.Boxed =
        by_bool (leb 3 n.height && leb 2 n.width)
        (λ t. rw t (as_box (leb-true 3 n.height (and_left (leb 3 n.height) (leb 2 n.width) t))))
        (λ t. rw t as_simple)
    look_rows_lem show kind.Blank = sym (loop_rows_lem n.self_loop)
    look_rows_lem true kind.Dummy = sym (rows_one w ranges _ _ _ refl)
    look_rows_lem false kind.Dummy = sym (rows_nil w ranges)

  -- A node's rows, where the bracket has a width (code 5 gives it that).
  pub node_rows_lem :
      (show : Bool) (n : Node) (glyphs : List ℕ) → 0 < width_of ranges 0x5B →
      node_rows w show n ≡ touched_rows w (touches ranges (node_spots ranges show n glyphs))
  unfolding node_rows look_of
  node_rows_lem show n glyphs bracket = look_rows_lem n glyphs bracket show n.kind

  border_rows_lem : (s : Subgraph) → touched_rows w (touches ranges (border_spots s)) ≡ border_rows w s
  unfolding border_spots
  border_rows_lem s =
      by_bool (has_border s)
      (λ t. rw t (rows_box ranges _ _ _ _ _ (omega (arith, border_tall s t)) w))
      (λ t. rw t (rows_nil w ranges))

  label_rows_lem : (s : Subgraph) (glyphs : List ℕ) → touched_rows w (touches ranges (subgraph_label_spots ranges s glyphs)) ≡ label_rows w ranges s glyphs
  unfolding subgraph_label_spots label_inks
  label_rows_lem s glyphs =
      by_bool (has_label s glyphs)
      (λ t. rw t (rows_text ranges w _ _ _))
      (λ t. rw t (rows_nil w ranges))

  -- A subgraph's rows.
  pub subgraph_rows_lem :
      (s : Subgraph) (glyphs : List ℕ) →
      subgraph_rows w ranges s glyphs ≡ touched_rows w (touches ranges (subgraph_spots ranges s glyphs))
  unfolding subgraph_rows
  subgraph_rows_lem s glyphs = sym (rows_append w ranges (border_spots s) (subgraph_label_spots ranges s glyphs) ∙ rw (border_rows_lem s, label_rows_lem s glyphs))

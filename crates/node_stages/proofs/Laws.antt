-- A placed label and a node painted, and passed over; and that all glyphs of a placed label stand on its row.
use Rattle.std.specs.Prelude.{Option, Some, None}
use Prim.Native.Nat.{ℕ, ◌+◌, ◌≤◌, ◌<◌}
use mathlib.Core.Bool.{Bool, true, false, not}
use mathlib.Core.List.{List}
use mathlib.Core.Path.{◌≡◌, refl, sym, ◌∙◌}
use lib.Dec.{eqb}
use lib.ListN.{get_or}
use Rattle.ground.specs.Each.{some}
use Rattle.ground.proofs.Each.{by_bool}
use Rattle.layout.specs.declared.Tables.{Tables}
use Rattle.image.specs.declared.Header.{Header}
use Rattle.image.specs.declared.Node.{Node}
use Rattle.image.specs.declared.Span.{Span}
use Rattle.image.specs.declared.Edge.{Edge}
use Rattle.image.specs.declared.LabelPolicy.{LabelPolicy}
use Rattle.image.specs.declared.PlacedLabel.{PlacedLabel}
use Rattle.image.specs.declared.ElementKind.TheVariants as kind
use Rattle.image.specs.Records.{header_of, node_at, edge_at, placed_label_at, element_kind_number}
use Rattle.image.specs.Spans.{span_words}
use Rattle.elements.specs.Slots.{slot_of}
use Rattle.rows.specs.declared.Window.{Window}
use Rattle.rows.specs.Spots.{touches}
use Rattle.rows.specs.Window.{in_window}
use Rattle.rows.proofs.Windows.{clash}
use Rattle.frame.specs.Frames.{text}
use Rattle.frame.specs.Nodes.{node_spots}
use Rattle.frame.specs.PlacedLabels.{quoted, paints_under, placed_label_spots}
use Rattle.frame.proofs.Spots.{text_off}
use Rattle.things.specs.Things.{ranges_of, label_glyphs, thing_touches}
use Rattle.window.specs.Writes.{Write, Canvas, tinted, colour_tint}
use Rattle.window.specs.Window.{ink_window}
use Rattle.window.proofs.Rows.{within}
use Rattle.window.proofs.Theorems.{ink_none, untouched}
use Rattle.picture.specs.Writes.{edge_label_glyphs, writes_of_label, placed_label_writes, node_writes}
use Rattle.stage.specs.Staged.{Staged, stage_left, Unmarked}
use Rattle.stage.proofs.Laws.{unmarked_touches, stage_next}

-- all glyphs of a placed label stand on its row
label_off :
    (ranges : List ℕ) (p : PlacedLabel) (y : ℕ) → (p.y ≡ y → ⊥) →
    (policy : LabelPolicy) (l : Option Span) (glyphs : List ℕ) →
    touches ranges (placed_label_spots policy ranges p l glyphs) y ≡ false
unfolding placed_label_spots touches some
label_off ranges p y off policy None glyphs = refl
label_off ranges p y off policy (Some span) glyphs =
    by_bool (paints_under policy p) (λ t. rw t (text_off ranges p.x p.y (quoted glyphs) y off)) (λ t. rw t)

module _ (image : List ℕ) (ts : Tables) (v : Window) (marks ranges : List ℕ) (staged : Staged image ts v marks ranges) (k : ℕ) where
  -- Writes into the window.
  abbrev Inked : List Write → Canvas → Canvas → Type 0
  Inked writes c d = d ≡ ink_window v ranges writes c

  -- A node that is marked, and one that is not.

  pub node_painted :
      (n : Node) (label : List ℕ) (h : Header) (c d : Canvas) →
      n ≡ node_at image ts.nodes k →
      label ≡ span_words image ts.glyphs n.label →
      h ≡ header_of image →
      Inked (tinted (colour_tint 0) (node_spots ranges h.show_dummies n label)) c d →
      Inked (node_writes image ts k) c d
  unfolding node_writes
  node_painted n label h c d e l s p = rw (← staged.read, ← e, ← l, ← s) p

  pub node_passed :
      (number : ℕ) (marked : Bool) (c : Canvas) →
      k < ts.nodes.count →
      number ≡ element_kind_number kind.Node →
      marked ≡ not (eqb (get_or marks (slot_of number k) 0) 0) →
      marked ≡ false →
      Inked (node_writes image ts k) c c
  unfolding node_writes thing_touches
  node_passed number marked c there n m f =
      rw staged.read
      (sym (untouched v (ranges_of image ts) (colour_tint 0)
      (node_spots (ranges_of image ts) (header_of image).show_dummies (node_at image ts.nodes k)
      (label_glyphs image ts (node_at image ts.nodes k).label)) c
      (unmarked_touches image ts v marks ranges kind.Node number k marked staged there n m f)))

  -- A placed label on a row that the window lacks, one whose edge has no label, one that the policy leaves out, and one that is painted.

  pub label_elsewhere :
      (row : ℕ) (has : Bool) (c : Canvas) →
      row ≡ (placed_label_at image ts.labels k).y →
      has ≡ in_window v row →
      has ≡ false →
      Inked (placed_label_writes image ts k) c c
  unfolding placed_label_writes
  label_elsewhere row has c is asked lacks =
      let p = placed_label_at image ts.labels k in
      let e = edge_at image ts.edges p.edge in
      let glyphs = edge_label_glyphs image ts e.label in
      let off : (y : ℕ) → v.first ≤ y → y < v.first + v.rows → p.y ≡ y → ⊥ =
      λ y f l same. let there : in_window v row ≡ true = rw (is, same) (within v y f l) in clash there (sym asked ∙ lacks) in
      rw staged.read
      (sym (untouched v (ranges_of image ts) (colour_tint e.label_colour)
      (placed_label_spots (header_of image).policy (ranges_of image ts) p e.label glyphs) c
      (λ y f l. label_off (ranges_of image ts) p y (off y f l) (header_of image).policy e.label glyphs)))

  module _
      (p : PlacedLabel) (edge : ℕ) (e : Edge) (c : Canvas)
      (at : p ≡ placed_label_at image ts.labels k) (i : edge ≡ p.edge) (of : e ≡ edge_at image ts.edges edge) where
    writes_of : writes_of_label image ts p e ≡ placed_label_writes image ts k
    unfolding placed_label_writes
    writes_of = rw (← at, ← i, ← of)

    pub label_absent : e.label ≡ None → Inked (placed_label_writes image ts k) c c
    unfolding placed_label_spots
    label_absent none = rw (← writes_of, none) (sym (ink_none v ranges c))

    module _
        (h : Header) (span : Span) (paints : Bool)
        (s : h ≡ header_of image) (present : e.label ≡ Some span) (asked : paints ≡ paints_under h.policy p) where
      pub label_left_out : paints ≡ false → Inked (placed_label_writes image ts k) c c
      unfolding placed_label_spots
      label_left_out refused = rw (← writes_of, present, ← s, ← asked, refused) (sym (ink_none v ranges c))

      pub label_painted :
          (x y : ℕ) (glyphs : List ℕ) (d : Canvas) →
          paints ≡ true →
          x ≡ p.x →
          y ≡ p.y →
          glyphs ≡ span_words image ts.glyphs span →
          Inked (tinted (colour_tint e.label_colour) (text ranges x y (quoted glyphs))) c d →
          Inked (placed_label_writes image ts k) c d
      unfolding placed_label_spots
      label_painted x y glyphs d allowed x-is y-is g inked =
          rw (← writes_of, present, ← s, ← asked, allowed, ← staged.read, ← g, ← x-is, ← y-is) inked

-- a node, and those after it that are not marked
pub nodes_next :
    (image : List ℕ) (ts : Tables) (v : Window) (marks ranges : List ℕ) (number k next : ℕ) (c after whole : Canvas) →
    Staged image ts v marks ranges →
    k < ts.nodes.count → k + 1 ≤ next → next ≤ ts.nodes.count →
    number ≡ element_kind_number kind.Node →
    Unmarked marks number (k + 1) next →
    stage_left v ranges (node_writes image ts) k ts.nodes.count c ≡ whole →
    after ≡ ink_window v ranges (node_writes image ts k) c →
    stage_left v ranges (node_writes image ts) next ts.nodes.count after ≡ whole
nodes_next image ts v marks ranges number k next c after whole staged h p q n none left d =
    stage_next v ranges (node_writes image ts) ts.nodes.count k next c after whole h p q left d
    (λ i there a b. node_passed image ts v marks ranges staged i number false after there n (rw (none.none i a b)) refl)

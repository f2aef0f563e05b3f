-- The stages of subgraphs: a border and a label painted, or passed over; and a turn of each stage's loop.
use Prim.Native.Nat.{ℕ, ◌+◌, ◌≤◌, ◌<◌}
use mathlib.Core.Bool.{Bool, false, not}
use mathlib.Core.List.{List}
use mathlib.Core.Path.{◌≡◌, refl, sym, ap, ◌∙◌}
use lib.Dec.{eqb}
use lib.ListN.{get_or}
use Rattle.ground.proofs.Each.{or_left, or_right}
use Rattle.layout.specs.declared.Tables.{Tables}
use Rattle.image.specs.declared.ElementKind.TheVariants as kind
use Rattle.image.specs.declared.Subgraph.{Subgraph}
use Rattle.image.specs.Records.{element_kind_number, subgraph_at}
use Rattle.image.specs.Spans.{span_words}
use Rattle.elements.specs.Slots.{slot_of}
use Rattle.rows.specs.declared.Window.{Window}
use Rattle.rows.specs.Spots.{touches}
use Rattle.rows.proofs.Spots.{touches_append}
use Rattle.frame.specs.Subgraphs.{border_spots, subgraph_label_spots}
use Rattle.things.specs.Things.{thing_touches, ranges_of, label_glyphs}
use Rattle.window.specs.declared.Tint.{Tint}
use Rattle.window.specs.Writes.{Canvas, tinted, keep_tint}
use Rattle.window.specs.Window.{ink_window}
use Rattle.window.proofs.Theorems.{untouched}
use Rattle.picture.specs.Writes.{border_tint, border_writes, subgraph_label_writes}
use Rattle.stage.specs.Staged.{Staged, stage_left, Unmarked}
use Rattle.stage.proofs.Laws.{unmarked_touches, stage_next}

module _ (image : List ℕ) (ts : Tables) (v : Window) (ranges : List ℕ) (k : ℕ) (c : Canvas) where
  pub border_painted :
      (s : Subgraph) (tint : Tint) (after : Canvas) →
      after ≡ ink_window v ranges (tinted tint (border_spots s)) c →
      s ≡ subgraph_at image ts.subgraphs k → tint ≡ border_tint s →
      after ≡ ink_window v ranges (border_writes image ts k) c
  unfolding border_writes
  border_painted s tint after i e d =
      i
      ∙ ap (λ (t : Tint). ink_window v ranges (tinted t (border_spots s)) c) d
      ∙ ap (λ (r : Subgraph). ink_window v ranges (tinted (border_tint r) (border_spots r)) c) e

  pub label_painted :
      (s : Subgraph) (label : List ℕ) (after : Canvas) →
      after ≡ ink_window v ranges (tinted keep_tint (subgraph_label_spots ranges s label)) c →
      ranges ≡ ranges_of image ts → s ≡ subgraph_at image ts.subgraphs k → label ≡ span_words image ts.glyphs s.label →
      after ≡ ink_window v ranges (subgraph_label_writes image ts k) c
  unfolding subgraph_label_writes
  label_painted s label after i r e l =
      i
      ∙ ap (λ (g : List ℕ). ink_window v ranges (tinted keep_tint (subgraph_label_spots ranges s g)) c) l
      ∙ ap (λ (q : List ℕ). ink_window v ranges (tinted keep_tint (subgraph_label_spots q s (label_glyphs image ts s.label))) c) r
      ∙ ap (λ (t : Subgraph). ink_window v ranges (tinted keep_tint (subgraph_label_spots (ranges_of image ts) t (label_glyphs image ts t.label))) c) e

module _ (image : List ℕ) (ts : Tables) (v : Window) (marks ranges : List ℕ) (k : ℕ) (c : Canvas) (staged : Staged image ts v marks ranges) where
  -- one that is not marked makes no ink in the window
  module _ (number : ℕ) (marked : Bool) (there : k < ts.subgraphs.count) (n : number ≡ element_kind_number kind.Subgraph)
      (m : marked ≡ not (eqb (get_or marks (slot_of number k) 0) 0)) (f : marked ≡ false) where
    none : (y : ℕ) → v.first ≤ y → y < v.first + v.rows → thing_touches kind.Subgraph image ts k y ≡ false
    none = unmarked_touches image ts v marks ranges kind.Subgraph number k marked staged there n m f

    abbrev subgraph : Subgraph
    subgraph = subgraph_at image ts.subgraphs k

    abbrev glyphs : List ℕ
    glyphs = label_glyphs image ts subgraph.label

    both :
        (y : ℕ) → v.first ≤ y → y < v.first + v.rows →
        (touches (ranges_of image ts) (border_spots subgraph) y ≡ false) × (touches (ranges_of image ts) (subgraph_label_spots (ranges_of image ts) subgraph glyphs) y ≡ false)
    unfolding thing_touches
    both y p q =
        let e = sym (touches_append (ranges_of image ts) (border_spots subgraph) (subgraph_label_spots (ranges_of image ts) subgraph glyphs) y) ∙ none y p q in
        (or_left (touches (ranges_of image ts) (border_spots subgraph) y) _ e, or_right (touches (ranges_of image ts) (border_spots subgraph) y) _ e)

    pub border_passed : c ≡ ink_window v ranges (border_writes image ts k) c
    unfolding border_writes
    border_passed =
        sym (rw staged.read (untouched v (ranges_of image ts) (border_tint subgraph) (border_spots subgraph) c (λ y p q. (both y p q).0)))

    pub label_passed : c ≡ ink_window v ranges (subgraph_label_writes image ts k) c
    unfolding subgraph_label_writes
    label_passed =
        sym (rw staged.read (untouched v (ranges_of image ts) keep_tint (subgraph_label_spots (ranges_of image ts) subgraph glyphs) c (λ y p q. (both y p q).1)))

-- a subgraph, and those after it that are not marked
module _ (image : List ℕ) (ts : Tables) (v : Window) (marks ranges : List ℕ) (number k next : ℕ) (c after whole : Canvas)
    (staged : Staged image ts v marks ranges) (h : k < ts.subgraphs.count) (p : k + 1 ≤ next) (q : next ≤ ts.subgraphs.count)
    (n : number ≡ element_kind_number kind.Subgraph) (none : Unmarked marks number (k + 1) next) where
  pub borders_next :
      stage_left v ranges (border_writes image ts) k ts.subgraphs.count c ≡ whole →
      after ≡ ink_window v ranges (border_writes image ts k) c →
      stage_left v ranges (border_writes image ts) next ts.subgraphs.count after ≡ whole
  borders_next left d =
      stage_next v ranges (border_writes image ts) ts.subgraphs.count k next c after whole h p q left d
      (λ i there a b. border_passed image ts v marks ranges i after staged number false there n (rw (none.none i a b)) refl)

  pub labels_next :
      stage_left v ranges (subgraph_label_writes image ts) k ts.subgraphs.count c ≡ whole →
      after ≡ ink_window v ranges (subgraph_label_writes image ts k) c →
      stage_left v ranges (subgraph_label_writes image ts) next ts.subgraphs.count after ≡ whole
  labels_next left d =
      stage_next v ranges (subgraph_label_writes image ts) ts.subgraphs.count k next c after whole h p q left d
      (λ i there a b. label_passed image ts v marks ranges i after staged number false there n (rw (none.none i a b)) refl)

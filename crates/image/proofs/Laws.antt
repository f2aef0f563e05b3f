-- Laws over plain values, which the functions' proofs and the theorems cite.
use Rattle.std.specs.Prelude.{Option, Some, None}
use Prim.Native.Nat.{ℕ, ◌+◌, ◌*◌, ◌-◌, ◌≤◌, ◌<◌}
use native.Mathlib.Nat.{add_assoc, add-mul}
use native.Mathlib.Omega.{arith}
use mathlib.Core.Path.{◌≡◌, refl}
use mathlib.Core.Bool.{Bool, true, false, and-false}
use mathlib.Core.List.{List}
use lib.ListN.{length, take, drop}
use borrow.Author.Tests.{le-leb, lt-leb}
use Rattle.layout.specs.declared.Table.{Table}
use Rattle.layout.specs.Layout.{avoid_node_rows, show_dummies, node_kind_step, node_kinds, self_loop, path_step, paths, flow_x, reversed, start_marker, end_marker}
use Rattle.layout.specs.Layout.{weight_step, weights, label_present, border_step, borders, inside_bottom, placeable, row_has_node}
use Rattle.layout.specs.Tables.{table_end, record_at, header, bits, flag, word, field}
use Rattle.layout.proofs.Laws.{record_inside}
use Rattle.cell.specs.declared.Weight.{Weight}
use Rattle.cell.specs.OneCell.{weight_of}
use Rattle.image.specs.declared.LabelPolicy.{LabelPolicy}
use Rattle.image.specs.declared.Header.{Header}
use Rattle.image.specs.declared.Span.{Span}
use Rattle.image.specs.declared.NodeKind.{NodeKind}
use Rattle.image.specs.declared.Point.{Point}
use Rattle.image.specs.declared.Node.{Node}
use Rattle.image.specs.declared.Path.{Path}
use Rattle.image.specs.declared.Path.TheVariants.{Direct, Corner, SideChannel, MultiSegment, Orthogonal, Spline}
use Rattle.image.specs.declared.FlowAxis.{FlowAxis}
use Rattle.image.specs.declared.Style.{Style}
use Rattle.image.specs.declared.Edge.{Edge}
use Rattle.image.specs.declared.LabelPosition.{LabelPosition}
use Rattle.image.specs.declared.Subgraph.{Subgraph}
use Rattle.image.specs.declared.PlacedLabel.{PlacedLabel}
use Rattle.image.specs.declared.ElementKind.{ElementKind}
use Rattle.image.specs.declared.Element.{Element}
use Rattle.image.specs.Records.{policy_of, header_of, node_kind_of, self_loop_of, node_at, path_of, axis_of, edge_label_of, edge_at}
use Rattle.image.specs.Records.{position_of, subgraph_at, placed_label_at, element_kind_of, element_at}
use Rattle.image.specs.Spans.{span_words, path_span}
use Rattle.image.specs.Parts.{four_at, style_of, Bounded}

-- what lies between the beginnings of two records
pub records_between : (t : Table) (k n : ℕ) → record_at t (k + n) - record_at t k ≡ n * t.size
records_between t k n = omega (arith, add-mul k n t.size)

-- the words of a span that is inside its table, and its table inside the image
span_inside_lem :
    (image : List ℕ) (t : Table) (k n : ℕ) →
    k + n ≤ t.count →
    table_end t ≤ length image →
    take (record_at t (k + n) - record_at t k) (drop (record_at t k) image) ≡ span_words image t (record { start = k; count = n })
unfolding span_words
span_inside_lem image t k n p q = simp (le-leb _ _ p, le-leb _ _ q) (rw (records_between t k n))

module _ (t : Table) (span : Span) (size : ℕ) where
  pub bounds_inside :
      (k n a e : ℕ) →
      k ≡ span.start →
      n ≡ span.count →
      a ≡ record_at t k →
      e ≡ record_at t (k + n) →
      k + n ≤ t.count →
      table_end t ≤ size →
      Bounded t span size (record { first = a; end = e })
  bounds_inside k n a e hk hn ha he p q = record {
    ordered = omega (arith, add-mul k n t.size);
    inside = omega (arith, record_inside t (k + n) p);
    words = λ image s. rw (ha, he, hk, hn) (span_inside_lem image t span.start span.count (omega arith) (omega arith));
  }

  -- a span that leaves its table has no words
  pub span_outside : t.count < span.start + span.count → Bounded t span size (record { first = 0; end = 0 })
  unfolding span_words
  span_outside p = record { ordered = omega arith; inside = omega arith; words = λ image s. simp (lt-leb _ _ p) }

  -- nor has one whose table leaves the image
  pub table_outside : size < table_end t → Bounded t span size (record { first = 0; end = 0 })
  unfolding span_words
  table_outside p = record { ordered = omega arith; inside = omega arith; words = λ image s. rw s (simp (lt-leb _ _ p, and-false)) }

-- a path without points has the empty span
pub no_points : (p : Path) → ((span : Span) (offset : ℕ) → p ≡ MultiSegment span offset → ⊥) → ((span : Span) → p ≡ Orthogonal span → ⊥) → record { start = 0; count = 0 } ≡ path_span p
no_points Direct k o = refl
no_points (Corner bend) k o = refl
no_points (SideChannel channel start end) k o = refl
no_points (MultiSegment span offset) k o = absurd (k span offset refl)
no_points (Orthogonal span) k o = absurd (o span refl)
no_points Spline k o = refl

-- the label of an edge, by the flag that says whether it has one
module _ (flags : ℕ) (span : Span) (test : Bool) (e : test ≡ flag flags label_present) where
  pub label_present_lem : test ≡ true → Some span ≡ edge_label_of (flag flags label_present) span
  unfolding edge_label_of
  label_present_lem h = rw (← e, h)

  pub label_absent : test ≡ false → None ≡ edge_label_of (flag flags label_present) span
  unfolding edge_label_of
  label_absent h = rw (← e, h)

-- the header and each record, of the words and the parts by which it is read

pub four_of :
    (image : List ℕ) (table : Table) (k from first second third fourth : ℕ) →
    first ≡ field image table k from →
    second ≡ field image table k (from + 1) →
    third ≡ field image table k (from + 2) →
    fourth ≡ field image table k (from + 3) →
    (first, second, third, fourth) ≡ four_at image table k from
unfolding four_at
four_of image table k from first second third fourth e1 e2 e3 e4 = rw (e1, e2, e3, e4)

-- the same of words that are all there
pub four_there :
    (image : List ℕ) (table : Table) (k from start : ℕ) →
    start ≡ record_at table k →
    (word image (start + from), word image (start + from + 1), word image (start + from + 2), word image (start + from + 3))
    ≡ four_at image table k from
unfolding four_at
four_there image table k from start e =
    let at = record_at table k in
    rw (e, add_assoc at from 1, add_assoc at from 2, add_assoc at from 3)

pub header_of_lem :
    (image : List ℕ) (words : ℕ × ℕ × ℕ × ℕ) (policy : LabelPolicy) (dummies : Bool) →
    words ≡ four_at image header 0 0 →
    dummies ≡ flag words.3 show_dummies →
    policy ≡ policy_of (flag words.3 avoid_node_rows) →
    ◌≡◌ {A = Header} (record {
      width = words.0;
      height = words.1;
      run_capacity = words.2;
      policy = policy;
      show_dummies = dummies;
    }) (header_of image)
unfolding header_of four_at
header_of_lem image words policy dummies w d p = rw (d, p, w)

pub style_is :
    (flags number : ℕ) (axis : FlowAxis) (back from to : Bool) (weight : Weight) →
    number ≡ bits flags weight_step weights →
    weight ≡ weight_of number →
    axis ≡ axis_of (flag flags flow_x) →
    back ≡ flag flags reversed →
    from ≡ flag flags start_marker →
    to ≡ flag flags end_marker →
    record { flow_axis = axis; reversed = back; start_marker = from; end_marker = to; weight = weight } ≡ style_of flags
unfolding style_of
style_is flags number axis back from to weight n e p q r t = rw (e, n, p, q, r, t)

module _ (image : List ℕ) (table : Table) (k : ℕ) where
  pub node_of :
      (place rest : ℕ × ℕ × ℕ × ℕ) (loop_y_lem number : ℕ) (kind : NodeKind) (loop : Option Point) →
      kind ≡ node_kind_of number →
      number ≡ bits rest.2 node_kind_step node_kinds →
      loop ≡ self_loop_of (flag rest.2 self_loop) rest.3 loop_y_lem →
      place ≡ four_at image table k 0 →
      rest ≡ four_at image table k 4 →
      loop_y_lem ≡ field image table k 8 →
      ◌≡◌ {A = Node} (record {
        x = place.0;
        y = place.1;
        width = place.2;
        height = place.3;
        label = record { start = rest.0; count = rest.1 };
        kind = kind;
        self_loop = loop;
      }) (node_at image table k)
  unfolding node_at four_at
  node_of place rest loop_y_lem number kind loop n b l p r y = rw (l, n, b, p, r, y)

  pub edge_of :
      (ends way look : ℕ × ℕ × ℕ × ℕ) (path : Path) (style : Style) (label : Option Span) →
      label ≡ edge_label_of (flag way.0 label_present) (record { start = look.0; count = look.1 }) →
      path ≡ path_of (bits way.0 path_step paths) way.1 way.2 way.3 →
      style ≡ style_of way.0 →
      ends ≡ four_at image table k 0 →
      way ≡ four_at image table k 4 →
      look ≡ four_at image table k 8 →
      ◌≡◌ {A = Edge} (record {
        from_x = ends.0;
        from_y = ends.1;
        to_x = ends.2;
        to_y = ends.3;
        path = path;
        flow_axis = style.flow_axis;
        reversed = style.reversed;
        start_marker = style.start_marker;
        end_marker = style.end_marker;
        weight = style.weight;
        label = label;
        colour = look.2;
        label_colour = look.3;
      }) (edge_at image table k)
  unfolding edge_at four_at style_of
  edge_of ends way look path style label l p s e w o = rw (l, p, s, e, w, o)

  pub subgraph_of :
      (place rest : ℕ × ℕ × ℕ × ℕ) (number : ℕ) (border : Weight) (position : LabelPosition) →
      number ≡ bits rest.2 border_step borders →
      border ≡ weight_of number →
      position ≡ position_of (flag rest.2 inside_bottom) →
      place ≡ four_at image table k 0 →
      rest ≡ four_at image table k 4 →
      ◌≡◌ {A = Subgraph} (record {
        x = place.0;
        y = place.1;
        width = place.2;
        height = place.3;
        label = record { start = rest.0; count = rest.1 };
        border = border;
        position = position;
        colour = rest.3;
      }) (subgraph_at image table k)
  unfolding subgraph_at four_at
  subgraph_of place rest number border position n b q p r = rw (q, b, n, p, r)

  pub placed_label_of :
      (words : ℕ × ℕ × ℕ × ℕ) (fits row : Bool) →
      words ≡ four_at image table k 0 →
      row ≡ flag words.3 row_has_node →
      fits ≡ flag words.3 placeable →
      ◌≡◌ {A = PlacedLabel} (record {
        edge = words.0;
        x = words.1;
        y = words.2;
        placeable = fits;
        row_has_node = row;
      }) (placed_label_at image table k)
  unfolding placed_label_at four_at
  placed_label_of words fits row w r f = rw (r, f, w)

  pub element_of :
      (words : ℕ × ℕ × ℕ × ℕ) (kind : ElementKind) →
      kind ≡ element_kind_of words.0 →
      words ≡ four_at image table k 0 →
      ◌≡◌ {A = Element} (record {
        kind = kind;
        index = words.1;
        first_row = words.2;
        last_row = words.3;
      }) (element_at image table k)
  unfolding element_at four_at
  element_of words kind e w = rw (e, w)

-- What all ink keeps, where the strokes and the glyphs have a property each, each row of a picture has: so each cell is the packing of valid parts, where the
-- glyphs are Unicode's.
use Rattle.std.specs.Prelude.{Option, None, Some}
use native.Mathlib.Omega.{arith}
use Rattle.std.specs.Prelude.{Option, Some, None}
use Prim.Native.Nat.{ℕ, ◌+◌, ◌*◌, ◌≤◌, ◌<◌}
use mathlib.Core.Bool.{Bool, true, false, ◌&&◌}
use mathlib.Core.List.{List}
use mathlib.Core.Logic.{⊎_elim}
use mathlib.Core.Path.{◌≡◌, refl}
use lib.Dec.{leb, eqb}
use lib.ListN.{length, take, drop, replicate, length-take, length-replicate, get_or-replicate}
use lib.Seq.{get_or-take, get_or-drop}
use borrow.Author.Tests.{leb-true, ltb-true}
use Rattle.ground.specs.Each.{between, each}
use Rattle.ground.proofs.Each.{and_left, cond_holds}
use Rattle.cell.specs.declared.Arms.{Arms}
use Rattle.cell.specs.declared.Weight.{Weight}
use Rattle.cell.specs.declared.MarkerKind.{MarkerKind}
use Rattle.cell.specs.declared.Dir.{Dir}
use Rattle.cell.specs.declared.Weight.TheVariants.{Light}
use Rattle.cell.specs.OneCell.{weight_number, horizontal, vertical, Packed}
use Rattle.cell.proofs.Theorems.{empty_packed}
use Rattle.glyph.specs.Width.{width_of}
use Rattle.glyph.specs.Ranges.{Fixed, space, quote, opening, closing}
use Rattle.glyph.specs.Fitting.{fit_count, fit_prefix}
use Rattle.canvas.specs.Cells.{AllPacked}
use Rattle.canvas.proofs.Kept.{CodePoint, AnyStroke, AllCells, KeptByInk}
use Rattle.canvas.proofs.Theorems.{packings_kept}
use Rattle.layout.specs.declared.Tables.{Tables}
use Rattle.layout.specs.Layout.{glyph_size, glyph_value}
use Rattle.layout.specs.Tables.{word, table_end, record_at, field, tables_of}
use Rattle.image.specs.declared.Span.{Span}
use Rattle.image.specs.declared.Node.{Node}
use Rattle.image.specs.declared.Edge.{Edge}
use Rattle.image.specs.declared.LabelPolicy.{LabelPolicy}
use Rattle.image.specs.declared.Point.{Point}
use Rattle.image.specs.declared.Subgraph.{Subgraph}
use Rattle.image.specs.declared.PlacedLabel.{PlacedLabel}
use Rattle.image.specs.Records.{edge_at, placed_label_at}
use Rattle.image.specs.Spans.{span_inside, span_words}
use Rattle.rows.specs.Spots.{Ink, stroke, marker, glyph, Spot, at}
use Rattle.flow.specs.declared.Head.{Head}
use Rattle.flow.specs.declared.Line.{Line}
use Rattle.flow.specs.declared.Piece.{Piece}
use Rattle.flow.specs.Flow.{corner}
use Rattle.flow.specs.Pieces.{arrow_or, line_ink, piece_spots}
use Rattle.path.specs.Pieces.{edge_spots}
use Rattle.frame.specs.declared.Look.{Look}
use Rattle.frame.specs.declared.Look.TheVariants.{Hidden, Dummy, Box, Simple, Blank}
use Rattle.frame.specs.Frames.{corners, across, down, box_of, text}
use Rattle.frame.specs.Subgraphs.{has_border, border_spots, has_label, subgraph_label_spots}
use Rattle.frame.specs.Nodes.{text_until, simple_spots, loop_spots, look_spots}
use Rattle.frame.specs.PlacedLabels.{paints_under, placed_label_spots}
use Rattle.things.specs.Things.{ranges_of, label_glyphs}
use Rattle.window.specs.declared.Tint.{Tint}
use Rattle.window.specs.Writes.{Write, tinted, colour_tint, ink_on, ink_cells, row_after, Canvas, ink_row}
use Rattle.refusals.specs.Accepted.{Keeps}
use Rattle.runs.specs.Runs.{flush_row}
use Rattle.picture.specs.Writes.{border_writes, edge_writes, edge_label_glyphs, writes_of_label, placed_label_writes, node_writes, subgraph_label_writes}
use Rattle.picture.specs.Writes.{borders, edges, runs, placed_labels, nodes, subgraph_labels}
use Rattle.picture.specs.Picture.{width, row_painted}
use Rattle.runs.proofs.Theorems.{flush_keeps}
use Rattle.picture.proofs.AllOf.{AllOf, none, more, all_append, all_each, all_numbers, all_map, all_when, all_take, all_get_d}
use Rattle.picture.proofs.Strokes.{MadeOf, along_row, along_column, at_corner, PieceOf, nothing, a_vertical, a_horizontal, a_run, a_mark}
use Rattle.picture.proofs.Strokes.{PiecesOf, edge_pieces, run_weight}
use Rattle.picture.proofs.Strokes as piece

-- A glyph is one word.
pub glyph_size_lem : (image : List ℕ) → (tables_of image).glyphs.size ≡ glyph_size
unfolding tables_of
glyph_size_lem image = refl

-- every glyph of an image is a code point
abbrev pub CodePoints : List ℕ → Type 0
CodePoints image = (k : ℕ) → k < (tables_of image).glyphs.count → CodePoint (field image (tables_of image).glyphs k glyph_value)

-- The rule of a glyph sees to it.
pub code_points : (image : List ℕ) → Keeps image → CodePoints image
code_points image keeps k h = ⊎_elim (λ low. omega arith) (λ high. high.1) (keeps.tables.fields.glyphs k h).value

-- the strokes that are made of a weight have a property
abbrev pub MadeHave : (Arms → Type 0) → Weight → Type 0
MadeHave S w = (arms : Arms) → MadeOf w arms → S arms

-- Ink whose strokes and glyphs have a property each: the strokes of every weight that is not 0, and the characters that painting itself writes, among them.
module _ (S : Arms → Type 0) (Q : ℕ → Type 0)
    (weighted : (w : Weight) → 0 < weight_number w → MadeHave S w) (fixed : (ch : ℕ) → Fixed ch → Q ch) where
  data GoodInk : Ink → Type 0 where
    a_stroke : {arms : Arms} → S arms → GoodInk (stroke arms)
    a_marker : {kind : MarkerKind} {dir : Dir} {dashed : Bool} → GoodInk (marker kind dir dashed)
    a_glyph : {ch : ℕ} → Q ch → GoodInk (glyph ch)

  data GoodSpot : Spot → Type 0 where
    spot : {s : Spot} → GoodInk s.ink → GoodSpot s

  abbrev GoodWrite : Write → Type 0
  GoodWrite w = GoodSpot w.spot

  tinted_good : (t : Tint) {spots : List Spot} → AllOf GoodSpot spots → AllOf GoodWrite (tinted t spots)
  tinted_good t none = none
  tinted_good t (more a p) = more a (tinted_good t p)

  -- What things make.

  module _ (w : Weight) (have : MadeHave S w) where
    corner_good : {x y : ℕ} (down right : Bool) → GoodSpot (at x y (stroke (corner w down right)))
    corner_good down right = spot (a_stroke (have _ (at_corner down right)))

    corners_good : (left right top bottom : ℕ) → AllOf GoodSpot (corners w left right top bottom)
    corners_good left right top bottom =
        more (corner_good true true) (more (corner_good true false) (more (corner_good false true) (more (corner_good false false) none)))

    across_good : (left right y : ℕ) → AllOf GoodSpot (across w left right y)
    across_good left right y = all_map (λ x. at x y (stroke (horizontal w))) (between left right) (λ x. spot (a_stroke (have _ along_row)))

    down_good : (x top bottom : ℕ) → AllOf GoodSpot (down w x top bottom)
    down_good x top bottom = all_map (λ y. at x y (stroke (vertical w))) (between top bottom) (λ y. spot (a_stroke (have _ along_column)))

    box_good : (left right top bottom : ℕ) → AllOf GoodSpot (box_of w left right top bottom)
    unfolding box_of
    box_good left right top bottom =
        all_append
        (all_append
        (all_append (all_append (corners_good left right top bottom) (across_good left right top)) (across_good left right bottom))
        (down_good left top bottom))
        (down_good right top bottom)

  text_good : (ranges : List ℕ) (x y : ℕ) {glyphs : List ℕ} → AllOf Q glyphs → AllOf GoodSpot (text ranges x y glyphs)
  unfolding text
  text_good ranges x y none = none
  text_good ranges x y (more {a = ch} a p) = more (spot (a_glyph a)) (text_good ranges (x + width_of ranges ch) y p)

  until_good : (ranges : List ℕ) (close x y : ℕ) {glyphs : List ℕ} → AllOf Q glyphs → AllOf GoodSpot (text_until ranges close x y glyphs)
  unfolding text_until
  until_good ranges close x y none = none
  until_good ranges close x y (more {a = ch} a p) =
      all_when (leb (x + width_of ranges ch) close) (λ e. more (spot (a_glyph a)) (until_good ranges close (x + width_of ranges ch) y p))

  fitting_good : (ranges : List ℕ) (columns : ℕ) {glyphs : List ℕ} → AllOf Q glyphs → AllOf Q (fit_prefix glyphs ranges columns)
  unfolding fit_prefix
  fitting_good ranges columns {glyphs} p = all_take (fit_count glyphs ranges columns) p

  border_good : (s : Subgraph) → AllOf GoodSpot (border_spots s)
  unfolding border_spots has_border
  border_good s = all_when (has_border s) (λ e. box_good s.border (weighted s.border (ltb-true _ _ (and_left _ _ e))) _ _ _ _)

  subgraph_label_good : (ranges : List ℕ) (s : Subgraph) {glyphs : List ℕ} → AllOf Q glyphs → AllOf GoodSpot (subgraph_label_spots ranges s glyphs)
  unfolding subgraph_label_spots
  subgraph_label_good ranges s {glyphs} p = all_when (has_label s glyphs) (λ e. text_good ranges _ _ (fitting_good ranges _ p))

  arrow_good : (dashed : Bool) (h : Option Head) (n : ℕ) {other : Ink} → GoodInk other → GoodInk (arrow_or dashed h n other)
  arrow_good dashed None n p = p
  arrow_good dashed (Some h) n p = cond_holds GoodInk (eqb h.place n) a_marker p

  line_good : (dashed : Bool) (l : Line) (arms : Arms) (n : ℕ) → S arms → GoodInk (line_ink dashed l arms n)
  line_good dashed l arms n s = arrow_good dashed l.winner n (arrow_good dashed l.other n (a_stroke s))

  module _ (e : Edge) (have : MadeHave S e.weight) where
    piece_good : {p : Piece} → PieceOf e.weight p → AllOf GoodSpot (piece_spots e p)
    unfolding piece_spots
    piece_good nothing = none
    piece_good (a_vertical {l}) = all_map _ (between l.from l.to) (λ y. spot (line_good e.reversed l _ y (have _ along_column)))
    piece_good (a_horizontal {l}) = all_map _ (between l.from l.to) (λ x. spot (line_good e.reversed l _ x (have _ along_row)))
    piece_good a_run = none
    piece_good (piece.a_stroke made) = more (spot (a_stroke (have _ made))) none
    piece_good a_mark = more (spot a_marker) none

    pieces_good : {ps : List Piece} → PiecesOf e.weight ps → AllOf GoodSpot (each ps (piece_spots e))
    unfolding each
    pieces_good none = none
    pieces_good (more p rest) = all_append (piece_good p) (pieces_good rest)

    edge_good : (points : List ℕ) → AllOf GoodSpot (edge_spots e points)
    unfolding edge_spots
    edge_good points = pieces_good (edge_pieces e points)

  loop_good_lem : (l : Option Point) → AllOf GoodSpot (loop_spots l)
  loop_good_lem None = none
  loop_good_lem (Some p) = more (spot a_marker) none

  simple_good : (ranges : List ℕ) (n : Node) {glyphs : List ℕ} → AllOf Q glyphs → AllOf GoodSpot (simple_spots ranges n glyphs)
  simple_good ranges n p =
      more (spot (a_glyph (fixed 0x5B opening)))
      (all_append (until_good ranges _ _ _ p) (all_when (leb 2 n.width) (λ e. more (spot (a_glyph (fixed 0x5D closing))) none)))

  look_good : (ranges : List ℕ) (n : Node) {glyphs : List ℕ} (l : Look) → AllOf Q glyphs → AllOf GoodSpot (look_spots ranges n glyphs l)
  unfolding look_spots
  look_good ranges n Hidden p = none
  look_good ranges n Dummy p = more (spot a_marker) none
  look_good ranges n Box p =
      all_append (all_append (box_good Light (weighted Light (omega arith)) _ _ _ _) (text_good ranges _ _ (fitting_good ranges _ p))) (loop_good_lem n.self_loop)
  look_good ranges n Simple p = all_append (simple_good ranges n p) (loop_good_lem n.self_loop)
  look_good ranges n Blank p = loop_good_lem n.self_loop

  placed_good :
      (policy : LabelPolicy) (ranges : List ℕ) (p : PlacedLabel) (l : Option Span) {glyphs : List ℕ} → AllOf Q glyphs →
      AllOf GoodSpot (placed_label_spots policy ranges p l glyphs)
  unfolding placed_label_spots
  placed_good policy ranges p None h = none
  placed_good policy ranges p (Some span) h =
      all_when (paints_under policy p)
      (λ e. text_good ranges _ _ (more (fixed 0x22 quote) (all_append h (more (fixed 0x22 quote) none))))

  -- Good writes keep what all ink keeps.
  module _ {ranges : List ℕ} {P : List ℕ → Type 0} (keeps : KeptByInk ranges S Q P) where
    ink_keeps : (x : ℕ) {i : Ink} (row : List ℕ) → GoodInk i → P row → P (ink_on ranges x i row)
    unfolding ink_on
    ink_keeps x row (a_stroke s) p = keeps.strokes row x _ s p
    ink_keeps x row a_marker p = keeps.markers row x _ _ _ p
    ink_keeps x row (a_glyph h) p = keeps.glyphs row x _ h p

    write_keeps : (w : Write) (row : List ℕ) → GoodWrite w → P row → P (ink_cells ranges w row)
    unfolding ink_cells
    write_keeps w row (spot g) p = ink_keeps w.spot.x row g p

    after_keeps : (y : ℕ) {writes : List Write} (row : List ℕ) → AllOf GoodWrite writes → P row → P (row_after (ink_cells ranges) y writes row)
    unfolding row_after
    after_keeps y row none p = p
    after_keeps y row (more {a = w} g q) p =
        after_keeps y _ q (cond_holds P (eqb w.spot.y y) (write_keeps w row g p) p)

    row_keeps : (y : ℕ) {writes : List Write} (row : Canvas) → AllOf GoodWrite writes → P row.cells → P (ink_row ranges y writes row).cells
    unfolding ink_row
    row_keeps y row good p = after_keeps y row.cells good p

  -- Of an image whose edges' strokes and whose glyphs have the properties.
  module _ (image : List ℕ) (ts : Tables) (one : ts.glyphs.size ≡ glyph_size)
      (own : (k : ℕ) → k < ts.edges.count → MadeHave S (edge_at image ts.edges k).weight)
      (good : (k : ℕ) → k < ts.glyphs.count → Q (field image ts.glyphs k glyph_value)) where
    abbrev ranges : List ℕ
    ranges = ranges_of image ts

    glyph_good : (start i : ℕ) → start + i < ts.glyphs.count → Q (word image (record_at ts.glyphs start + i))
    glyph_good start i h =
        let e : record_at ts.glyphs start + i ≡ ts.glyphs.start + (start + i) * ts.glyphs.size + glyph_value
        = rw one (omega arith) in
        rw e (good (start + i) h)

    glyphs_good : (span : Span) → AllOf Q (label_glyphs image ts span)
    unfolding span_words
    glyphs_good span =
        let count = span.count * ts.glyphs.size in
        let rest = drop (record_at ts.glyphs span.start) image in
        all_when (span_inside ts.glyphs span && leb (table_end ts.glyphs) (length image))
        (λ e.
        let inside : span.start + span.count ≤ ts.glyphs.count = leb-true _ _ (and_left _ _ e) in
        all_get_d 0 (take count rest)
        (λ i p.
        let short : i < count = omega (arith, length-take count rest, p) in
        let few : i < span.count = omega (arith, rw one at short) in
        rw (get_or-take count rest i 0 short, get_or-drop (record_at ts.glyphs span.start) image i 0) (glyph_good span.start i (omega arith))))

    label_good : (l : Option Span) → AllOf Q (edge_label_glyphs image ts l)
    label_good None = none
    label_good (Some span) = glyphs_good span

    borders_good : AllOf GoodWrite (borders image ts)
    unfolding border_writes
    borders_good = all_each _ _ (λ k. tinted_good _ (border_good _))

    edges_good : AllOf GoodWrite (edges image ts)
    unfolding edge_writes
    edges_good = all_numbers 0 _ _ (λ k h. tinted_good _ (edge_good _ (own k (omega arith)) _))

    of_label_good : (p : PlacedLabel) (e : Edge) → AllOf GoodWrite (writes_of_label image ts p e)
    of_label_good p e = tinted_good (colour_tint e.label_colour) (placed_good _ ranges p e.label (label_good e.label))

    placed_labels_good : AllOf GoodWrite (placed_labels image ts)
    unfolding placed_label_writes
    placed_labels_good = all_each _ (placed_label_writes image ts) (λ k. of_label_good (placed_label_at image ts.labels k) (edge_at image ts.edges (placed_label_at image ts.labels k).edge))

    nodes_good : AllOf GoodWrite (nodes image ts)
    unfolding node_writes
    nodes_good = all_each _ _ (λ k. tinted_good _ (look_good ranges _ _ (glyphs_good _)))

    subgraph_labels_good : AllOf GoodWrite (subgraph_labels image ts)
    unfolding subgraph_label_writes
    subgraph_labels_good = all_each _ _ (λ k. tinted_good _ (subgraph_label_good ranges _ (glyphs_good _)))

    -- What all ink keeps, and an empty row has, a row of the picture has.
    pub row_has_of : (P : List ℕ → Type 0) → KeptByInk ranges S Q P → P (replicate (width image) 0) → (y : ℕ) → P (row_painted image ts y).cells
    unfolding row_painted flush_row
    row_has_of P keeps empty y =
        row_keeps keeps y _ subgraph_labels_good
        (row_keeps keeps y _ nodes_good
        (row_keeps keeps y _ placed_labels_good
        (flush_keeps ranges P (runs image ts) y
        (λ r x h. keeps.strokes r x _ (weighted _ (run_weight image ts y x h) _ along_row)) _
        (row_keeps keeps y _ edges_good
        (row_keeps keeps y _ borders_good empty)))))

-- The same where the strokes may be any.
pub row_has :
    (Q : ℕ → Type 0) → ((ch : ℕ) → Fixed ch → Q ch) →
    (image : List ℕ) (ts : Tables) → ts.glyphs.size ≡ glyph_size →
    ((k : ℕ) → k < ts.glyphs.count → Q (field image ts.glyphs k glyph_value)) →
    (P : List ℕ → Type 0) → KeptByInk (ranges_of image ts) AnyStroke Q P → P (replicate (width image) 0) →
    (y : ℕ) → P (row_painted image ts y).cells
row_has Q fixed image ts one good P keeps empty y =
    row_has_of AnyStroke Q (λ w h arms made. tt) fixed image ts one (λ k h arms made. tt) good P keeps empty y

-- a property that the empty cell has, every cell of an empty row has
pub empty_row : (C : ℕ → Type 0) → C 0 → (n : ℕ) → AllCells C (replicate n 0)
empty_row C e n k h = rw (get_or-replicate {A = ℕ} n k 0 0 (rw (length-replicate {A = ℕ} n 0) at h)) e

pub fixed_code_point : (ch : ℕ) → Fixed ch → CodePoint ch
fixed_code_point ch space = omega arith
fixed_code_point ch quote = omega arith
fixed_code_point ch opening = omega arith
fixed_code_point ch closing = omega arith

-- So every cell is a packing, where the glyphs are code points.
pub row_of_packings :
    (image : List ℕ) (ts : Tables) → ts.glyphs.size ≡ glyph_size →
    ((k : ℕ) → k < ts.glyphs.count → CodePoint (field image ts.glyphs k glyph_value)) →
    (y : ℕ) → AllPacked (row_painted image ts y).cells
row_of_packings image ts one good y =
    row_has CodePoint fixed_code_point image ts one good AllPacked
    (packings_kept (ranges_of image ts)) (empty_row Packed empty_packed (width image)) y

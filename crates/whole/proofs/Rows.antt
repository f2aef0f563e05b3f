-- Wide characters stay whole under a stroke, a marker and a glyph, and no character of width 0 comes to stand in a row.
use native.Mathlib.Omega.{arith}
use Prim.Native.Nat.{ℕ, ◌+◌, ◌-◌, ◌≤◌, ◌<◌}
use mathlib.Core.Bool.{Bool, true, false}
use mathlib.Core.List.{List}
use mathlib.Core.Path.{◌≡◌, refl, sym, ◌∙◌, ap}
use lib.Dec.{eqb}
use lib.ListN.{length, get_or, replicate}
use borrow.Author.Tests.{eqb-true, eqb-false, lt-ltb, le-ltb}
use Rattle.ground.proofs.Order.{by_order}
use Rattle.ground.proofs.Each.{by_bool}
use Rattle.cell.specs.declared.Parts.{Parts}
use Rattle.cell.specs.declared.Parts.TheVariants.{Empty, Text, Continuation, Stroke, Marker}
use Rattle.cell.specs.declared.Arms.{Arms}
use Rattle.cell.specs.declared.MarkerKind.{MarkerKind}
use Rattle.cell.specs.declared.MarkerKind.TheVariants.{Arrow, SelfLoop, Dummy}
use Rattle.cell.specs.declared.Dir.{Dir}
use Rattle.cell.specs.OneCell.{pack, read, Valid, Packed, heavier_arms, has_double, stem, double_on_marker, stroked, marked, painted_stroke, painted_marker, painted_text}
use Rattle.cell.proofs.Theorems.{pack_read, empty_packed}
use Rattle.glyph.specs.Width.{width_of}
use Rattle.glyph.proofs.Theorems.{width_bound}
use Rattle.canvas.specs.Row.{space, lead_parts, continuation_parts, is_wide_lead, is_continuation, put}
use Rattle.canvas.specs.Row.{stroke_row, marker_row, letter_row, wide_row, text_row}
use Rattle.canvas.specs.Cells.{AllPacked}
use Rattle.canvas.proofs.Kept.{CodePoint, AnyStroke, AllCells, KeptByInk, KeptByCell, at_holds, cells_kept}
use Rattle.canvas.proofs.Laws.{put_equal, text_none}
use Rattle.canvas.proofs.Theorems.{put_length, put_off, packings_kept}
use Rattle.runs.proofs.Steps.{zero_anywhere}
use Rattle.picture.specs.Characters.{parts_at}
use Rattle.picture.proofs.Cells.{empty_row}
use Rattle.picture.proofs.Characters.{Lettered, Letter, letters_kept}
use Rattle.whole.specs.Whole.{WideLead, Continues, Whole, Shown}
use Rattle.whole.proofs.Pairs.{lead, cont, never, pack_lead, pack_cont, cont_inside, put_at, Paired, next_gone, single_paired, double_paired}

-- A stroke leaves the parts, or a stroke.
by_stroked : {P : Type 0} (p : Parts) (new : Arms) → (stroked p new ≡ p → P) → ((a : Arms) → stroked p new ≡ Stroke a → P) → P
unfolding stroked double_on_marker
by_stroked Empty new kept over = over new refl
by_stroked (Text ch) new kept over = by_bool (has_double new) (λ e. over new (rw e)) (λ e. kept (rw e))
by_stroked Continuation new kept over = by_bool (has_double new) (λ e. over new (rw e)) (λ e. kept (rw e))
by_stroked (Stroke old) new kept over = over (heavier_arms old new) refl
by_stroked (Marker Arrow dir dashed) new kept over = by_bool (has_double new) (λ e. over (heavier_arms (stem dir) new) (rw e)) (λ e. kept (rw e))
by_stroked (Marker SelfLoop dir dashed) new kept over = by_bool (has_double new) (λ e. over new (rw e)) (λ e. kept (rw e))
by_stroked (Marker Dummy dir dashed) new kept over = by_bool (has_double new) (λ e. over new (rw e)) (λ e. kept (rw e))

-- A marker leaves the parts, or the marker.
by_marked :
    {P : Type 0} (p : Parts) (kind : MarkerKind) (dir : Dir) (dashed : Bool) →
    (marked p kind dir dashed ≡ p → P) → (marked p kind dir dashed ≡ Marker kind dir dashed → P) → P
unfolding marked
by_marked Empty kind dir dashed kept over = over refl
by_marked (Text ch) kind dir dashed kept over = kept refl
by_marked Continuation kind dir dashed kept over = kept refl
by_marked (Stroke arms) kind dir dashed kept over = over refl
by_marked (Marker k d x) kind dir dashed kept over = over refl

-- The tests in words.

continuation_is : (p : Parts) → continuation_parts p ≡ true → p ≡ Continuation
continuation_is Empty h = cc
continuation_is (Text ch) h = cc
continuation_is Continuation h = refl
continuation_is (Stroke arms) h = cc
continuation_is (Marker kind dir dashed) h = cc

lead_is : (ranges : List ℕ) (p : Parts) → lead_parts p ranges ≡ true → (ch : ℕ) × (p ≡ Text ch) × (width_of ranges ch ≡ 2)
lead_is ranges Empty h = never false h refl
lead_is ranges (Text ch) h = (ch, refl, eqb-true (width_of ranges ch) 2 h)
lead_is ranges Continuation h = never false h refl
lead_is ranges (Stroke arms) h = never false h refl
lead_is ranges (Marker kind dir dashed) h = never false h refl

module _ (row : List ℕ) (x : ℕ) where
  is_continuation_lem : cont row x ≡ true → Continues row x
  unfolding is_continuation
  is_continuation_lem h = continuation_is (parts_at row x) h

  cont_holds : Continues row x → cont row x ≡ true
  unfolding is_continuation
  cont_holds c = rw c

  is_lead : (ranges : List ℕ) → lead ranges row x ≡ true → WideLead ranges row x
  unfolding is_wide_lead
  is_lead ranges h = let l = lead_is ranges (parts_at row x) h in record { ch = l.0; text = l.1; wide = l.2 }

  lead_holds : (ranges : List ℕ) → WideLead ranges row x → lead ranges row x ≡ true
  unfolding is_wide_lead
  lead_holds ranges l = rw (l.text, l.wide)

-- A row is whole exactly where its leads and continuations stand in pairs.
module _ (ranges row : List ℕ) where
  pub whole_of : Paired ranges row → Whole ranges row
  whole_of paired = record {
    followed = λ x l. is_continuation_lem row (x + 1) (paired.pairs x ∙ lead_holds row x ranges l);
    led = λ x c. by_order 0 x
        (λ h. let e : x - 1 + 1 ≡ x = omega arith in
        (h, is_lead row (x - 1) ranges (sym (paired.pairs (x - 1)) ∙ ap (cont row) e ∙ cont_holds row x c)))
        (λ h. let e : 0 ≡ x = omega arith in
        never (cont row 0) (ap (cont row) e ∙ cont_holds row x c) paired.start);
    inside = λ x e l. omega (arith, cont_inside ranges row (x + 1) (paired.pairs x ∙ lead_holds row x ranges l));
  }

  pub paired_of : Whole ranges row → Paired ranges row
  paired_of w = record {
    start = by_bool (cont row 0) (λ c. let h = w.led 0 (is_continuation_lem row 0 c) in absurd (omega arith)) (λ c. c);
    pairs = λ k. by_bool (lead ranges row k)
        (λ l. rw l (cont_holds row (k + 1) (w.followed k (is_lead row k ranges l))))
        (λ l. by_bool (cont row (k + 1))
        (λ c.
        let e : k + 1 - 1 ≡ k = omega arith in
        let h : lead ranges row k ≡ true = rw e at (lead_holds row (k + 1 - 1) ranges (w.led (k + 1) (is_continuation_lem row (k + 1) c)).1) in
        never (lead ranges row k) h l)
        (λ c. c ∙ sym l));
  }

-- Where the space has width 1, ink keeps leads and continuations in pairs.
module _ (ranges : List ℕ) (narrow : width_of ranges space ≡ 1) where
  -- a cell of one column
  one_paired :
      (p : Parts) → Valid p → lead_parts p ranges ≡ false → continuation_parts p ≡ false →
      (row : List ℕ) (x : ℕ) → Paired ranges row → Paired ranges (put row ranges x (pack p))
  one_paired p valid l c row x paired =
      by_order x (length row)
      (λ inside. by_bool (eqb (get_or row x 0) (pack p))
      (λ e. rw (← put_equal row ranges x (pack p) (eqb-true _ _ e)) paired)
      (λ e. single_paired ranges row (put row ranges x (pack p)) x (pack p) (put_at ranges narrow row x (pack p) inside (eqb-false _ _ e))
      (pack_lead ranges p valid ∙ l) (pack_cont p valid ∙ c) paired))
      (λ past. rw (put_off row ranges x (pack p) past) paired)

  module _ (row : List ℕ) (packed : AllPacked row) (paired : Paired ranges row) where
    -- the parts that stand there already
    same_paired : (x : ℕ) (p : Parts) → x < length row → p ≡ parts_at row x → Paired ranges (put row ranges x (pack p))
    same_paired x p inside e = rw (← put_equal row ranges x (pack p) (rw e (sym (pack_read _ (packed x inside))))) paired

    stroke_paired : (x : ℕ) (arms : Arms) → Paired ranges (stroke_row row ranges x arms)
    unfolding stroke_row painted_stroke Valid
    stroke_paired x arms =
        by_order x (length row)
        (λ inside. by_stroked (parts_at row x) arms
        (λ e. same_paired x _ inside e)
        (λ a e. rw e (one_paired (Stroke a) tt refl refl row x paired)))
        (λ past. rw (put_off row ranges x _ past) paired)

    marker_paired : (x : ℕ) (kind : MarkerKind) (dir : Dir) (dashed : Bool) → Paired ranges (marker_row row ranges x kind dir dashed)
    unfolding marker_row painted_marker Valid
    marker_paired x kind dir dashed =
        by_order x (length row)
        (λ inside. by_marked (parts_at row x) kind dir dashed
        (λ e. same_paired x _ inside e)
        (λ e. rw e (one_paired (Marker kind dir dashed) tt refl refl row x paired)))
        (λ past. rw (put_off row ranges x _ past) paired)

    module _ (x ch : ℕ) (valid : CodePoint ch) where
      letter_paired : width_of ranges ch ≡ 1 → Paired ranges (letter_row row ranges x ch)
      unfolding letter_row painted_text Valid
      letter_paired one = one_paired (Text ch) valid (rw one) refl row x paired

      -- A wide glyph with a column to its right.
      module _ (two : width_of ranges ch ≡ 2) (inside : x + 1 < length row) where
        abbrev first : ℕ
        first = pack (Text ch)

        abbrev second : ℕ
        second = pack Continuation

        first_lead : is_wide_lead first ranges ≡ true
        unfolding Valid
        first_lead = pack_lead ranges (Text ch) valid ∙ rw two

        second_cont : is_continuation second ≡ true
        unfolding Valid
        second_cont = pack_cont Continuation tt

        -- where the lead stands already, so does its continuation
        again_paired : get_or row x 0 ≡ first → Paired ranges (put (put row ranges x first) ranges (x + 1) second)
        again_paired e =
            let c : cont row (x + 1) ≡ true = paired.pairs x ∙ rw e first_lead in
            rw (← put_equal row ranges x first e) (same_paired (x + 1) Continuation inside (sym (is_continuation_lem row (x + 1) c)))

        new_paired : (get_or row x 0 ≡ first → ⊥) → Paired ranges (put (put row ranges x first) ranges (x + 1) second)
        unfolding Valid
        new_paired other =
            let half = put row ranges x first in
            let long : length half ≡ length row = put_length row ranges x first in
            let p = put_at ranges narrow row x first (omega arith) other in
            let none : cont half (x + 1) ≡ false = next_gone ranges row half x first p paired in
            let q = put_at ranges narrow half (x + 1) second (omega arith) (λ e. never (cont half (x + 1)) (rw e second_cont) none) in
            double_paired ranges row half (put half ranges (x + 1) second) x first second p q
            first_lead (pack_cont (Text ch) valid) second_cont (pack_lead ranges Continuation tt) paired

    wide_paired : (x ch : ℕ) → CodePoint ch → width_of ranges ch ≡ 2 → Paired ranges (wide_row row ranges x ch)
    unfolding wide_row letter_row painted_text
    wide_paired x ch valid two =
        by_order (x + 1) (length row)
        (λ inside. rw (lt-ltb _ _ inside)
        (by_bool (eqb (get_or row x 0) (pack (Text ch)))
        (λ e. again_paired x ch valid two inside (eqb-true _ _ e))
        (λ e. new_paired x ch valid two inside (eqb-false _ _ e))))
        (λ past. rw (le-ltb _ _ past) (letter_paired x space (omega arith) narrow))

    text_paired : (x ch : ℕ) → CodePoint ch → Paired ranges (text_row row ranges x ch)
    unfolding text_row
    text_paired x ch valid =
        by_bool (eqb (width_of ranges ch) 0)
        (λ e. rw e paired)
        (λ e. by_bool (eqb (width_of ranges ch) 2)
        (λ f. rw (e, f) (wide_paired x ch valid (eqb-true _ _ f)))
        (λ f.
        let none = eqb-false (width_of ranges ch) 0 e in
        let two = eqb-false (width_of ranges ch) 2 f in
        rw (e, f) (letter_paired x ch valid (omega (arith, width_bound ranges ch)))))

-- What ink keeps of a row for that: its cells are packings, and leads and continuations stand in pairs.
pub record PackedPairs (ranges row : List ℕ) : Type 0 where
  pub packed : AllPacked row
  pub paired : Paired ranges row

pub empty_pairs : (ranges : List ℕ) (n : ℕ) → PackedPairs ranges (replicate n 0)
unfolding is_wide_lead is_continuation read
empty_pairs ranges n = record {
  packed = empty_row Packed empty_packed n;
  paired = record { start = rw (zero_anywhere n 0); pairs = λ k. rw (zero_anywhere n (k + 1), zero_anywhere n k) };
}

module _ (ranges : List ℕ) (narrow : width_of ranges space ≡ 1) where
  pub pairs_kept : KeptByInk ranges AnyStroke CodePoint (PackedPairs ranges)
  pairs_kept =
      let packings = packings_kept ranges in
      record {
        strokes = λ row x arms any s. record {
          packed = packings.strokes row x arms any s.packed;
          paired = stroke_paired ranges narrow row s.packed s.paired x arms;
        };
        markers = λ row x kind dir dashed s. record {
          packed = packings.markers row x kind dir dashed s.packed;
          paired = marker_paired ranges narrow row s.packed s.paired x kind dir dashed;
        };
        glyphs = λ row x ch valid s. record {
          packed = packings.glyphs row x ch valid s.packed;
          paired = text_paired ranges narrow row s.packed s.paired x ch valid;
        };
      }

-- A character that is painted takes a column.

abbrev pub TakesColumn : List ℕ → ℕ → Type 0
TakesColumn ranges ch = 1 ≤ width_of ranges ch

-- the cells of a row are packings, and each of its characters takes a column
abbrev pub AllTakeColumns : List ℕ → List ℕ → Type 0
AllTakeColumns ranges row = AllCells (Lettered (TakesColumn ranges)) row

module _ (ranges : List ℕ) (narrow : width_of ranges space ≡ 1) where
  cell_takes : KeptByCell AnyStroke (Letter (TakesColumn ranges)) (Lettered (TakesColumn ranges))
  cell_takes = letters_kept (TakesColumn ranges) (omega arith, omega arith)

  pub empty_takes : (n : ℕ) → AllTakeColumns ranges (replicate n 0)
  empty_takes n = empty_row (Lettered (TakesColumn ranges)) cell_takes.empty n

  pub takes_kept : KeptByInk ranges AnyStroke CodePoint (AllTakeColumns ranges)
  takes_kept =
      let letters = cells_kept cell_takes ranges in
      record {
        strokes = letters.strokes;
        markers = letters.markers;
        -- "Width 0 paints nothing"
        glyphs = λ row x ch valid all. by_order 0 (width_of ranges ch)
            (λ h. letters.glyphs row x ch (valid, h) all)
            (λ h. rw (← text_none row ranges x ch (omega arith)) all);
      }

  pub shown_of : (row : List ℕ) → AllTakeColumns ranges row → Shown ranges row
  shown_of row all x ch e = ((at_holds cell_takes x row all).letter ch e, width_bound ranges ch)

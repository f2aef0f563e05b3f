-- A step: the record and the buffers that it needs, and what it leaves.
use native.Mathlib.Omega.{arith}
use Prim.Native.Nat.{ℕ, ◌+◌, ◌-◌, ◌≤◌, min}
use mathlib.Core.List.{List, ◌++◌}
use mathlib.Core.Path.{◌≡◌, sym, ap, ◌∙◌}
use lib.ListN.{length, take, drop, replicate, length-append, length-drop, length-replicate}
use lib.Seq.{length-take-le, take_at, drop_at}
use Rattle.layout.specs.declared.Tables.{Tables}
use Rattle.layout.specs.Layout.{header_height, header_elements}
use Rattle.layout.specs.Tables.{word, tables_of}
use Rattle.elements.specs.Slots.{slot_count}
use Rattle.window.specs.declared.Lent.{Lent}
use Rattle.picture.specs.Picture.{height}
use Rattle.picture.specs.Painted.{scratch_room}
use Rattle.sweep.specs.declared.Sweep.{Sweep}
use Rattle.sweep.specs.Swept.{mark_each, unmark_each, Swept}
use Rattle.sweep.proofs.Laws.{taken_back}
use Rattle.bands.specs.Stepped.{active_list, band_rows, WithBand, Steppable, Stepped}

pub count_is : (image : List ℕ) (ts : Tables) → ts ≡ tables_of image → ts.elements.count ≡ word image header_elements
unfolding tables_of
count_is image ts t = rw t

pub rows_are : (image : List ℕ) (band top w n rest rows : ℕ) → w ≡ word image header_height → n ≡ w → rest ≡ n - top → rows ≡ min band rest → rows ≡ band_rows image band top
rows_are image band top w n rest rows a b c d = rw (d, c, b, a)

pub rows_inside : (image : List ℕ) (band top rows : ℕ) → top ≤ height image → rows ≡ band_rows image band top → top + rows ≤ height image
rows_inside image band top rows h e = omega (arith, e)

-- The scratch in a step: the active list is lent to the selection, then 01's part to the painters, then the list again.
module _ (image : List ℕ) (ts : Tables) (lent : Lent) (sweep : Sweep) (cells colours stamps scratch marks : List ℕ) (needed : ℕ)
    (so : Steppable image lent sweep cells colours stamps scratch marks) (t : ts ≡ tables_of image) (is : needed ≡ scratch_room image) where
  abbrev end : ℕ
  end = needed + ts.elements.count

  count_here : ts.elements.count ≡ word image header_elements
  count_here = count_is image ts t

  pub end_is : end ≡ length scratch
  end_is = let e = so.lends.lent_scratch in omega (arith, e, count_here, is)

  pub end_small : end ≤ 200000
  end_small = omega (arith, count_here, is, so.keeps.header.runs, so.keeps.header.elements)

  wide : end - needed ≡ ts.elements.count
  wide = omega arith

  abbrev list : List ℕ
  list = take (end - needed) (drop needed scratch)

  list_long : length list ≡ ts.elements.count
  list_long =
      let d = length-drop needed scratch in
      rw wide (length-take-le ts.elements.count (drop needed scratch) (omega (arith, d, end_is)))

  pub list_room : ts.elements.count ≤ length list
  list_room = omega (arith, list_long)

  pub list_swept : Swept image ts 0 sweep list
  list_swept =
      let e : end - needed ≡ word image header_elements = omega (arith, count_here) in
      let l : list ≡ active_list image scratch = rw (e, is) in
      rw (l, t) so.swept

  -- once the list is back
  abbrev tail : List ℕ
  tail = drop (end - needed) (drop needed scratch)

  abbrev back : List ℕ → List ℕ
  back shown = take needed scratch ++ (shown ++ tail)

  front_long : length (take needed scratch) ≡ needed
  front_long = length-take-le needed scratch (omega (arith, end_is))

  pub back_room : (shown : List ℕ) → needed ≤ length (back shown)
  back_room shown = let e = length-append (take needed scratch) (shown ++ tail) in omega (arith, e, front_long)

  pub back_cut : (shown : List ℕ) → length (take needed (back shown)) ≡ needed
  back_cut shown = length-take-le needed (back shown) (back_room shown)

  pub back_front : (shown : List ℕ) → length (take needed (back shown)) ≡ scratch_room image
  back_front shown = back_cut shown ∙ is

  -- once 01's part is back
  module _ (shown front : List ℕ) (l : length shown ≡ length list) (f : length front ≡ length (take needed (back shown))) where
    abbrev painted : List ℕ
    painted = front ++ drop needed (back shown)

    here : length front ≡ needed
    here = f ∙ back_cut shown

    rest : drop needed painted ≡ shown ++ tail
    rest = drop_at front (drop needed (back shown)) needed here ∙ drop_at (take needed scratch) (shown ++ tail) needed front_long

    counted : length shown ≡ ts.elements.count
    counted = l ∙ list_long

    pub list_again : take (end - needed) (drop needed painted) ≡ shown
    list_again = ap (take (end - needed)) rest ∙ take_at shown tail (end - needed) (counted ∙ sym wide)

    pub room_again : ts.elements.count ≤ length (take (end - needed) (drop needed painted))
    room_again = let e = ap length list_again in omega (arith, e, counted)

    pub end_again : end ≤ length painted
    end_again =
        let a = length-append front (drop needed (back shown)) in
        let b = ap length (drop_at (take needed scratch) (shown ++ tail) needed front_long) in
        let c = length-append shown tail in
        omega (arith, a, b, c, here, counted)

    -- once the list is back again
    pub list_out :
        (left : List ℕ) → length left ≡ ts.elements.count →
        active_list image (take needed painted ++ (left ++ drop (end - needed) (drop needed painted))) ≡ left
    list_out left k =
        let over = drop (end - needed) (drop needed painted) in
        let n : length (take needed painted) ≡ scratch_room image = length-take-le needed painted (omega (arith, end_again)) ∙ is in
        let e : length left ≡ word image header_elements = k ∙ count_here in
        ap (take (word image header_elements)) (drop_at (take needed painted) (left ++ over) (scratch_room image) n) ∙ take_at left over (word image header_elements) e

    -- What the step leaves.
    module _ (band rows : ℕ) (r : rows ≡ band_rows image band sweep.next) (chosen after : Sweep) (cells' colours' stamps' left marked marks' : List ℕ) where
      pub stepped :
          chosen.next ≡ sweep.next → marked ≡ mark_each image ts (take chosen.active shown) marks →
          WithBand image lent sweep.next rows cells colours stamps cells' colours' stamps' →
          length left ≡ length (take (end - needed) (drop needed painted)) →
          Swept image ts 0 after left × (after.next ≡ chosen.next + rows) →
          marks' ≡ unmark_each image ts (take chosen.active (take (end - needed) (drop needed painted))) marked →
          Stepped image band lent sweep cells colours stamps after cells' colours' stamps'
          (take needed painted ++ (left ++ drop (end - needed) (drop needed painted))) marks'
      stepped n m b k a u = record {
        next = let d : sweep.next + rows ≡ sweep.next + band_rows image band sweep.next = ap (λ x. sweep.next + x) r in a.1 ∙ ap (λ x. x + rows) n ∙ d;
        painted = rw r at b;
        swept = rw (list_out left (k ∙ ap length list_again ∙ counted), ← t) a.0;
        unmarked =
            u
            ∙ ap (λ x. unmark_each image ts (take chosen.active x) marked) list_again
            ∙ ap (unmark_each image ts (take chosen.active shown)) (m ∙ ap (mark_each image ts (take chosen.active shown)) so.unmarked)
            ∙ taken_back image ts slot_count (take chosen.active shown);
      }

-- The list is swept as it was before the painters came.
pub swept_again : (image : List ℕ) (ts : Tables) (rows : ℕ) (sweep : Sweep) (list again : List ℕ) → again ≡ list → Swept image ts rows sweep list → Swept image ts rows sweep again
swept_again image ts rows sweep list again e so = rw e so

-- as many marks as slots
pub marks_long : (marks : List ℕ) → marks ≡ replicate slot_count 0 → length marks ≡ slot_count
marks_long marks e = ap length e ∙ length-replicate {A = ℕ} slot_count 0

-- A line's cells: what stands at a place of it, and what lies past a row's end.
use Rattle.std.specs.Prelude.{Option, None, Some}
use native.Mathlib.Omega.{arith}
use Prim.Native.Nat.{ℕ, ◌+◌, ◌-◌, ◌≤◌, ◌<◌}
use mathlib.Core.Bool.{Bool, true, false}
use mathlib.Core.List.{List}
use mathlib.Core.Path.{◌≡◌, refl}
use lib.Dec.{eqb, leb}
use lib.ListN.{length}
use borrow.Author.Tests.{lt-ltb, le-ltb, leb-true, ne_eqb}
use Rattle.ground.specs.Turns.{turns}
use Rattle.ground.proofs.Order.{by_order}
use Rattle.ground.proofs.Turns.{turns_again, turns_done}
use Rattle.cell.specs.declared.Arms.{Arms}
use Rattle.cell.specs.declared.Dir.{Dir}
use Rattle.cell.specs.declared.MarkerKind.TheVariants.{Arrow}
use Rattle.cell.specs.OneCell.{read_arms}
use Rattle.canvas.specs.Row.{stroke_row, marker_row}
use Rattle.canvas.proofs.Theorems.{stroke_off, marker_off, text_off}
use Rattle.rows.specs.Spots.{Ink, stroke, marker, glyph}
use Rattle.flow.specs.declared.Head.{Head}
use Rattle.window.specs.Writes.{ink_on}
use Rattle.lines.specs.Computed.{head_here, head_dir, free_of, ink_at, ink_along}

-- An arrow stands at its place alone.
pub here_at : (h : Option Head) (k : ℕ) (a : Head) → h ≡ Some a → eqb a.place k ≡ head_here h k
unfolding head_here
here_at h k a e = rw e

-- A cell of a line: the first arrow, the second where the first is not, and elsewhere the stroke.

module _ (ranges : List ℕ) (x : ℕ) (arms : Arms) (dashed : Bool) (winner other : Option Head) (k : ℕ) (row after : List ℕ) where
  module _ (one : Bool) (e : one ≡ head_here winner k) where
    pub cell_winner :
        (dir : Dir) →
        one ≡ true →
        dir ≡ head_dir winner →
        after ≡ marker_row row ranges x Arrow dir dashed →
        after ≡ ink_on ranges x (ink_at arms dashed winner other k) row
    unfolding ink_at ink_on
    cell_winner dir h d f = rw (← e, h, ← d) f

    module _ (two : Bool) (not_one : one ≡ false) (i : two ≡ head_here other k) where
      pub cell_other :
          (dir : Dir) →
          two ≡ true →
          dir ≡ head_dir other →
          after ≡ marker_row row ranges x Arrow dir dashed →
          after ≡ ink_on ranges x (ink_at arms dashed winner other k) row
      unfolding ink_at ink_on
      cell_other dir h d f = rw (← e, not_one, ← i, h, ← d) f

      pub cell_stroke :
          two ≡ false →
          after ≡ stroke_row row ranges x arms →
          after ≡ ink_on ranges x (ink_at arms dashed winner other k) row
      unfolding ink_at ink_on
      cell_stroke h f = rw (← e, not_one, ← i, h) f

-- Nothing is written past a row's end.
pub ink_off : (ranges : List ℕ) (x : ℕ) (ink : Ink) (row : List ℕ) → length row ≤ x → ink_on ranges x ink row ≡ row
unfolding ink_on
ink_off ranges x (stroke arms) row h = stroke_off row ranges x arms h
ink_off ranges x (marker kind dir dashed) row h = marker_off row ranges x kind dir dashed h
ink_off ranges x (glyph ch) row h = text_off row ranges x ch h

-- A turn of the loop along a row, and its end.
module _ (ranges : List ℕ) (arms : Arms) (dashed : Bool) (winner other : Option Head) (x end : ℕ) (row whole : List ℕ) (left : ink_along ranges arms dashed winner other x end row ≡ whole) where
  step : ℕ → List ℕ → List ℕ
  step k r = ink_on ranges k (ink_at arms dashed winner other k) r

  pub along_again :
      (next : List ℕ) →
      x < end →
      next ≡ ink_on ranges x (ink_at arms dashed winner other x) row →
      ink_along ranges arms dashed winner other (x + 1) end next ≡ whole
  unfolding ink_along step
  along_again next h d = turns_again step x end row next whole h left d

  pub along_done : end ≤ x → row ≡ whole
  unfolding ink_along step
  along_done h = turns_done step x end row whole h left

-- The same with strokes alone.
module _ (ranges : List ℕ) (word x end : ℕ) (row whole : List ℕ) (left : turns (λ k. ink_on ranges k (stroke (read_arms word))) x (end - x) row ≡ whole) where
  pub strokes_again :
      (next : List ℕ) →
      x < end →
      next ≡ stroke_row row ranges x (read_arms word) →
      turns (λ k. ink_on ranges k (stroke (read_arms word))) (x + 1) (end - (x + 1)) next ≡ whole
  unfolding ink_on
  strokes_again next h d = turns_again (λ k. ink_on ranges k (stroke (read_arms word))) x end row next whole h left d

  pub strokes_done : end ≤ x → row ≡ whole
  strokes_done h = turns_done (λ k. ink_on ranges k (stroke (read_arms word))) x end row whole h left

-- Where no arrow stands, a line is strokes alone.

-- whether an arrow stands before the places, or else after them

pub free_before : (h : Option Head) (low high : ℕ) (a : Head) → h ≡ Some a → a.place < low → true ≡ free_of h low high
unfolding free_of
free_before h low high a e p = rw (e, lt-ltb _ _ p)

pub free_after : (h : Option Head) (low high : ℕ) (a : Head) → h ≡ Some a → low ≤ a.place → leb high a.place ≡ free_of h low high
unfolding free_of
free_after h low high a e p = rw (e, le-ltb _ _ p)

-- then it stands at none of them
not_here : (h : Option Head) (low high k : ℕ) → free_of h low high ≡ true → low ≤ k → k < high → head_here h k ≡ false
unfolding head_here free_of
not_here None low high k e p q = refl
not_here (Some a) low high k e p q =
    by_order a.place low
    (λ h. ne_eqb a.place k (λ d. omega arith))
    (λ h. let f : leb high a.place ≡ true = simp (le-ltb a.place low h) at e in
    let g : high ≤ a.place = leb-true high a.place f in
    ne_eqb a.place k (λ d. omega arith))

module _ (arms : Arms) (dashed : Bool) (winner other : Option Head) (low end : ℕ) (one : free_of winner low end ≡ true) (two : free_of other low end ≡ true) where
  pub free_ink : (k : ℕ) → low ≤ k → k < end → stroke arms ≡ ink_at arms dashed winner other k
  unfolding ink_at
  free_ink k p q = rw (not_here winner low end k one p q, not_here other low end k two p q)

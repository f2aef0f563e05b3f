-- Laws over plain values, which the functions' proofs and the theorems cite.
use Prim.Native.Nat.{ℕ, ◌+◌, ◌-◌, ◌≤◌, ◌<◌}
use mathlib.Core.Path.{◌≡◌, refl}
use mathlib.Core.Bool.{Bool, true, false, and-false}
use mathlib.Core.List.{List}
use lib.ListN.{length, get_or, set, get_or-eq_default}
use borrow.Author.Tests.{le-ltb, lt-ltb, eq-eqb, ne_eqb}
use Rattle.cell.specs.declared.Parts.{Parts}
use Rattle.cell.specs.declared.Parts.TheVariants.{Empty, Text, Continuation, Stroke, Marker}
use Rattle.cell.specs.OneCell.{pack, read}
use Rattle.glyph.specs.Width.{width_of}
use Rattle.canvas.specs.Row.{space, lead_parts, continuation_parts, is_wide_lead, is_continuation}
use Rattle.canvas.specs.Row.{empty_continuation, blank_lead, put, letter_row, wide_row, text_row}

lead_of_parts : (p : Parts) (ranges : List ℕ) → ((ch : ℕ) → p ≡ Text ch → ⊥) → false ≡ lead_parts p ranges
lead_of_parts Empty ranges h = refl
lead_of_parts (Text ch) ranges h = absurd (h ch refl)
lead_of_parts Continuation ranges h = refl
lead_of_parts (Stroke arms) ranges h = refl
lead_of_parts (Marker kind dir dashed) ranges h = refl

-- a word that reads as no text is no wide lead
pub no_lead :
    (ranges : List ℕ) (word : ℕ) (p : Parts) →
    p ≡ read word →
    ((ch : ℕ) → p ≡ Text ch → ⊥) →
    false ≡ is_wide_lead word ranges
unfolding is_wide_lead
no_lead ranges word p e h = rw (← e) (lead_of_parts p ranges h)

continuation_of_parts : (p : Parts) → (p ≡ Continuation → ⊥) → false ≡ continuation_parts p
continuation_of_parts Empty h = refl
continuation_of_parts (Text ch) h = refl
continuation_of_parts Continuation h = absurd (h refl)
continuation_of_parts (Stroke arms) h = refl
continuation_of_parts (Marker kind dir dashed) h = refl

-- a word that reads as one of them is no continuation
pub no_continuation :
    (word : ℕ) (p : Parts) →
    p ≡ read word →
    (p ≡ Continuation → ⊥) →
    false ≡ is_continuation word
unfolding is_continuation
no_continuation word p e h = rw (← e) (continuation_of_parts p h)

-- a column past the row's end is no continuation
pub past_end : (x : ℕ) (row : List ℕ) → length row ≤ x → is_continuation (get_or row x 0) ≡ false
unfolding is_continuation read
past_end x row h = rw (get_or-eq_default row 0 h)

module _ (row ranges : List ℕ) (x : ℕ) where
  -- a wide lead with its continuation: the continuation is emptied
  pub emptied :
      (lead next : Bool) →
      lead ≡ is_wide_lead (get_or row x 0) ranges →
      next ≡ is_continuation (get_or row (x + 1) 0) →
      lead ≡ true →
      next ≡ true →
      set row (x + 1) 0 ≡ empty_continuation row ranges x
  unfolding empty_continuation pack
  emptied lead next e f p q = rw (← e, ← f, p, q)

  -- what is no wide lead has nothing to empty
  pub no_lead_here :
      (lead : Bool) →
      lead ≡ is_wide_lead (get_or row x 0) ranges →
      lead ≡ false →
      row ≡ empty_continuation row ranges x
  unfolding empty_continuation
  no_lead_here lead e h = rw (← e, h)

  -- and nor has a wide lead without its continuation
  pub no_continuation_next :
      (next : Bool) →
      next ≡ is_continuation (get_or row (x + 1) 0) →
      next ≡ false →
      row ≡ empty_continuation row ranges x
  unfolding empty_continuation
  no_continuation_next next e h = rw (← e, h, and-false)

  -- and nor has the last column
  pub last_column : length row ≤ x + 1 → row ≡ empty_continuation row ranges x
  last_column h = no_continuation_next _ refl (past_end (x + 1) row h)

  -- a continuation with its lead: the lead becomes a space
  pub blanked :
      (cell : ℕ) (here lead : Bool) →
      cell ≡ pack (Text space) →
      0 < x →
      here ≡ is_continuation (get_or row x 0) →
      lead ≡ is_wide_lead (get_or row (x - 1) 0) ranges →
      here ≡ true →
      lead ≡ true →
      set row (x - 1) cell ≡ blank_lead row ranges x
  unfolding blank_lead
  blanked cell here lead blank h e f p q = rw (blank, ← e, ← f, p, q, lt-ltb _ _ h)

  -- what is no continuation has no lead
  pub no_continuation_here :
      (here : Bool) →
      here ≡ is_continuation (get_or row x 0) →
      here ≡ false →
      row ≡ blank_lead row ranges x
  unfolding blank_lead
  no_continuation_here here e h = rw (← e, h)

  -- and nor has a continuation after another cell
  pub no_lead_before :
      (lead : Bool) →
      lead ≡ is_wide_lead (get_or row (x - 1) 0) ranges →
      lead ≡ false →
      row ≡ blank_lead row ranges x
  unfolding blank_lead
  no_lead_before lead e h = simp (← e, h, and-false)

  -- and nor has the first column
  pub first_column : x ≤ 0 → row ≡ blank_lead row ranges x
  unfolding blank_lead
  first_column h = simp (le-ltb 0 x h, and-false)

  module _ (new : ℕ) where
    -- an equal cell changes nothing
    pub put_equal : get_or row x 0 ≡ new → row ≡ put row ranges x new
    unfolding put
    put_equal e = simp (eq-eqb _ _ e)

    -- any other cell is written after its neighbours are mended
    pub put_other :
        (emptied mended : List ℕ) →
        (get_or row x 0 ≡ new → ⊥) →
        emptied ≡ empty_continuation row ranges x →
        mended ≡ blank_lead emptied ranges x →
        set mended x new ≡ put row ranges x new
    unfolding put
    put_other emptied mended n e f = rw (ne_eqb _ _ n, f, e)

    -- a row into which a cell was put, where that cell is this one
    pub put_this :
        (cell : ℕ) (last : List ℕ) →
        last ≡ put row ranges x cell →
        cell ≡ new →
        last ≡ put row ranges x new
    put_this cell last e f = rw (← f) e

module _ (row ranges : List ℕ) (x ch : ℕ) where
  -- a wide glyph with a column to its right is a lead and a continuation
  pub wide_inside :
      (lead last : List ℕ) →
      x + 1 < length row →
      lead ≡ letter_row row ranges x ch →
      last ≡ put lead ranges (x + 1) 0x40200000 →
      last ≡ wide_row row ranges x ch
  unfolding wide_row pack
  wide_inside lead last h e f = rw (lt-ltb _ _ h, ← e) f

  -- a wide glyph in the last column is a space
  pub wide_last :
      (last : List ℕ) →
      length row ≤ x + 1 →
      last ≡ letter_row row ranges x space →
      last ≡ wide_row row ranges x ch
  unfolding wide_row
  wide_last last h e = simp (le-ltb _ _ h) e

  -- width 0 paints nothing
  pub text_none : width_of ranges ch ≡ 0 → row ≡ text_row row ranges x ch
  unfolding text_row
  text_none h = simp h

  -- width 2 is a wide glyph
  pub text_wide : (last : List ℕ) → width_of ranges ch ≡ 2 → last ≡ wide_row row ranges x ch → last ≡ text_row row ranges x ch
  unfolding text_row
  text_wide last h e = simp h e

  -- any other width is one column
  pub text_letter :
      (last : List ℕ) →
      (width_of ranges ch ≡ 0 → ⊥) →
      (width_of ranges ch ≡ 2 → ⊥) →
      last ≡ letter_row row ranges x ch →
      last ≡ text_row row ranges x ch
  unfolding text_row
  text_letter last n m e = simp (ne_eqb _ _ n, ne_eqb _ _ m) e

-- Arithmetic on packed words comes to the rule on one cell.
use native.Mathlib.Omega.{arith}
use Prim.Native.Nat.{ℕ, zero, suc, ◌+◌, ◌/◌, ◌%◌, ◌≤◌, ◌<◌, max}
use mathlib.Core.Bool.{false}
use mathlib.Core.List.{List}
use mathlib.Core.Path.{◌≡◌, refl, sym, ap, ◌∙◌}
use lib.Dec.{eqb}
use lib.ListN.{get_or, set}
use lib.Seq.{set-get_or}
use borrow.Author.Tests.{eqb-true, ne_eqb}
use Rattle.ground.proofs.Order.{by_order}
use Rattle.ground.proofs.Each.{by_bool}
use Rattle.cell.specs.declared.Weight.{Weight}
use Rattle.cell.specs.declared.Arms.{Arms}
use Rattle.cell.specs.declared.Parts.TheVariants.{Stroke}
use Rattle.cell.specs.OneCell.{weight_number, weight_of, pack_arms, pack, read_arms, read, heavier, heavier_arms, stroked, painted_stroke}
use Rattle.cell.proofs.Laws.{weight_small, heavier_first, heavier_second, read_stroke}
use Rattle.canvas.specs.Row.{is_wide_lead, is_continuation, empty_continuation, blank_lead, put, stroke_row}
use Rattle.canvas.specs.Packed.{arm_number, merged_word, FourArms}
use Rattle.canvas.proofs.Laws.{no_lead_here, no_continuation_here}

-- The greater of two arms.

-- a number that a weight has, and one that none has

pub arm_low : (n : ℕ) → n ≤ 3 → arm_number n ≡ n
arm_low zero h = refl
arm_low (suc zero) h = refl
arm_low (suc (suc zero)) h = refl
arm_low (suc (suc (suc zero))) h = refl
arm_low (suc (suc (suc (suc n)))) h = absurd (omega arith)

arm_high : (n : ℕ) → 3 < n → arm_number n ≡ 0
arm_high n h = rw (ne_eqb n 1 (λ e. omega arith), ne_eqb n 2 (λ e. omega arith), ne_eqb n 3 (λ e. omega arith))

arm_least : (n : ℕ) → arm_number n ≤ n
arm_least n = by_order 3 n (λ h. omega (arith, arm_high n h)) (λ h. omega (arith, arm_low n h))

-- the new one is no less
pub arm_new : (old new : ℕ) → new ≤ 3 → old ≤ new → (new ≡ max (arm_number old) new) × (new ≤ 3)
arm_new old new k h = (omega (arith, arm_least old), k)

-- the old one is greater
pub arm_old : (old new : ℕ) → new < old → old ≤ 3 → (old ≡ max (arm_number old) new) × (old ≤ 3)
arm_old old new h l = (omega (arith, arm_low old l), l)

-- the old one is none
pub arm_none : (old new : ℕ) → new ≤ 3 → 3 < old → (new ≡ max (arm_number old) new) × (new ≤ 3)
arm_none old new k h = (omega (arith, arm_high old h), k)

-- the heavier of two is the one of the greater number
pub heavier_number : (a b : Weight) → weight_number (heavier a b) ≡ max (weight_number a) (weight_number b)
heavier_number a b =
    by_order (weight_number a) (weight_number b)
    (λ h. ap weight_number (sym (heavier_second a b h)) ∙ omega arith)
    (λ h. ap weight_number (sym (heavier_first a b h)) ∙ omega arith)

-- What is no half of a wide glyph is simply written over.
put_whole :
    (row ranges : List ℕ) (x new : ℕ) →
    is_wide_lead (get_or row x 0) ranges ≡ false →
    is_continuation (get_or row x 0) ≡ false →
    put row ranges x new ≡ set row x new
unfolding put
put_whole row ranges x new lead next =
    let a : empty_continuation row ranges x ≡ row = sym (no_lead_here row ranges x _ refl lead) in
    let b : blank_lead row ranges x ≡ row = sym (no_continuation_here row ranges x _ refl next) in
    by_bool (eqb (get_or row x 0) new)
    (λ e. rw e (sym (set-get_or row x 0) ∙ ap (set row x) (eqb-true _ _ e)))
    (λ e. rw (e, a, b))

-- a word with the tag of a stroke reads as one
read_tag : (word : ℕ) → word / 0x40000000 ≡ 2 → read word ≡ Stroke (read_arms word)
unfolding read
read_tag word tag = rw tag

module _ (arms : Arms) (word : ℕ) (packed : word ≡ pack (Stroke arms)) where
  -- the fields of a packed stroke
  fields :
      (word % 8 ≡ weight_number arms.up) × (word / 8 % 8 ≡ weight_number arms.down)
      × (word / 64 % 8 ≡ weight_number arms.left) × (word / 512 % 8 ≡ weight_number arms.right)
  unfolding pack pack_arms
  fields =
      let u = weight_small arms.up in
      let d = weight_small arms.down in
      let l = weight_small arms.left in
      let r = weight_small arms.right in
      (omega arith, omega arith, omega arith, omega arith)

  -- they are weights
  pub four_arms : FourArms word
  four_arms =
      let f = fields in (
        omega (arith, f.0, weight_small arms.up),
        omega (arith, f.1, weight_small arms.down),
        omega (arith, f.2, weight_small arms.left),
        omega (arith, f.3, weight_small arms.right),
      )

  -- the greater numbers are the heavier arms, packed
  merged_arms : (old : ℕ) → merged_word old word ≡ pack (Stroke (heavier_arms (read_arms old) arms))
  unfolding merged_word pack pack_arms heavier_arms read_arms
  merged_arms old =
      rw (
        fields.0,
        fields.1,
        fields.2,
        fields.3,
        heavier_number (weight_of (old % 8)) arms.up,
        heavier_number (weight_of (old / 8 % 8)) arms.down,
        heavier_number (weight_of (old / 64 % 8)) arms.left,
        heavier_number (weight_of (old / 512 % 8)) arms.right,
      )

  -- the arms of a packed stroke are read back
  word_arms : read_arms word ≡ arms
  unfolding pack pack_arms
  word_arms =
      let u = weight_small arms.up in
      let d = weight_small arms.down in
      let l = weight_small arms.left in
      let r = weight_small arms.right in
      let tag : word / 0x40000000 ≡ 2 = omega arith in
      let read_as : Stroke (read_arms word) ≡ Stroke arms = sym (read_tag word tag) ∙ read_stroke arms word packed in
      cc

  module _ (row ranges : List ℕ) (x : ℕ) where
    -- a stroke on an empty cell is the word
    pub on_empty : get_or row x 0 ≡ 0 → set row x word ≡ stroke_row row ranges x arms
    unfolding stroke_row is_wide_lead is_continuation read painted_stroke stroked
    on_empty e =
        let lead : is_wide_lead (get_or row x 0) ranges ≡ false = rw e in
        let next : is_continuation (get_or row x 0) ≡ false = rw e in
        sym (put_whole row ranges x (painted_stroke (get_or row x 0) arms) lead next ∙ rw (e, ← packed))

    -- a stroke on a stroke is the merged word
    pub on_stroke :
        (old new : ℕ) →
        old ≡ get_or row x 0 →
        old / 0x40000000 ≡ 2 →
        new ≡ merged_word old word →
        set row x new ≡ stroke_row row ranges x arms
    unfolding stroke_row is_wide_lead is_continuation painted_stroke stroked
    on_stroke old new o tag e =
        let r : read (get_or row x 0) ≡ Stroke (read_arms old) = rw (← o) (read_tag old tag) in
        let lead : is_wide_lead (get_or row x 0) ranges ≡ false = rw r in
        let next : is_continuation (get_or row x 0) ≡ false = rw r in
        sym (put_whole row ranges x (painted_stroke (get_or row x 0) arms) lead next ∙ rw (r, ← merged_arms old, ← e))

-- a tag before packed arms packs the stroke, and its arms are read back
pub packed_word :
    (arms : Arms) (low : ℕ) →
    low ≡ pack_arms arms →
    (0x80000000 + low ≡ pack (Stroke arms)) × (read_arms (0x80000000 + low) ≡ arms)
unfolding pack
packed_word arms low e =
    let p : 0x80000000 + low ≡ pack (Stroke arms) = rw e in
    (p, word_arms arms _ p)

-- equal arms make an equal stroke
pub same_stroke :
    (row ranges : List ℕ) (x : ℕ) (one other : Arms) (last : List ℕ) →
    one ≡ other →
    last ≡ stroke_row row ranges x one →
    last ≡ stroke_row row ranges x other
same_stroke row ranges x one other last e f = rw e at f

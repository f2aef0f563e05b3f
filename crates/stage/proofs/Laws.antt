-- A stage of painting: a turn of its loop, things passed over, and its end; a thing that is not marked makes no ink in the window; labels are short.
use native.Mathlib.Omega.{arith}
use Prim.Native.Nat.{ℕ, zero, suc, ◌+◌, ◌-◌, ◌*◌, ◌≤◌, ◌<◌}
use mathlib.Core.Bool.{Bool, true, false, not}
use mathlib.Core.List.{List}
use mathlib.Core.Path.{◌≡◌, refl, sym, ap, ◌∙◌}
use lib.Dec.{eqb}
use lib.ListN.{length, get_or, get_or-eq_default}
use borrow.Author.Tests.{eqb-true}
use Rattle.ground.specs.Each.{numbers, each}
use Rattle.ground.proofs.Each.{numbers_whole, each_step, each_done}
use Rattle.ground.proofs.Order.{by_order}
use Rattle.layout.specs.declared.Tables.{Tables}
use Rattle.layout.specs.Tables.{tables_of}
use Rattle.image.specs.declared.ElementKind.{ElementKind}
use Rattle.image.specs.declared.Span.{Span}
use Rattle.image.specs.Records.{element_kind_number, thing_table}
use Rattle.image.specs.Spans.{span_words}
use Rattle.image.proofs.Theorems.{span_length}
use Rattle.elements.specs.Slots.{slot_of}
use Rattle.rows.specs.declared.Window.{Window}
use Rattle.things.specs.Things.{thing_touches}
use Rattle.window.specs.Writes.{Write, Canvas}
use Rattle.window.specs.Window.{ink_window}
use Rattle.window.proofs.Theorems.{ink_none, ink_append}
use Rattle.stage.specs.Staged.{Staged, stage_left, Unmarked}

module _ (v : Window) (ranges : List ℕ) (things : ℕ → List Write) (count : ℕ) where
  pub stage_begins : (c : Canvas) → stage_left v ranges things 0 count c ≡ ink_window v ranges (each (numbers 0 count) things) c
  stage_begins c = rw (numbers_whole count)

  pub stage_again :
      (k : ℕ) (c after whole : Canvas) → k < count →
      stage_left v ranges things k count c ≡ whole →
      after ≡ ink_window v ranges (things k) c →
      stage_left v ranges things (k + 1) count after ≡ whole
  stage_again k c after whole h left d =
      rw d
      (sym (ink_append v ranges (things k) (each (numbers (k + 1) (count - (k + 1))) things) c)
      ∙ ap (λ (ws : List Write). ink_window v ranges ws c) (sym (each_step things k count h))
      ∙ left)

  -- things that make no ink in the window
  stage_passes :
      (k : ℕ) (c whole : Canvas) → stage_left v ranges things k count c ≡ whole → (d : ℕ) → k + d ≤ count →
      ((i : ℕ) → k ≤ i → i < k + d → c ≡ ink_window v ranges (things i) c) →
      stage_left v ranges things (k + d) count c ≡ whole
  stage_passes k c whole left zero h none = let e : k + 0 ≡ k = omega arith in rw e left
  stage_passes k c whole left (suc d) h none =
      let e : k + suc d ≡ (k + d) + 1 = omega arith in
      rw e
      (stage_again (k + d) c c whole (omega arith)
      (stage_passes k c whole left d (omega arith) (λ i p q. none i p (omega arith)))
      (none (k + d) (omega arith) (omega arith)))

  -- a thing, and those after it that make none
  pub stage_next :
      (k next : ℕ) (c after whole : Canvas) → k < count → k + 1 ≤ next → next ≤ count →
      stage_left v ranges things k count c ≡ whole →
      after ≡ ink_window v ranges (things k) c →
      ((i : ℕ) → i < count → k + 1 ≤ i → i < next → after ≡ ink_window v ranges (things i) after) →
      stage_left v ranges things next count after ≡ whole
  stage_next k next c after whole h p q left d none =
      let e : (k + 1) + (next - (k + 1)) ≡ next = omega arith in
      let l = stage_passes (k + 1) after whole (stage_again k c after whole h left d) (next - (k + 1)) (omega arith) (λ i a b. none i (omega arith) a (omega arith)) in
      rw e at l

  pub stage_done : (k : ℕ) (c whole : Canvas) → count ≤ k → stage_left v ranges things k count c ≡ whole → c ≡ whole
  stage_done k c whole h left =
      sym (ink_none v ranges c) ∙ ap (λ (ws : List Write). ink_window v ranges ws c) (sym (each_done things k count h)) ∙ left

unmarked : (b : Bool) → not b ≡ false → b ≡ true
unmarked true e = refl
unmarked false e = sym e

-- A thing that is not marked touches no row of the window.
pub unmarked_touches :
    (image : List ℕ) (ts : Tables) (v : Window) (marks ranges : List ℕ) (kind : ElementKind) (number k : ℕ) (marked : Bool) →
    Staged image ts v marks ranges →
    k < (thing_table kind ts).count →
    number ≡ element_kind_number kind →
    marked ≡ not (eqb (get_or marks (slot_of number k) 0) 0) →
    marked ≡ false →
    (y : ℕ) → v.first ≤ y → y < v.first + v.rows → thing_touches kind image ts k y ≡ false
unmarked_touches image ts v marks ranges kind number k marked staged there n m f y p q =
    staged.selected.unmarked kind k y there (rw (← n) (eqb-true _ _ (unmarked (eqb (get_or marks (slot_of number k) 0) 0) (sym m ∙ f)))) p q

-- A label has no more glyphs than its span.
pub label_short :
    (image : List ℕ) (ts : Tables) (v : Window) (marks ranges : List ℕ) (span : Span) (label : List ℕ) →
    Staged image ts v marks ranges →
    label ≡ span_words image ts.glyphs span →
    span.count < 0x100000000 →
    length label ≤ 0x100000000
unfolding tables_of
label_short image ts v marks ranges span label staged e h =
    let s : ts.glyphs.size ≡ 1 = rw staged.tables in
    let l : length (span_words image ts.glyphs span) ≤ span.count * ts.glyphs.size = span_length image ts.glyphs span in
    let m : span.count * ts.glyphs.size ≡ span.count * 1 = ap (λ (n : ℕ). span.count * n) s in
    rw e (omega arith)

-- A mark as it is read.
module _ (marks : List ℕ) (number k slot : ℕ) (e : slot ≡ slot_of number k) where
  pub mark_read : not (eqb (get_or marks slot 0) 0) ≡ not (eqb (get_or marks (slot_of number k) 0) 0)
  mark_read = rw e

  pub mark_past : length marks ≤ slot → false ≡ not (eqb (get_or marks (slot_of number k) 0) 0)
  mark_past h = rw (← e, get_or-eq_default marks 0 h)

pub mark_none : (marks : List ℕ) (number k : ℕ) (marked : Bool) → marked ≡ not (eqb (get_or marks (slot_of number k) 0) 0) → marked ≡ false → get_or marks (slot_of number k) 0 ≡ 0
mark_none marks number k marked m f = eqb-true _ _ (unmarked (eqb (get_or marks (slot_of number k) 0) 0) (sym m ∙ f))

-- Marks of which the sum is 0.

four_free :
    (marks : List ℕ) (slot : ℕ) → get_or marks slot 0 + get_or marks (slot + 1) 0 + get_or marks (slot + 2) 0 + get_or marks (slot + 3) 0 ≡ 0 →
    (d : ℕ) → d < 4 → get_or marks (slot + d) 0 ≡ 0
four_free marks slot h zero p = let e : slot + 0 ≡ slot = omega arith in rw e (omega arith)
four_free marks slot h (suc zero) p = omega arith
four_free marks slot h (suc (suc zero)) p = omega arith
four_free marks slot h (suc (suc (suc zero))) p = omega arith
four_free marks slot h (suc (suc (suc (suc d)))) p = absurd (omega arith)

pub group_free :
    (marks : List ℕ) (slot a b e f first last : ℕ) →
    a ≡ get_or marks slot 0 + get_or marks (slot + 1) 0 + get_or marks (slot + 2) 0 + get_or marks (slot + 3) 0 →
    b ≡ get_or marks (slot + 4) 0 + get_or marks (slot + 4 + 1) 0 + get_or marks (slot + 4 + 2) 0 + get_or marks (slot + 4 + 3) 0 →
    e ≡ get_or marks (slot + 8) 0 + get_or marks (slot + 8 + 1) 0 + get_or marks (slot + 8 + 2) 0 + get_or marks (slot + 8 + 3) 0 →
    f ≡ get_or marks (slot + 12) 0 + get_or marks (slot + 12 + 1) 0 + get_or marks (slot + 12 + 2) 0 + get_or marks (slot + 12 + 3) 0 →
    first ≡ a + b →
    last ≡ e + f →
    eqb (first + last) 0 ≡ true →
    (i : ℕ) → slot ≤ i → i < slot + 16 → get_or marks i 0 ≡ 0
group_free marks slot a b e f first last p q r s m n t i from to =
    let z : first + last ≡ 0 = eqb-true _ _ t in
    by_order i (slot + 4)
    (λ h. free slot (omega arith) from h)
    (λ g. by_order i (slot + 8)
    (λ h. free (slot + 4) (omega arith) g (omega arith))
    (λ g. by_order i (slot + 12)
    (λ h. free (slot + 8) (omega arith) g (omega arith))
    (λ g. free (slot + 12) (omega arith) g (omega arith))))
  where
    free : (at : ℕ) → get_or marks at 0 + get_or marks (at + 1) 0 + get_or marks (at + 2) 0 + get_or marks (at + 3) 0 ≡ 0 → at ≤ i → i < at + 4 → get_or marks i 0 ≡ 0
    free at none g h =
        let k : at + (i - at) ≡ i = omega arith in
        let l = four_free marks at none (i - at) (omega arith) in
        rw k at l

-- Things that are not marked, one stretch after the other.
module _ (marks : List ℕ) (kind : ℕ) where
  pub unmarked_none : (k : ℕ) → Unmarked marks kind k k
  unmarked_none k = record { none = λ i p q. absurd (omega arith) }

  pub unmarked_one : (k : ℕ) → get_or marks (slot_of kind k) 0 ≡ 0 → Unmarked marks kind k (k + 1)
  unmarked_one k h = record { none = λ i p q. let e : i ≡ k = omega arith in rw e h }

  pub unmarked_group : (k slot : ℕ) → slot ≡ slot_of kind k → ((i : ℕ) → slot ≤ i → i < slot + 16 → get_or marks i 0 ≡ 0) → Unmarked marks kind k (k + 16)
  unmarked_group k slot e free = record { none = λ i p q. free (slot_of kind i) (omega arith) (omega arith) }

  pub unmarked_then : (from k n : ℕ) → Unmarked marks kind from k → Unmarked marks kind k (k + n) → Unmarked marks kind from (k + n)
  unmarked_then from k n before after = record { none = λ i p q. by_order i k (λ h. before.none i p h) (λ h. after.none i h q) }

  pub unmarked_to : (from k count : ℕ) → Unmarked marks kind from k → count ≤ k → Unmarked marks kind from count
  unmarked_to from k count before h = record { none = λ i p q. before.none i p (omega arith) }

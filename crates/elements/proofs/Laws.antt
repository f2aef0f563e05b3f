-- Laws over plain values, which the functions' proofs cite: the walk that lists the elements, turn by turn, and the order of an element's rows.
use native.Mathlib.Omega.{arith}
use native.Mathlib.Numerals.{add-one}
use Prim.Native.Nat.{ℕ, zero, suc, ◌+◌, ◌-◌, ◌≤◌, ◌<◌}
use mathlib.Core.Bool.{Bool, true, false, not, ◌&&◌}
use mathlib.Core.List.{List}
use mathlib.Core.Path.{◌≡◌, refl, sym, ◌∙◌, ap}
use lib.Dec.{eqb, ltb}
use lib.ListN.{length, get_or, set, replicate, length-replicate, get_or-replicate}
use lib.Seq.{get_or-set_same, get_or-set_other}
use borrow.Author.Tests.{eqb-true, eq-eqb, lt-ltb, le-ltb}
use Rattle.std.specs.Prelude.{Option, Some, None}
use Rattle.std.specs.Option.{option_or}
use Rattle.std.specs.Bool.{then_some}
use Rattle.ground.specs.Each.{numbers, some}
use Rattle.ground.specs.Judged.{first_bad}
use Rattle.ground.specs.First.{first_from}
use Rattle.ground.proofs.Each.{by_bool}
use Rattle.ground.proofs.First.{or_assoc, or_none}
use Rattle.ground.proofs.Order.{by_three}
use Rattle.layout.specs.declared.Tables.{Tables}
use Rattle.layout.specs.Layout.{element_kinds, max_things}
use Rattle.layout.specs.Tables.{record_at}
use Rattle.elements.specs.Elements.{kind_of, index_of, first_row, last_row, names, lister, listed_before, twice_judged, rows_broken}
use Rattle.elements.specs.Slots.{slot_count, slot_of, element_slot, slot_listing, ElementsGood, Held, Listed}
use Rattle.elements.proofs.Records.{found_from, records_whole, records_again, records_hit, records_done}

-- Which elements name a thing.

both_true : (a b c d : ℕ) (s t : Bool) → eqb a b ≡ s → eqb c d ≡ t → s && t ≡ true → (a ≡ b) × (c ≡ d)
both_true a b c d true true p q h = (eqb-true a b p, eqb-true c d q)
both_true a b c d true false p q h = let z : ◌≡◌ {A = ℕ} 0 1 = cc in absurd (omega arith)
both_true a b c d false t p q h = let z : ◌≡◌ {A = ℕ} 0 1 = cc in absurd (omega arith)

module _ (image : List ℕ) (ts : Tables) (kind index k : ℕ) where
  -- an element that names a thing has its kind and its index
  pub named : names image ts kind index k ≡ true → (kind_of image ts k ≡ kind) × (index_of image ts k ≡ index)
  named h = both_true (kind_of image ts k) kind (index_of image ts k) index _ _ refl refl h

  -- an element of another kind or another index does not name it
  pub not_named : (kind_of image ts k ≡ kind → index_of image ts k ≡ index → ⊥) → names image ts kind index k ≡ false
  not_named h =
      by_bool (names image ts kind index k) (λ e. let n = named e in absurd (h n.0 n.1)) (λ e. e)

  -- an element of its kind and its index names it
  pub is_named : kind_of image ts k ≡ kind → index_of image ts k ≡ index → names image ts kind index k ≡ true
  is_named p q = simp (eq-eqb _ _ p, eq-eqb _ _ q)

-- one place more to look at
first_more : (f : ℕ → Option ℕ) (k n : ℕ) → first_from f k (suc n) ≡ option_or (first_from f k n) (f (k + n))
unfolding first_from
first_more f k zero = let e : k + 0 ≡ k = omega arith in rw e (or_none (f k))
first_more f k (suc n) =
    let e : k + suc n ≡ suc k + n = omega arith in
    rw (or_assoc (f k) (first_from f (suc k) n) (f (k + suc n)), e, ← first_more f (suc k) n)

-- one element more that may name a thing
lister_more :
    (image : List ℕ) (ts : Tables) (kind index k : ℕ) →
    lister image ts kind index (k + 1) ≡ option_or (lister image ts kind index k) (then_some (names image ts kind index k) k)
unfolding lister
lister_more image ts kind index k =
    let e : 0 + k ≡ k = omega arith in
    rw (add-one k) (rw e at (first_more (λ j. then_some (names image ts kind index j) j) 0 k))

-- Some element names a thing exactly where it has a listing.

abbrev pub is_found : Option ℕ → Bool
is_found None = false
is_found (Some k) = true

pub some_found : (test : ℕ → Bool) (k n : ℕ) → some (numbers k n) test ≡ is_found (first_from (λ j. then_some (test j) j) k n)
unfolding some numbers first_from
some_found test k zero = refl
some_found test k (suc n) = by_bool (test k) (λ t. rw t) (λ t. rw t (some_found test (suc k) n))

-- What a slot's word says of an earlier element.

module _ (image : List ℕ) (ts : Tables) (k word : ℕ)
    (e : slot_listing word ≡ lister image ts (kind_of image ts k) (index_of image ts k) k) where
  before_found : listed_before image ts k ≡ is_found (slot_listing word)
  unfolding lister
  before_found = some_found (names image ts (kind_of image ts k) (index_of image ts k)) 0 k ∙ ap is_found (sym e)

  slot_taken : (word ≡ 0 → ⊥) → not (listed_before image ts k) ≡ false
  slot_taken h = rw before_found (taken word h)
    where
      taken : (w : ℕ) → (w ≡ 0 → ⊥) → not (is_found (slot_listing w)) ≡ false
      taken zero h = absurd (h refl)
      taken (suc j) h = refl

  slot_free : word ≡ 0 → not (listed_before image ts k) ≡ true
  slot_free z = rw (before_found, z)

-- The slots after a turn at an element whose thing is not listed yet.
module _ (image : List ℕ) (ts : Tables) (good : ElementsGood image ts) (slots : List ℕ) (k : ℕ) (held : Held image ts slots k) where
  -- the listing of another thing stays
  held_other :
      (kind index : ℕ) → kind < element_kinds → index < max_things →
      (slot_of kind index ≡ element_slot image ts k → ⊥) →
      slot_listing (get_or (set slots (element_slot image ts k) (k + 1)) (slot_of kind index) 0) ≡ lister image ts kind index (k + 1)
  held_other kind index p q other =
      rw (
        get_or-set_other slots (element_slot image ts k) (slot_of kind index) (k + 1) 0 other,
        lister_more image ts kind index k,
        not_named image ts kind index k (λ e f. other (rw (e, f) refl)),
        or_none (lister image ts kind index k),
      )
      (held kind index p q)

  -- its own is this element
  held_same :
      (kind index : ℕ) → element_slot image ts k < length slots →
      lister image ts (kind_of image ts k) (index_of image ts k) k ≡ None →
      kind_of image ts k ≡ kind →
      index_of image ts k ≡ index →
      slot_listing (get_or (set slots (element_slot image ts k) (k + 1)) (slot_of kind index) 0) ≡ lister image ts kind index (k + 1)
  held_same kind index h none e f =
      rw (
        ← e,
        ← f,
        get_or-set_same slots (element_slot image ts k) (k + 1) 0 h,
        lister_more image ts (kind_of image ts k) (index_of image ts k) k,
        none,
        is_named image ts (kind_of image ts k) (index_of image ts k) k refl refl,
        add-one k,
      )

  own_slot : k < ts.elements.count → slot_listing (get_or slots (element_slot image ts k) 0) ≡ lister image ts (kind_of image ts k) (index_of image ts k) k
  own_slot h = held (kind_of image ts k) (index_of image ts k) (good.kind k h) (good.index k h)

  held_again :
      k < ts.elements.count → length slots ≡ slot_count → get_or slots (element_slot image ts k) 0 ≡ 0 →
      Held image ts (set slots (element_slot image ts k) (k + 1)) (k + 1)
  held_again h size free kind index p q =
      let pk = good.kind k h in
      let qk = good.index k h in
      let none : None ≡ lister image ts (kind_of image ts k) (index_of image ts k) k = rw free at (own_slot h) in
      by_three (slot_of kind index) (element_slot image ts k)
      (λ o. held_other kind index p q (λ e. omega arith))
      (λ o. held_other kind index p q (λ e. omega arith))
      (λ o. held_same kind index (omega arith) (sym none) (omega arith) (omega arith))

never : {P : Type 0} (place : ℕ) → Some place ≡ None → P
never place n = let z : ◌≡◌ {A = ℕ} 0 1 = cc in absurd (omega arith)

-- what the walk from element k on finds, the slots being these
pub record Walk (image : List ℕ) (ts : Tables) (slots : List ℕ) (k : ℕ) (first : Option ℕ) : Type 0 where
  pub left : found_from ts.elements (λ j. not (listed_before image ts j)) k ≡ first
  pub held : Held image ts slots k
  pub size : length slots ≡ slot_count

module _ (image : List ℕ) (ts : Tables) (good : ElementsGood image ts) (slots : List ℕ) (k slot word : ℕ) (first : Option ℕ)
    (h : k < ts.elements.count) (w : Walk image ts slots k first) (e : slot ≡ element_slot image ts k) (g : word ≡ get_or slots slot 0) where
  at_slot : slot_listing word ≡ lister image ts (kind_of image ts k) (index_of image ts k) k
  at_slot = rw (g, e) (own_slot image ts good slots k w.held h)

  -- the turn at an element whose thing is listed already
  pub walk_hit : (after : List ℕ) (place : ℕ) → first ≡ first_bad (twice_judged image ts) → (word ≡ 0 → ⊥) → place ≡ record_at ts.elements k → Listed image ts after (Some place)
  walk_hit after place t z p = record {
    twice =
        records_hit ts.elements (λ j. not (listed_before image ts j)) k first h w.left place p (slot_taken image ts k word at_slot z) ∙ t;
    held = λ n. never place n;
  }

  -- a turn at one whose thing is not
  pub walk_again : (next : List ℕ) → word ≡ 0 → next ≡ set slots slot (k + 1) → length next ≡ length slots → Walk image ts next (k + 1) first
  walk_again next z n l = record {
    left = records_again ts.elements (λ j. not (listed_before image ts j)) k first h w.left (slot_free image ts k word at_slot z);
    held = rw (n, e) (held_again image ts good slots k w.held h w.size (rw (← e, ← g) z));
    size = l ∙ w.size;
  }

-- before the first turn: empty slots hold the listings among no elements
pub walk_whole : (image : List ℕ) (ts : Tables) (slots : List ℕ) → slots ≡ replicate slot_count 0 → Walk image ts slots 0 (first_bad (twice_judged image ts))
unfolding lister first_from twice_judged
walk_whole image ts slots e = record {
  left = records_whole ts.elements (λ j. not (listed_before image ts j));
  held = λ kind index p q. rw (e, get_or-replicate {A = ℕ} slot_count (slot_of kind index) 0 0 (omega arith));
  size = rw e (length-replicate {A = ℕ} slot_count 0);
}

-- no element is left
pub walk_done : (image : List ℕ) (ts : Tables) (slots : List ℕ) (k : ℕ) → k ≤ ts.elements.count → ts.elements.count ≤ k → Walk image ts slots k (first_bad (twice_judged image ts)) → Listed image ts slots None
walk_done image ts slots k h l w =
    let e : k ≡ ts.elements.count = omega arith in
    record {
      twice = records_done ts.elements (λ j. not (listed_before image ts j)) k _ l w.left;
      held = λ _. rw e at w.held;
    }

-- An element whose last row is before its first; the first element, and a later one, whose rows are in order.

module _ (image : List ℕ) (ts : Tables) (k first last : ℕ) (e : first ≡ first_row image ts k) (f : last ≡ last_row image ts k) where
  pub rows_turned : last < first → true ≡ rows_broken image ts k
  rows_turned p = rw (← e, ← f) (simp (lt-ltb _ _ p))

  pub rows_alone : first ≤ last → k ≡ 0 → false ≡ rows_broken image ts k
  rows_alone p z = rw (← e, ← f) (simp (le-ltb _ _ p, z))

  pub rows_after : (before : ℕ) → before ≡ first_row image ts (k - 1) → first ≤ last → (k ≡ 0 → ⊥) → ltb first before ≡ rows_broken image ts k
  rows_after before g p z =
      let later : 0 < k = omega arith in
      let kept : first_row image ts k ≤ last_row image ts k = rw (e, f) at p in
      rw (e, g) (simp (le-ltb _ _ kept, lt-ltb _ _ later))

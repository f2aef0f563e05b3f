-- What holds of the list of elements by itself: what a listing is, and what it means that codes 7 and 8 find nothing.
use native.Mathlib.Omega.{arith}
use Prim.Native.Nat.{ℕ, suc, ◌-◌, ◌≤◌, ◌<◌}
use mathlib.Core.Bool.{Bool, true, false, not}
use mathlib.Core.List.{List}
use mathlib.Core.Logic.{◌↔◌}
use mathlib.Core.Path.{◌≡◌, refl, sym}
use lib.Dec.{ltb}
use borrow.Author.Tests.{ltb-false, lt-ltb, le-ltb}
use Rattle.std.specs.Prelude.{Some, None}
use Rattle.std.specs.Bool.{then_some}
use Rattle.ground.specs.Judged.{first_bad}
use Rattle.ground.proofs.Each.{by_bool, or_left, or_right, or_neither, number_some, some_number}
use Rattle.ground.proofs.First.{first_none, first_at, found_none}
use Rattle.ground.proofs.Order.{by_order}
use Rattle.layout.specs.declared.Tables.{Tables}
use Rattle.elements.specs.Elements.{kind_of, index_of, first_row, last_row, names, lister, listing, listed_before, twice_judged, rows_broken, order_judged, Once, Ordered}
use Rattle.elements.proofs.Records.{records_good_iff}
use Rattle.elements.proofs.Laws.{named, is_named}

-- a test that finds a place holds, and the place is its own
if_at : (test : Bool) (place at : ℕ) → then_some test place ≡ Some at → (test ≡ true) × (place ≡ at)
if_at true place at h = (refl, cc)
if_at false place at h = let z : ◌≡◌ {A = ℕ} 0 1 = cc in absurd (omega arith)

clash : {P : Type 0} {b : Bool} → b ≡ true → b ≡ false → P
clash p q = let z : ◌≡◌ {A = ℕ} 0 1 = cc in absurd (omega arith)

-- a test does not hold exactly where its negation does
not_iff : (b : Bool) → (not b ≡ true) ↔ (b ≡ false)
not_iff true = (λ e. sym e, λ e. sym e)
not_iff false = (λ e. refl, λ e. refl)

module _ (image : List ℕ) (ts : Tables) (kind index : ℕ) where
  -- The listing of a thing is an element of the list, and names the thing.
  pub listing_at : (k : ℕ) → listing image ts kind index ≡ Some k → (k < ts.elements.count) × (kind_of image ts k ≡ kind) × (index_of image ts k ≡ index)
  unfolding lister
  listing_at k h =
      let first = first_at (λ j. then_some (names image ts kind index j) j) 0 ts.elements.count k h in
      let hit = if_at (names image ts kind index first.0) first.0 k first.3 in
      let thing = rw hit.1 at (named image ts kind index first.0 hit.0) in
      (omega (arith, first.2, hit.1), thing.0, thing.1)

  -- Where a thing has no listing no element of the list names it.
  pub listing_none : listing image ts kind index ≡ None → (k : ℕ) → k < ts.elements.count → kind_of image ts k ≡ kind → index_of image ts k ≡ index → ⊥
  unfolding lister
  listing_none h k p e f =
      clash (is_named image ts kind index k e f)
      (found_none (names image ts kind index k) k (first_none _ 0 ts.elements.count h k (omega arith) (omega arith)))

module _ (image : List ℕ) (ts : Tables) where
  -- element k names what an earlier one names, and what none does

  earlier : (j k : ℕ) → j < k → kind_of image ts j ≡ kind_of image ts k → index_of image ts j ≡ index_of image ts k → listed_before image ts k ≡ true
  earlier j k h e f =
      number_some (names image ts (kind_of image ts k) (index_of image ts k)) 0 k j (omega arith) (omega arith)
      (is_named image ts (kind_of image ts k) (index_of image ts k) j e f)

  no_earlier : (k : ℕ) → ((j : ℕ) → j < k → kind_of image ts j ≡ kind_of image ts k → index_of image ts j ≡ index_of image ts k → ⊥) → listed_before image ts k ≡ false
  no_earlier k none =
      by_bool (listed_before image ts k)
      (λ t. let s = some_number (names image ts (kind_of image ts k) (index_of image ts k)) 0 k t in
      let n = named image ts (kind_of image ts k) (index_of image ts k) s.0 s.3 in
      absurd (none s.0 (omega (arith, s.2)) n.0 n.1))
      (λ t. t)

  -- Code 7 finds nothing exactly when no two elements name the same thing.
  pub twice_iff : (first_bad (twice_judged image ts) ≡ None) ↔ Once image ts
  unfolding twice_judged
  twice_iff =
      let each = records_good_iff ts.elements (λ k. not (listed_before image ts k)) in (
        (λ h j k p q e f. clash (earlier j k p e f) ((not_iff (listed_before image ts k)).0 (each.0 h k q))),
        (λ once. each.1 (λ k p. rw (no_earlier k (λ j q e f. once j k q p e f)))),
      )

  -- An element's rows are not broken exactly where they are in order, and not before the previous element's first.
  rows_iff : (k : ℕ) → (rows_broken image ts k ≡ false) ↔ ((first_row image ts k ≤ last_row image ts k) × (0 < k → first_row image ts (k - 1) ≤ first_row image ts k))
  rows_iff k = (
    (λ h. (
      ltb-false _ _ (or_left (ltb (last_row image ts k) (first_row image ts k)) _ h),
      λ o. ltb-false _ _ (rw (lt-ltb _ _ o) at (or_right (ltb (last_row image ts k) (first_row image ts k)) _ h)),
    )),
    (λ h. or_neither (le-ltb _ _ h.0)
        (by_order 0 k (λ o. rw (lt-ltb _ _ o, le-ltb _ _ (h.1 o))) (λ o. rw (le-ltb _ _ o)))),
  )

  -- Code 8 finds nothing exactly when the elements are in order.

  kept :
      first_bad (order_judged image ts) ≡ None → (k : ℕ) → k < ts.elements.count →
      (first_row image ts k ≤ last_row image ts k) × (0 < k → first_row image ts (k - 1) ≤ first_row image ts k)
  unfolding order_judged
  kept h k p = (rows_iff k).0 ((not_iff (rows_broken image ts k)).0 ((records_good_iff ts.elements (λ k. not (rows_broken image ts k))).0 h k p))

  pub order_iff : (first_bad (order_judged image ts) ≡ None) ↔ Ordered image ts
  unfolding order_judged
  order_iff = (
    (λ h. (
      λ k p. (kept h k p).0,
      λ k p. let e : suc k - 1 ≡ k = omega arith in rw e at ((kept h (suc k) p).1 (omega arith)),
    )),
    (λ o. (records_good_iff ts.elements (λ k. not (rows_broken image ts k))).1
        (λ k p. rw ((rows_iff k).1 (
          o.0 k p,
          λ q. let e : suc (k - 1) ≡ k = omega arith in rw e at (o.1 (k - 1) (omega arith)),
        )))),
  )

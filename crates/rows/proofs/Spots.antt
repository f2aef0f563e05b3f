-- The rows that spots touch: of two lists one after the other, of one spot, and of ink down a column and along a row.
use Rattle.std.specs.Prelude.{None}
use native.Mathlib.Omega.{arith}
use Prim.Native.Nat.{ℕ, zero, suc, ◌+◌, ◌-◌, ◌≤◌, ◌<◌, min, max}
use mathlib.Core.Bool.{Bool, true, false, ◌&&◌, ◌||◌, and-true, and-false, or-false}
use mathlib.Core.List.{List, [], ◌∷◌, ◌++◌, map}
use mathlib.Core.Path.{◌≡◌, refl, sym, ◌∙◌}
use lib.Dec.{leb, ltb, eqb}
use borrow.Author.Tests.{le-leb, lt-leb, lt-ltb, le-ltb, eq-eqb, ne_eqb}
use Rattle.ground.specs.Each.{numbers, between, each, some}
use Rattle.ground.proofs.Order.{by_order}
use Rattle.ground.proofs.Each.{some_append, some_each}
use Rattle.rows.specs.declared.Window.{Window}
use Rattle.rows.specs.Spots.{Ink, Spot, at, inks, spot_touches, touches}
use Rattle.rows.specs.Window.{join_rows, touched_rows}
use Rattle.rows.specs.Computed.{window_rows}
use Rattle.rows.proofs.Windows.{touched_or, touched_same, touched_none, window_rows_lem, window_row}

module _ (ranges : List ℕ) where
  -- Two lists one after the other.
  pub touches_append : (k l : List Spot) (y : ℕ) → touches ranges (k ++ l) y ≡ touches ranges k y || touches ranges l y
  unfolding touches
  touches_append k l y = some_append (spot_touches ranges y) k l

  -- What each of a list makes.
  pub touches_each : {A : Type 0} (f : A → List Spot) (l : List A) (y : ℕ) → touches ranges (each l f) y ≡ some l (λ a. touches ranges (f a) y)
  unfolding touches
  touches_each f l y = some_each f (spot_touches ranges y) l

  -- One spot that makes ink, and one that makes none.

  pub touches_one : (x row y : ℕ) (ink : Ink) → inks ranges ink ≡ true → touches ranges (at x row ink ∷ []) y ≡ eqb row y
  unfolding touches some
  touches_one x row y ink h = rw (h, and-true (eqb row y)) (or-false (eqb row y))

  pub touches_blank : (x row y : ℕ) (ink : Ink) → inks ranges ink ≡ false → touches ranges (at x row ink ∷ []) y ≡ false
  unfolding touches some
  touches_blank x row y ink h = rw (h, and-false (eqb row y))

  -- Ink down a column.
  pub touches_down :
      (x : ℕ) (f : ℕ → Ink) → ((k : ℕ) → inks ranges (f k) ≡ true) → (k n y : ℕ) →
      touches ranges (map (λ r. at x r (f r)) (numbers k n)) y ≡ (leb k y && ltb y (k + n))
  unfolding touches some numbers
  touches_down x f h k zero y =
      by_order y k
      (λ o. rw (lt-leb _ _ o))
      (λ o. let e : k + 0 ≤ y = omega arith in rw (le-ltb _ _ e) (sym (and-false (leb k y))))
  touches_down x f h k (suc n) y =
      rw (h k, and-true (eqb k y), touches_down x f h (suc k) n y)
      (by_order y k
      (λ o. let p : y < suc k = omega arith in rw (ne_eqb k y (λ e. omega arith), lt-leb _ _ o, lt-leb _ _ p))
      (λ o. by_order k y
      (λ p. let q : suc k ≤ y = omega arith in
      let e : suc k + n ≡ k + suc n = omega arith in
      rw (ne_eqb k y (λ e. omega arith), le-leb _ _ o, le-leb _ _ q, e))
      (λ p. let e : k ≡ y = omega arith in let q : y < k + suc n = omega arith in
      rw (eq-eqb _ _ e, le-leb _ _ o, lt-ltb _ _ q))))

  -- Ink along a row.
  pub touches_along :
      (row : ℕ) (f : ℕ → Ink) → ((k : ℕ) → inks ranges (f k) ≡ true) → (k n y : ℕ) →
      touches ranges (map (λ x. at x row (f x)) (numbers k n)) y ≡ (ltb 0 n && eqb row y)
  unfolding touches some numbers
  touches_along row f h k zero y = refl
  touches_along row f h k (suc n) y =
      let p : 0 < suc n = omega arith in
      rw (h k, and-true (eqb row y), touches_along row f h (suc k) n y, lt-ltb _ _ p) (twice (eqb row y) (ltb 0 n))
    where
      twice : (a b : Bool) → (a || (b && a)) ≡ a
      twice true b = refl
      twice false true = refl
      twice false false = refl

-- The same as rows of a window.
module _ (w : Window) (ranges : List ℕ) where
  pub rows_nil : touched_rows w (touches ranges []) ≡ None
  unfolding touches some
  rows_nil = touched_none w _ (λ y i j. refl)

  pub rows_append :
      (k l : List Spot) →
      touched_rows w (touches ranges (k ++ l)) ≡ join_rows (touched_rows w (touches ranges k)) (touched_rows w (touches ranges l))
  rows_append k l =
      touched_same w (touches ranges (k ++ l)) (λ y. touches ranges k y || touches ranges l y) (λ y i j. touches_append ranges k l y)
      ∙ touched_or w (touches ranges k) (touches ranges l)

  pub rows_one : (x row : ℕ) (ink : Ink) → inks ranges ink ≡ true → touched_rows w (touches ranges (at x row ink ∷ [])) ≡ window_rows w row row
  rows_one x row ink h =
      touched_same w _ (λ y. eqb row y) (λ y i j. touches_one ranges x row y ink h) ∙ sym (window_row w row)

  pub rows_blank : (x row : ℕ) (ink : Ink) → inks ranges ink ≡ false → touched_rows w (touches ranges (at x row ink ∷ [])) ≡ None
  rows_blank x row ink h = touched_none w _ (λ y i j. touches_blank ranges x row y ink h)

  -- down a column, strictly between two rows
  pub rows_down :
      (x a b : ℕ) (f : ℕ → Ink) → ((k : ℕ) → inks ranges (f k) ≡ true) →
      touched_rows w (touches ranges (map (λ r. at x r (f r)) (between a b))) ≡ window_rows w (min a b + 1) (max a b - 1)
  rows_down x a b f h =
      touched_same w _ (λ y. leb low y && leb y (max a b - 1))
      (λ y i j. touches_down ranges x f h low (max a b - low) y ∙ same y) ∙ sym (window_rows_lem w low (max a b - 1))
    where
      low : ℕ
      low = min a b + 1

      same : (y : ℕ) → (leb low y && ltb y (low + (max a b - low))) ≡ (leb low y && leb y (max a b - 1))
      same y =
          by_order y low
          (λ o. rw (lt-leb _ _ o))
          (λ o. by_order y (max a b)
          (λ p. let u : y < low + (max a b - low) = omega arith in let v : y ≤ max a b - 1 = omega arith in rw (lt-ltb _ _ u, le-leb _ _ v))
          (λ p. let u : low + (max a b - low) ≤ y = omega arith in let v : max a b - 1 < y = omega arith in rw (le-ltb _ _ u, lt-leb _ _ v)))

  -- along a row, strictly between two columns
  pub rows_along_lem :
      (row a b : ℕ) (f : ℕ → Ink) → ((k : ℕ) → inks ranges (f k) ≡ true) →
      touched_rows w (touches ranges (map (λ x. at x row (f x)) (between a b)))
      ≡ touched_rows w (λ y. ltb (min a b + 1) (max a b) && eqb row y)
  rows_along_lem row a b f h =
      touched_same w _ _ (λ y i j. touches_along ranges row f h (min a b + 1) (max a b - (min a b + 1)) y ∙ same y)
    where
      same : (y : ℕ) → (ltb 0 (max a b - (min a b + 1)) && eqb row y) ≡ (ltb (min a b + 1) (max a b) && eqb row y)
      same y =
          by_order (min a b + 1) (max a b)
          (λ o. let u : 0 < max a b - (min a b + 1) = omega arith in rw (lt-ltb _ _ o, lt-ltb _ _ u))
          (λ o. let u : max a b - (min a b + 1) ≤ 0 = omega arith in rw (le-ltb _ _ o, le-ltb _ _ u))

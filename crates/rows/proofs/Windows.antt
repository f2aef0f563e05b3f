-- Rows of a window: that `touchedRows` are the first and the last on which the test holds, that no others are, and what two tests, a stretch of rows and
-- the code's clipping come to.
use Rattle.std.specs.Prelude.{Option, None, Some}
use native.Mathlib.Omega.{arith}
use Prim.Native.Nat.{ℕ, zero, suc, ◌+◌, ◌-◌, ◌≤◌, ◌<◌, min, max}
use mathlib.Core.Bool.{Bool, true, false, ◌&&◌, ◌||◌, and-false}
use mathlib.Core.Path.{◌≡◌, refl, sym, ap, ◌∙◌}
use lib.Dec.{leb, ltb, eqb}
use borrow.Author.Tests.{le-leb, lt-leb, lt-ltb, le-ltb, leb-true, eq-eqb, ne_eqb}
use Rattle.ground.proofs.Order.{by_order}
use Rattle.ground.proofs.Each.{by_bool, by_or, and_left, and_right, and_both, or_neither}
use Rattle.rows.specs.declared.Rows.{Rows}
use Rattle.rows.specs.declared.Window.{Window}
use Rattle.rows.specs.Window.{in_window, stretch, join_rows, rows_from, touched_rows, FirstAndLast}
use Rattle.rows.specs.Computed.{rows_up_to, window_rows}

-- no test both holds and does not
pub clash : {P : Type 0} {b : Bool} → b ≡ true → b ≡ false → P
clash p q = let z : ◌≡◌ {A = ℕ} 0 1 = cc in absurd (omega arith)

-- Rows with the same first and last are the same.
pub stretch_same : (r s : Rows) → r.first ≡ s.first → r.last ≡ s.last → Some r ≡ Some s
stretch_same r s e f = ap (λ (a : ℕ). stretch a r.last) e ∙ ap (stretch s.first) f

-- Two answers for one test are one.
pub rows_unique : (top n : ℕ) (test : ℕ → Bool) (r s : Option Rows) → FirstAndLast top n test r → FirstAndLast top n test s → r ≡ s
rows_unique top n test None None p q = refl
rows_unique top n test None (Some s) p q = clash q.3 (p s.first q.0 (omega (arith, q.1, q.2)))
rows_unique top n test (Some r) None p q = clash p.3 (q r.first p.0 (omega (arith, p.1, p.2)))
rows_unique top n test (Some r) (Some s) p q =
    let u = p.5 s.first q.0 (omega (arith, q.1, q.2)) q.3 in
    let v = p.5 s.last (omega (arith, q.0, q.1)) q.2 q.4 in
    let x = q.5 r.first p.0 (omega (arith, p.1, p.2)) p.3 in
    let y = q.5 r.last (omega (arith, p.0, p.1)) p.2 p.4 in
    stretch_same r s (omega (arith, u.0, x.0)) (omega (arith, v.1, y.1))

-- Two tests, of which one has to hold, come to both's rows together.
module _ (top n : ℕ) (one other : ℕ → Bool) where
  abbrev either : ℕ → Bool
  either y = one y || other y

  or_one : (y : ℕ) → one y ≡ true → either y ≡ true
  or_one y p = rw p

  or_other : (y : ℕ) → other y ≡ true → either y ≡ true
  or_other y p = by_bool (one y) (λ q. rw q) (λ q. rw (q, p))

  join_first_last : (r s : Option Rows) → FirstAndLast top n one r → FirstAndLast top n other s → FirstAndLast top n either (join_rows r s)
  join_first_last None None p q = λ y i j. or_neither (p y i j) (q y i j)
  join_first_last None (Some s) p q = (
    q.0,
    q.1,
    q.2,
    or_other s.first q.3,
    or_other s.last q.4,
    λ y i j t. by_or (one y) (other y) t (λ u. clash u (p y i j)) (λ u. q.5 y i j u),
  )
  join_first_last (Some r) None p q = (
    p.0,
    p.1,
    p.2,
    or_one r.first p.3,
    or_one r.last p.4,
    λ y i j t. by_or (one y) (other y) t (λ u. p.5 y i j u) (λ u. clash u (q y i j)),
  )
  join_first_last (Some r) (Some s) p q = (
    omega (arith, p.0, q.0),
    omega (arith, p.1, q.1),
    omega (arith, p.2, q.2),
    least,
    greatest,
    λ y i j t. by_or (one y) (other y) t
        (λ u. let k = p.5 y i j u in (omega (arith, k.0), omega (arith, k.1)))
        (λ u. let k = q.5 y i j u in (omega (arith, k.0), omega (arith, k.1))),
  )
    where
      least : either (min r.first s.first) ≡ true
      least =
          by_order s.first r.first
          (λ o. let e : min r.first s.first ≡ s.first = omega arith in rw e (or_other s.first q.3))
          (λ o. let e : min r.first s.first ≡ r.first = omega arith in rw e (or_one r.first p.3))

      greatest : either (max r.last s.last) ≡ true
      greatest =
          by_order r.last s.last
          (λ o. let e : max r.last s.last ≡ s.last = omega arith in rw e (or_other s.last q.4))
          (λ o. let e : max r.last s.last ≡ r.last = omega arith in rw e (or_one r.last p.4))

-- The definition is the first and the last.
module _ (test : ℕ → Bool) where
  -- one row more, before the others
  module _ (a n : ℕ) where
    on : (r : Option Rows) → test a ≡ true → FirstAndLast (suc a) n test r → FirstAndLast a (suc n) test (join_rows (stretch a a) r)
    on None t p = (
      omega arith,
      omega arith,
      omega arith,
      t,
      t,
      λ y i j u. by_order a y
          (λ o. clash u (p y (omega arith) (omega arith)))
          (λ o. (omega arith, omega arith)),
    )
    on (Some s) t p =
        let e : min a s.first ≡ a = omega (arith, p.0) in
        let f : max a s.last ≡ s.last = omega (arith, p.0, p.1) in
        rw (e, f)
        ((
          omega arith,
          omega (arith, p.0, p.1),
          omega (arith, p.2),
          t,
          p.4,
          λ y i j u. by_order a y
              (λ o. let k = p.5 y (omega arith) (omega arith) u in (omega arith, omega (arith, k.1)))
              (λ o. (omega arith, omega (arith, p.0, p.1))),
        ))

    off : (r : Option Rows) → test a ≡ false → FirstAndLast (suc a) n test r → FirstAndLast a (suc n) test r
    off None t p =
        λ y i j. by_order a y
        (λ o. p y (omega arith) (omega arith))
        (λ o. let e : y ≡ a = omega arith in rw e t)
    off (Some s) t p = (
      omega (arith, p.0),
      p.1,
      omega (arith, p.2),
      p.3,
      p.4,
      λ y i j u. by_order a y
          (λ o. p.5 y (omega arith) (omega arith) u)
          (λ o. let e : y ≡ a = omega arith in clash u (rw e t)),
    )

  from_first_last : (a n : ℕ) → FirstAndLast a n test (rows_from test a n)
  unfolding rows_from
  from_first_last a zero = λ y i j. absurd (omega arith)
  from_first_last a (suc n) =
      by_bool (test a)
      (λ t. rw t (on a n (rows_from test (suc a) n) t (from_first_last (suc a) n)))
      (λ t. rw t (off a n (rows_from test (suc a) n) t (from_first_last (suc a) n)))

  pub touched_first_last : (w : Window) → FirstAndLast w.first w.rows test (touched_rows w test)
  unfolding touched_rows
  touched_first_last w = from_first_last w.first w.rows

  -- and whatever is the first and the last is the definition
  pub first_last_touched : (w : Window) (r : Option Rows) → FirstAndLast w.first w.rows test r → r ≡ touched_rows w test
  first_last_touched w r p = rows_unique w.first w.rows test r (touched_rows w test) p (touched_first_last w)

-- Two tests of which one holds: their rows together.
pub touched_or :
    (w : Window) (one other : ℕ → Bool) →
    touched_rows w (λ y. one y || other y) ≡ join_rows (touched_rows w one) (touched_rows w other)
touched_or w one other =
    sym
    (first_last_touched (λ y. one y || other y) w (join_rows (touched_rows w one) (touched_rows w other))
    (join_first_last w.first w.rows one other (touched_rows w one) (touched_rows w other) (touched_first_last one w) (touched_first_last other w)))

-- Tests that agree on the rows of the window have the same rows.
pub touched_same :
    (w : Window) (one other : ℕ → Bool) →
    ((y : ℕ) → w.first ≤ y → y < w.first + w.rows → one y ≡ other y) →
    touched_rows w one ≡ touched_rows w other
touched_same w one other same = first_last_touched other w (touched_rows w one) (carry (touched_rows w one) (touched_first_last one w))
  where
    carry : (r : Option Rows) → FirstAndLast w.first w.rows one r → FirstAndLast w.first w.rows other r
    carry None p = λ y i j. sym (same y i j) ∙ p y i j
    carry (Some r) p = (
      p.0,
      p.1,
      p.2,
      sym (same r.first p.0 (omega (arith, p.1, p.2))) ∙ p.3,
      sym (same r.last (omega (arith, p.0, p.1)) p.2) ∙ p.4,
      λ y i j u. p.5 y i j (same y i j ∙ u),
    )

-- A test that holds on no row.
pub touched_none : (w : Window) (test : ℕ → Bool) → ((y : ℕ) → w.first ≤ y → y < w.first + w.rows → test y ≡ false) → touched_rows w test ≡ None
touched_none w test off = sym (first_last_touched test w None off)

-- The rows from a to b that a window has, as the code finds them.
pub window_rows_lem : (w : Window) (a b : ℕ) → window_rows w a b ≡ touched_rows w (λ y. leb a y && leb y b)
unfolding window_rows
window_rows_lem w a b = first_last_touched (λ y. leb a y && leb y b) w (window_rows w a b) found
  where
    inside : (y : ℕ) → a ≤ y → y ≤ b → leb a y && leb y b ≡ true
    inside y p q = and_both (le-leb _ _ p) (le-leb _ _ q)

    from : (y : ℕ) → leb a y && leb y b ≡ true → a ≤ y
    from y u = leb-true a y (and_left (leb a y) (leb y b) u)

    to : (y : ℕ) → leb a y && leb y b ≡ true → y ≤ b
    to y u = leb-true y b (and_right (leb a y) (leb y b) u)

    found : FirstAndLast w.first w.rows (λ y. leb a y && leb y b) (rows_up_to (max a w.first) (min (b + 1) (w.first + w.rows)))
    found =
        by_order (max a w.first) (min (b + 1) (w.first + w.rows))
        (λ o. rw (lt-ltb _ _ o)
        ((
          omega arith,
          omega arith,
          omega arith,
          inside _ (omega arith) (omega arith),
          inside _ (omega arith) (omega arith),
          λ y i j u. (omega (arith, from y u), omega (arith, to y u)),
        )))
        (λ o. rw (le-ltb _ _ o)
        (λ y i j. by_bool (leb a y && leb y b)
        (λ u. absurd (omega (arith, from y u, to y u)))
        (λ u. u)))

-- Clipped to a window: nothing is left, and from a row to another.

pub clipped_none : (w : Window) (a b : ℕ) → min (b + 1) (w.first + w.rows) ≤ max a w.first → None ≡ window_rows w a b
unfolding window_rows
clipped_none w a b h = rw (le-ltb _ _ h)

pub clipped :
    (w : Window) (a b low high : ℕ) →
    low ≡ max a w.first →
    high + 1 ≡ min (b + 1) (w.first + w.rows) →
    low ≤ high →
    stretch low high ≡ window_rows w a b
unfolding window_rows
clipped w a b low high p q h =
    let o : low < high + 1 = omega arith in
    let e : high + 1 - 1 ≡ high = omega arith in
    rw (← p, ← q, lt-ltb _ _ o, e)

-- A row of the window, by the distance from its first row.
pub in_window_lem : (w : Window) (y : ℕ) → w.first ≤ y → ltb (y - w.first) w.rows ≡ in_window w y
unfolding in_window
in_window_lem w y h =
    by_order y (w.first + w.rows)
    (λ o. let d : y - w.first < w.rows = omega arith in rw (le-leb _ _ h, lt-ltb _ _ o, lt-ltb _ _ d))
    (λ o. let d : w.rows ≤ y - w.first = omega arith in rw (le-leb _ _ h, le-ltb _ _ o, le-ltb _ _ d))

-- One row.
pub window_row : (w : Window) (r : ℕ) → window_rows w r r ≡ touched_rows w (λ y. eqb r y)
window_row w r = window_rows_lem w r r ∙ touched_same w (λ y. leb r y && leb y r) (λ y. eqb r y) (λ y i j. same y)
  where
    same : (y : ℕ) → leb r y && leb y r ≡ eqb r y
    same y =
        by_order r y
        (λ o. rw (lt-leb _ _ o) (and-false (leb r y) ∙ sym (ne_eqb r y (λ e. omega arith))))
        (λ o. by_order y r
        (λ p. rw (lt-leb _ _ p) (sym (ne_eqb r y (λ e. omega arith))))
        (λ p. let e : r ≡ y = omega arith in rw (le-leb _ _ o, le-leb _ _ p) (sym (eq-eqb _ _ e))))

-- Four arms at their place in the table, what stands there, and what a cell's parts are written as.
use native.Mathlib.Omega.{arith}
use Prim.Native.Nat.{ℕ, zero, suc, ◌+◌, ◌*◌, ◌/◌, ◌%◌, ◌≤◌, ◌<◌}
use mathlib.Core.Path.{◌≡◌, refl, sym, ap, ◌∙◌}
use mathlib.Core.Bool.{Bool, true, false, cond, ◌&&◌, ◌||◌}
use mathlib.Core.List.{List, [], ◌∷◌}
use lib.Dec.{eqb, leb}
use lib.ListN.{get_or}
use borrow.Author.Tests.{leb-true, eqb-false, ne_eqb}
use Rattle.std.specs.Prelude.{Option, None, Some}
use Rattle.ground.specs.Each.{numbers, each, some, every}
use Rattle.ground.proofs.Each.{every_number, and_left, and_right, by_bool, cond_holds}
use Rattle.cell.specs.declared.Arms.{Arms}
use Rattle.cell.specs.declared.MarkerKind.{MarkerKind}
use Rattle.cell.specs.declared.MarkerKind.TheVariants.{Arrow, SelfLoop, Dummy}
use Rattle.cell.specs.declared.Dir.{Dir}
use Rattle.cell.specs.declared.Dir.TheVariants.{Up, Down, Left, Right}
use Rattle.cell.specs.declared.Parts.{Parts}
use Rattle.cell.specs.OneCell.{marker_of, dir_of, read_arms, read_text, read_marker, read}
use Rattle.cell.proofs.Laws.{weight_small, weight_back}
use Rattle.shapes.specs.Block.{block}
use Rattle.shapes.specs.Shapes.{arms_number, arms_at, drawn_as, instead, stroke_shape, stroke_table}
use Rattle.shapes.specs.Shapes.{marker_shape, shape_of, drawable, draws}

-- Four arms and their place.

places :
    (u d l r k : ℕ) → u ≤ 3 → d ≤ 3 → l ≤ 3 → r ≤ 3 → k ≡ u + 4 * d + 16 * l + 64 * r →
    (k % 4 ≡ u) × (k / 4 % 4 ≡ d) × (k / 16 % 4 ≡ l) × (k / 64 % 4 ≡ r)
places u d l r k hu hd hl hr e = omega arith

-- the arms at their place are the arms
arms_back : (a : Arms) → arms_at (arms_number a) ≡ a
arms_back a =
    let small = weight_small in
    let f = places _ _ _ _ (arms_number a) (small a.up) (small a.down) (small a.left) (small a.right) refl in
    rw (f.0, f.1, f.2, f.3, weight_back a.up, weight_back a.down, weight_back a.left, weight_back a.right)

-- their place is one of the table
arms_small : (a : Arms) → arms_number a < 256
arms_small a =
    omega (arith, weight_small a.up, weight_small a.down, weight_small a.left, weight_small a.right)

-- The table at a place.

-- the list of what numbers make, one thing each, at a place
each_at :
    (f : ℕ → ℕ) (first n k : ℕ) → k < n → get_or (each (numbers first n) (λ j. f j ∷ [])) k 0 ≡ f (first + k)
unfolding each numbers
each_at f first zero k h = absurd (omega arith)
each_at f first (suc n) zero h = let e : first + 0 ≡ first = omega arith in rw e
each_at f first (suc n) (suc k) h =
    let e : first + suc k ≡ suc first + k = omega arith in
    rw e (each_at f (suc first) n k (omega arith))

stroke_at : (a : Arms) → get_or stroke_table (arms_number a) 0 ≡ stroke_shape a
unfolding stroke_table
stroke_at a =
    let e : 0 + arms_number a ≡ arms_number a = omega arith in
    rw (e, arms_back a) at (each_at (λ k. stroke_shape (arms_at k)) 0 256 (arms_number a) (arms_small a))

-- what is found at the place of four arms
pub stroke_found :
    (a : Arms) (table : List ℕ) (n place r : ℕ) →
    table ≡ stroke_table → n ≡ arms_number a → place ≡ n → r ≡ get_or table place 0 → r ≡ stroke_shape a
stroke_found a table n place r t p q e = e ∙ rw (t, q, p) (stroke_at a)

-- The rule of the table, by one test that is computed at each of its places.

abbrev armless : Arms → Bool
armless a = eqb (arms_number a) 0

abbrev within : Arms → Bool
within a = leb 0x2500 (stroke_shape a) && leb (stroke_shape a) 0x257F

abbrev fitting : Arms → Bool
fitting a = cond (drawable a) (draws (stroke_shape a) a) (armless a || draws (stroke_shape a) (instead a))

right : Arms → Bool
right a = fitting a && (armless a || within a)

all_right : every (numbers 0 256) (λ k. right (arms_at k)) ≡ true
unfolding every numbers some right block drawn_as instead stroke_shape drawable draws
all_right = refl

module _ (a : Arms) where
  is_right : right a ≡ true
  is_right =
      let at = every_number (λ k. right (arms_at k)) 0 256 all_right (arms_number a) in
      rw (arms_back a) at (at (omega arith) (omega (arith, arms_small a)))

  is_fitting : fitting a ≡ true
  unfolding right
  is_fitting = and_left (fitting a) _ is_right

  pub stroke_exact : drawable a ≡ true → draws (stroke_shape a) a ≡ true
  stroke_exact has = rw has at is_fitting

  module _ (armed : arms_number a ≡ 0 → ⊥) where
    pub stroke_chosen : drawable a ≡ false → draws (stroke_shape a) (instead a) ≡ true
    stroke_chosen none = rw (none, ne_eqb _ _ armed) at is_fitting

    is_within : within a ≡ true
    unfolding right
    is_within = rw (ne_eqb _ _ armed) at (and_right (fitting a) _ is_right)

    pub in_block : (0x2500 ≤ stroke_shape a) × (stroke_shape a ≤ 0x257F)
    in_block = (
      leb-true _ _ (and_left (leb 0x2500 (stroke_shape a)) _ is_within),
      leb-true _ _ (and_right (leb 0x2500 (stroke_shape a)) _ is_within),
    )

  -- its character lies from the space to the end of the block
  pub stroke_bound : (0x20 ≤ stroke_shape a) × (stroke_shape a ≤ 0x257F)
  unfolding stroke_shape
  stroke_bound =
      by_bool (eqb (arms_number a) 0)
      (λ none. rw none (omega arith, omega arith))
      (λ armed. let b = in_block (eqb-false _ _ armed) in (omega (arith, b.0), b.1))

-- A marker's character, and a character of any cell.

pub marker_bound : (k : MarkerKind) (d : Dir) → (0x20 ≤ marker_shape k d) × (marker_shape k d ≤ 0x25CD)
unfolding marker_shape
marker_bound Arrow Up = omega arith
marker_bound Arrow Down = omega arith
marker_bound Arrow Left = omega arith
marker_bound Arrow Right = omega arith
marker_bound SelfLoop d = omega arith
marker_bound Dummy d = omega arith

-- a character has at most 21 bits

abbrev Small : Option ℕ → Type 0
Small None = Unit {0}
Small (Some ch) = ch < 0x200000

abbrev SmallShape : Parts → Type 0
SmallShape p = Small (shape_of p)

read_small : (w : ℕ) → SmallShape (read w)
unfolding read read_text read_marker shape_of
read_small w =
    let stroke = stroke_bound (read_arms w) in
    let marker = marker_bound (marker_of (w % 16)) (dir_of (w / 16 % 4)) in
    cond_holds SmallShape (eqb (w / 0x40000000) 0) (omega arith)
    (cond_holds SmallShape (eqb (w / 0x40000000) 1)
    (cond_holds SmallShape (eqb (w / 0x200000 % 2) 1) tt (omega arith))
    (cond_holds SmallShape (eqb (w / 0x40000000) 2) (omega (arith, stroke.1)) (omega (arith, marker.1))))

pub shape_small : (w ch : ℕ) (s : Option ℕ) → s ≡ shape_of (read w) → s ≡ Some ch → ch < 0x200000
shape_small w ch s p q = rw (sym p ∙ q) at (read_small w)

-- what a word is written as, by the parts that it reads as
pub written_as : (w : ℕ) (p q : Parts) (s : Option ℕ) → p ≡ read w → p ≡ q → s ≡ shape_of q → s ≡ shape_of (read w)
written_as w p q s r e f = f ∙ ap shape_of (sym e ∙ r)

-- a word with the tag of an empty cell is written as a space
pub empty_written : (w : ℕ) → w < 0x40000000 → Some 0x20 ≡ shape_of (read w)
unfolding read shape_of
empty_written w below = let tag : w / 0x40000000 ≡ 0 = omega arith in rw tag

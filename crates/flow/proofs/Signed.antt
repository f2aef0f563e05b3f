-- Sums and differences of two small numbers in signed 64 bits: each fits, and is the place along the flow; and a signed number as a coordinate.
use Rattle.std.specs.Prelude.{Option, Some, None}
use Prim.Native.Nat.{ℕ, zero, suc, ◌+◌, ◌-◌, ◌*◌, ◌≤◌, ◌<◌}
use native.Mathlib.Omega.{arith}
use mathlib.Core.Path.{◌≡◌, refl, sym, ap, ◌∙◌, subst}
use mathlib.Core.Bool.{Bool, true, false}
use lib.Dec.{T}
use lib.IntN.{ℤ, pos, negsuc, nat_abs, neg_ℤ, ◌+ℤ◌, ◌-ℤ◌, ◌*ℤ◌}
use lib.Signed.{lt_z, non_neg}
use mir.Syntax.{w64}
use mir.Val.{Fits, SFits, to_z, of_z}
use mir.ValLaws.{to_z_pos, to_z-of_z}
use borrow.Author.Tests.{lt-ltb, le-ltb, ltb-true}
use Rattle.ground.proofs.Order.{by_order}
use Rattle.flow.specs.Flow.{sign_of, coordinate_of, along}
use Rattle.flow.specs.Bounds.{SmallCoordinate}

-- the difference of two numbers, where it is one, and where it lies below 0

minus_at : (a b : ℕ) → b ≤ a → pos a -ℤ pos b ≡ pos (a - b)
minus_at a zero h =
    let e : a + 0 ≡ a - 0 = omega arith in
    ap pos e
minus_at a (suc b) h = simp (le-ltb a (suc b) h)

minus_below : (a b : ℕ) → a < b → pos a -ℤ pos b ≡ negsuc (b - suc a)
minus_below a zero h =
    let no : ⊥ = omega arith in
    absurd no
minus_below a (suc b) h = simp (lt-ltb a (suc b) h)

-- a test is not both
never : false ≡ true → ⊥
never e =
    let z : ◌≡◌ {A = ℕ} 0 1 = cc in
    omega arith

-- a number in signed 64 bits, read back
abbrev pub read_back : ℤ → ℤ
read_back z = to_z w64 (of_z w64 z)

-- A signed number as a coordinate: one that the test finds below 0, and one that it does not, which is then an index.

below_0 : (z : ℤ) → lt_z z (pos 0) ≡ true → None ≡ coordinate_of z
below_0 (pos n) t = absurd (omega (arith, ltb-true n 0 t))
below_0 (negsuc n) t = refl

at_0 : (z : ℤ) → lt_z z (pos 0) ≡ false → Some (nat_abs z) ≡ coordinate_of z
at_0 (pos n) t = refl
at_0 (negsuc n) t = absurd (never (sym t))

index_0 : (z : ℤ) → SFits w64 z → lt_z z (pos 0) ≡ false → T (non_neg z) × Fits w64 (nat_abs z)
index_0 (pos n) f t = (tt, record { fits = omega (arith, f.sfits) })
index_0 (negsuc n) f t = absurd (never (sym t))

module _ (z : ℤ) (f : SFits w64 z) where
  same : read_back z ≡ z
  same = to_z-of_z w64 z f

  pub tested_below : lt_z (read_back z) (pos 0) ≡ true → None ≡ coordinate_of z
  tested_below t = below_0 z (subst (λ (x : ℤ). lt_z x (pos 0) ≡ true) same t)

  pub tested_at : lt_z (read_back z) (pos 0) ≡ false → Some (nat_abs (read_back z)) ≡ coordinate_of z
  tested_at t =
      subst (λ (x : ℤ). Some (nat_abs x) ≡ coordinate_of z) (sym same) (at_0 z (subst (λ (x : ℤ). lt_z x (pos 0) ≡ false) same t))

  pub tested_index : lt_z (read_back z) (pos 0) ≡ false → T (non_neg (read_back z)) × Fits w64 (nat_abs (read_back z))
  tested_index t =
      subst (λ (x : ℤ). T (non_neg x) × Fits w64 (nat_abs x)) (sym same)
      (index_0 z f (subst (λ (x : ℤ). lt_z x (pos 0) ≡ false) same t))

-- The sum by its sign: with the flow, against it, and below 0.

one_times : (n : ℕ) → 1 * n ≡ n
one_times n = omega arith

sum_with : (a b : ℕ) → pos a +ℤ sign_of true *ℤ pos b ≡ pos (a + b)
sum_with a b = rw (one_times b)

sum_back : (a b : ℕ) → b ≤ a → pos a +ℤ sign_of false *ℤ pos b ≡ pos (a - b)
sum_back a b h = rw (one_times b) (minus_at a b h)

sum_below : (a b : ℕ) → a < b → pos a +ℤ sign_of false *ℤ pos b ≡ negsuc (b - suc a)
sum_below a b h = rw (one_times b) (minus_below a b h)

-- In plain words: the coordinate itself, or that it lies below 0.

pub along_with : (a b : ℕ) → along true a b ≡ Some (a + b)
unfolding along
along_with a b = ap coordinate_of (sum_with a b)

pub along_back : (a b : ℕ) → b ≤ a → along false a b ≡ Some (a - b)
unfolding along
along_back a b h = ap coordinate_of (sum_back a b h)

pub along_below : (a b : ℕ) → a < b → along false a b ≡ None
unfolding along
along_below a b h = ap coordinate_of (sum_below a b h)

-- what is small fits

small : (z : ℤ) (n : ℕ) → n < 0x1000000000000 → z ≡ pos n → SFits w64 z
small z n h e = rw e (record { sfits = omega arith })

small_below : (z : ℤ) (n : ℕ) → n < 0x1000000000000 → z ≡ negsuc n → SFits w64 z
small_below z n h e = rw e (record { sfits = omega arith })

sign_fits : (s : Bool) → SFits w64 (sign_of s)
sign_fits true = small _ 1 (omega arith) refl
sign_fits false = small_below _ 0 (omega arith) refl

negated_fits : (b : ℕ) → b < 0x800000000000 → SFits w64 (neg_ℤ (pos b))
negated_fits zero h = small _ 0 (omega arith) refl
negated_fits (suc b) h = small_below _ b (omega arith) refl

signed_fits : (s : Bool) (b : ℕ) → b < 0x800000000000 → SFits w64 (sign_of s *ℤ pos b)
signed_fits true b h = small _ b (omega arith) (rw (one_times b))
signed_fits false b h = rw (one_times b) (negated_fits b h)

-- The product and the sum as the code makes them: they fit, and the sum as a coordinate is the one along the flow.

module _ (s : Bool) (sign : ℤ) (b : ℕ) (e : sign ≡ sign_of s) (hb : b < 0x800000000000) where
  product_is : read_back sign *ℤ to_z w64 b ≡ sign_of s *ℤ pos b
  product_is = rw (e, same _ (sign_fits s), to_z_pos w64 b (omega arith))

  pub product_fits : SFits w64 (read_back sign *ℤ to_z w64 b)
  product_fits = rw product_is (signed_fits s b hb)

  module _ (a : ℕ) (ha : a < 0x800000000000) where
    sum_is : to_z w64 a +ℤ read_back (read_back sign *ℤ to_z w64 b) ≡ pos a +ℤ sign_of s *ℤ pos b
    sum_is = rw (same _ product_fits, product_is, to_z_pos w64 a (omega arith))

    plain_fits : (t : Bool) → SFits w64 (pos a +ℤ sign_of t *ℤ pos b)
    plain_fits true = small _ (a + b) (omega arith) (sum_with a b)
    plain_fits false =
        by_order a b
        (λ p. small_below _ (b - suc a) (omega arith) (sum_below a b p))
        (λ p. small _ (a - b) (omega arith) (sum_back a b p))

    pub sum_fits : SFits w64 (to_z w64 a +ℤ read_back (read_back sign *ℤ to_z w64 b))
    sum_fits = rw sum_is (plain_fits s)

    along_small : (t : Bool) → SmallCoordinate (along t a b)
    along_small true = rw (along_with a b) (omega arith)
    along_small false = by_order a b (λ p. rw (along_below a b p) tt) (λ p. rw (along_back a b p) (omega arith))

    pub sum_along :
        (r : Option ℕ) →
        r ≡ coordinate_of (read_back (to_z w64 a +ℤ read_back (read_back sign *ℤ to_z w64 b))) →
        (r ≡ along s a b) × SmallCoordinate r
    unfolding along
    sum_along r q =
        let is : r ≡ along s a b = q ∙ ap coordinate_of (same _ sum_fits ∙ sum_is) in
        (is, rw is (along_small s))

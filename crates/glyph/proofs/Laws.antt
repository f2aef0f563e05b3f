-- Laws over plain variables: a turn of the bisection, a range that is looked at, and a turn of the count of glyphs that fit.
use native.Mathlib.Omega.{arith}
use native.Mathlib.Numerals.{add-one}
use Prim.Native.Nat.{ℕ, zero, suc, ◌+◌, ◌-◌, ◌≤◌, ◌<◌}
use mathlib.Core.Path.{◌≡◌, refl, sym, ◌∙◌, ap}
use mathlib.Core.Bool.{true, false}
use mathlib.Core.List.{List}
use lib.ListN.{length, get_or, drop, drop_of_length-le}
use lib.Seq.{drop-cons}
use borrow.Author.Tests.{lt-ltb, le-ltb, le-leb, lt-leb}
use Rattle.std.specs.Prelude.{Some, None}
use Rattle.std.specs.Bool.{then_some}
use Rattle.ground.specs.Judged.{first_bad}
use Rattle.ground.proofs.Each.{by_bool}
use Rattle.ground.proofs.Order.{by_order}
use Rattle.glyph.specs.Width.{bisect, middle, width_of, first_of, last_of, range_width, range_count}
use Rattle.glyph.specs.Ranges.{range_broken, judged_range}
use Rattle.glyph.specs.Fitting.{fit_count}

-- a value lies before a range, past it, or in it
pub by_range : {P : Type 0} (t : List ℕ) (v k : ℕ) → (v < first_of t k → P) → (first_of t k ≤ v → last_of t k < v → P) → (first_of t k ≤ v → v ≤ last_of t k → P) → P
by_range t v k f g h = by_order v (first_of t k) f (λ p. by_order (last_of t k) v (g p) (h p))

-- the turns do not matter once there are enough of them
enough : (f g : ℕ) (t : List ℕ) (v low high : ℕ) → high - low ≤ f → high - low ≤ g → bisect f t v low high ≡ bisect g t v low high
unfolding bisect
enough zero zero t v low high p q = refl
enough zero (suc g) t v low high p q = let h : high ≤ low = omega arith in simp (le-ltb _ _ h)
enough (suc f) zero t v low high p q = let h : high ≤ low = omega arith in simp (le-ltb _ _ h)
enough (suc f) (suc g) t v low high p q =
    by_order low high
    (λ h. rw (enough f g t v low (middle low high) (omega arith) (omega arith), enough f g t v (middle low high + 1) high (omega arith) (omega arith)))
    (λ h. simp (le-ltb _ _ h))

-- before the first turn all ranges are left
pub all_ranges : (t : List ℕ) (v : ℕ) → bisect (range_count t - 0) t v 0 (range_count t) ≡ width_of t v
unfolding width_of
all_ranges t v = enough (range_count t - 0) (range_count t) t v 0 (range_count t) (omega arith) (omega arith)

module _ (t : List ℕ) (v low high r : ℕ) (i : bisect (high - low) t v low high ≡ r) where
  -- nothing is left to bisect
  pub searched : high ≤ low → 1 ≡ r
  unfolding bisect
  searched h = let k : high - low ≡ 0 = omega arith in rw k at i

  turn : bisect (suc (high - low)) t v low high ≡ r
  turn = enough _ _ t v low high (omega arith) (omega arith) ∙ i

  module _ (h : low < high) where
    -- a turn that keeps the lower half, one that keeps the upper half, and one that finds the range

    pub left_half : v < first_of t (middle low high) → bisect (middle low high - low) t v low (middle low high) ≡ r
    unfolding bisect
    left_half p =
        enough (middle low high - low) (high - low) t v low (middle low high) (omega arith) (omega arith) ∙ (simp (lt-ltb _ _ h, lt-ltb _ _ p) at turn)

    pub right_half :
        first_of t (middle low high) ≤ v →
        last_of t (middle low high) < v →
        bisect (high - (middle low high + 1)) t v (middle low high + 1) high ≡ r
    unfolding bisect
    right_half p q =
        enough (high - (middle low high + 1)) (high - low) t v (middle low high + 1) high (omega arith) (omega arith) ∙ (simp (lt-ltb _ _ h, le-ltb _ _ p, lt-ltb _ _ q) at turn)

    pub found :
        (width : ℕ) →
        width ≡ range_width t (middle low high) →
        first_of t (middle low high) ≤ v →
        v ≤ last_of t (middle low high) →
        width ≡ r
    unfolding bisect
    found width e p q = e ∙ (simp (lt-ltb _ _ h, le-ltb _ _ p, le-ltb _ _ q) at turn)

module _ (place : ℕ → ℕ) (t : List ℕ) (k : ℕ) where
  -- a range that is looked at, one that keeps the rule and one that breaks it

  pub range_kept : range_broken t k ≡ false → first_bad (judged_range place t k) ≡ None
  unfolding first_bad
  range_kept e = rw e

  pub range_hit : range_broken t k ≡ true → first_bad (judged_range place t k) ≡ Some (place k)
  unfolding first_bad
  range_hit e = rw e

  pub range_looked : then_some (range_broken t k) (place k) ≡ first_bad (judged_range place t k)
  range_looked =
      by_bool (range_broken t k)
      (λ b. ap (λ x. then_some x (place k)) b ∙ sym (range_hit b))
      (λ b. ap (λ x. then_some x (place k)) b ∙ sym (range_kept b))

module _ (label t : List ℕ) (left n r : ℕ) (i : n + fit_count (drop n label) t left ≡ r) where
  -- no glyph is left
  pub all_fit : length label ≤ n → n ≡ r
  unfolding fit_count
  all_fit h = omega (arith, rw (drop_of_length-le label h) at i)

  module _ (width : ℕ) (h : n < length label) (e : width ≡ width_of t (get_or label n 0)) where
    -- the next glyph fits, and it does not

    pub one_more : width ≤ left → n + 1 + fit_count (drop (n + 1) label) t (left - width) ≡ r
    unfolding fit_count
    one_more p = rw add-one (omega (arith, simp (drop-cons label n 0 h, sym e, le-leb _ _ p) at i))

    pub no_more : left < width → n ≡ r
    unfolding fit_count
    no_more p = omega (arith, simp (drop-cons label n 0 h, sym e, lt-leb _ _ p) at i)

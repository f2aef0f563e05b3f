-- The first of numbered places: what it is that was found, and what it means that nothing was.
use native.Mathlib.Omega.{arith}
use native.Mathlib.Numerals.{add-one}
use Prim.Native.Nat.{ℕ, zero, suc, ◌+◌, ◌-◌, ◌≤◌, ◌<◌}
use mathlib.Core.Bool.{Bool, true, false}
use mathlib.Core.Path.{◌≡◌, refl, ◌∙◌}
use Rattle.std.specs.Prelude.{Option, Some, None}
use Rattle.std.specs.Option.{option_or}
use Rattle.std.specs.Bool.{then_some}
use Rattle.ground.specs.First.{first_from}
use Rattle.ground.proofs.Order.{by_order}

-- grouping does not matter
pub or_assoc : (a b c : Option ℕ) → option_or (option_or a b) c ≡ option_or a (option_or b c)
or_assoc None b c = refl
or_assoc (Some p) b c = refl

-- nothing besides
pub or_none : (a : Option ℕ) → option_or a None ≡ a
or_none None = refl
or_none (Some p) = refl

-- Where nothing is found by a test, the test does not hold.
pub found_none : (test : Bool) (place : ℕ) → then_some test place ≡ None → test ≡ false
found_none true place h = let z : ◌≡◌ {A = ℕ} 0 1 = cc in absurd (omega arith)
found_none false place h = refl

-- Where neither is there, each is not there.
pub or_none_both : (a b : Option ℕ) → option_or a b ≡ None → (a ≡ None) × (b ≡ None)
or_none_both None b h = (refl, h)
or_none_both (Some p) b h = let z : ◌≡◌ {A = ℕ} 0 1 = cc in absurd (omega arith)

-- Where nothing is found, nothing is at any place.
pub first_none : (f : ℕ → Option ℕ) (k n : ℕ) → first_from f k n ≡ None → (j : ℕ) → k ≤ j → j < k + n → f j ≡ None
unfolding first_from
first_none f k zero h j p q = absurd (omega arith)
first_none f k (suc n) h j p q =
    let both = or_none_both (f k) (first_from f (suc k) n) h in
    by_order k j
    (λ o. first_none f (suc k) n both.1 j (omega arith) (omega arith))
    (λ o. let e : j ≡ k = omega arith in rw e both.0)

-- a place that is found, from k on, with nothing before it
abbrev pub FirstAt : (ℕ → Option ℕ) → ℕ → ℕ → ℕ → Type 0
FirstAt f k n p =
    (j : ℕ) × (k ≤ j) × (j < k + n) × (f j ≡ Some p) × ((i : ℕ) → k ≤ i → i < j → f i ≡ None)

first_at_step : (f : ℕ → Option ℕ) (k n p : ℕ) (here later : Option ℕ) → f k ≡ here → (later ≡ Some p → FirstAt f (suc k) n p) → option_or here later ≡ Some p → FirstAt f k (suc n) p
first_at_step f k n p (Some q) later e more h = (k, omega arith, omega arith, e ∙ h, λ i u v. absurd (omega arith))
first_at_step f k n p None later e more h =
    let next = more h in (
      next.0,
      omega (arith, next.1),
      omega (arith, next.2),
      next.3,
      λ i u v. by_order k i (λ o. next.4 i (omega arith) v) (λ o. let d : i ≡ k = omega arith in rw d e),
    )

-- What is found is at a place before which there is nothing.
pub first_at : (f : ℕ → Option ℕ) (k n p : ℕ) → first_from f k n ≡ Some p → FirstAt f k n p
unfolding first_from
first_at f k zero p h = let z : ◌≡◌ {A = ℕ} 0 1 = cc in absurd (omega arith)
first_at f k (suc n) p h = first_at_step f k n p (f k) (first_from f (suc k) n) refl (first_at f (suc k) n p) h

-- The search for the first of so many numbers at which anything is found, number by number.
module _ (f : ℕ → Option ℕ) where
  -- before the first turn all numbers are left
  pub seek_whole : (n : ℕ) → first_from f 0 (n - 0) ≡ first_from f 0 n
  seek_whole n = let e : n - 0 ≡ n = omega arith in rw e

  module _ (k n : ℕ) (r : Option ℕ) (left : first_from f k (n - k) ≡ r) where
    one_more : k < n → option_or (f k) (first_from f (suc k) (n - suc k)) ≡ r
    unfolding first_from
    one_more h = let e : n - k ≡ suc (n - suc k) = omega arith in rw e at left

    -- a turn at which something is found
    pub seek_hit : (p : ℕ) → k < n → f k ≡ Some p → Some p ≡ r
    seek_hit p h e = rw e at (one_more h)

    -- a turn at which nothing is
    pub seek_on : k < n → f k ≡ None → first_from f (k + 1) (n - (k + 1)) ≡ r
    seek_on h e = rw (add-one k) (rw e at (one_more h))

    -- no number is left
    pub seek_done : n ≤ k → None ≡ r
    unfolding first_from
    seek_done h = let e : n - k ≡ 0 = omega arith in rw e at left

pub ruleset seek = (seek_whole, seek_hit, seek_on, seek_done)

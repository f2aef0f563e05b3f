-- The search for the first number at which a test holds, turn by turn.
use native.Mathlib.Omega.{arith}
use native.Mathlib.Numerals.{add-one}
use Prim.Native.Nat.{ℕ, suc, ◌+◌, ◌-◌, ◌≤◌, ◌<◌}
use mathlib.Core.Bool.{Bool, true, false}
use mathlib.Core.Path.{◌≡◌}
use Rattle.std.specs.Prelude.{Option, Some, None}
use Rattle.std.specs.Option.{option_or}
use Rattle.std.specs.Bool.{then_some}
use Rattle.ground.specs.First.{first_from}

-- what is found among the numbers from k to below n
abbrev pub found_to : (ℕ → Bool) → ℕ → ℕ → Option ℕ
found_to test n k = first_from (λ j. then_some (test j) j) k (n - k)

-- at the beginning all are left
pub search_whole : (test : ℕ → Bool) (n : ℕ) → found_to test n 0 ≡ first_from (λ j. then_some (test j) j) 0 n
search_whole test n = let e : n - 0 ≡ n = omega arith in rw e

module _ (test : ℕ → Bool) (n : ℕ) (first : Option ℕ) (k : ℕ) (left : found_to test n k ≡ first) where
  one_more : k < n → option_or (then_some (test k) k) (found_to test n (suc k)) ≡ first
  unfolding first_from
  one_more h = let e : n - k ≡ suc (n - suc k) = omega arith in rw e at left

  -- the turn at which the test holds
  pub search_hit : k < n → test k ≡ true → Some k ≡ first
  search_hit h t = rw t at (one_more h)

  -- a turn at which it does not
  pub search_on : k < n → test k ≡ false → found_to test n (k + 1) ≡ first
  search_on h t = rw (add-one k) (rw t at (one_more h))

  -- no number is left
  pub search_done : n ≤ k → None ≡ first
  unfolding first_from
  search_done h = let e : n - k ≡ 0 = omega arith in rw e at left

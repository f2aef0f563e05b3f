-- Cases on the order of two numbers, and bounds of a choice.
use native.Mathlib.Omega.{arith}
use Prim.Native.Nat.{ℕ, ◌≤◌, ◌<◌}
use mathlib.Core.Bool.{Bool, true, false, cond}
use mathlib.Core.Path.{◌≡◌, refl}
use lib.Dec.{ltb}
use borrow.Author.Tests.{ltb-true, ltb-false}

by_test : {P : Type 0} (a b : ℕ) (test : Bool) → ltb a b ≡ test → (a < b → P) → (b ≤ a → P) → P
by_test a b true e f g = f (ltb-true a b e)
by_test a b false e f g = g (ltb-false a b e)

-- either a is below b or it is not
pub by_order : {P : Type 0} (a b : ℕ) → (a < b → P) → (b ≤ a → P) → P
by_order a b f g = by_test a b (ltb a b) refl f g

-- a is below b, above it, or equal to it
pub by_three : {P : Type 0} (a b : ℕ) → (a < b → P) → (b < a → P) → (a ≡ b → P) → P
by_three a b f g h = by_order a b f (λ p. by_order b a g (λ q. h (omega arith)))

-- what bounds both sides of a choice bounds the choice
pub cond_bound : (test : Bool) (a b n : ℕ) → a ≤ n → b ≤ n → cond test a b ≤ n
cond_bound true a b n p q = p
cond_bound false a b n p q = q

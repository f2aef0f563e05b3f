-- A step taken at numbers one after the other.
use Rattle.std.specs.Prelude.{ℕ, zero, suc}

-- a step at each number from a first on, so many of them
unfoldable pub turns : {A : Type 0} → (ℕ → A → A) → ℕ → ℕ → A → A
turns step k zero state = state
turns step k (suc more) state = turns step (suc k) more (step k state)

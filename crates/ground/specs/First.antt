-- "first such word": the first of numbered places at which something is found.
use Rattle.std.specs.Prelude.{ℕ, zero, suc, ◌<◌, ◌≡◌, Option, None}
use Rattle.std.specs.Option.{option_or}

-- what is found at the first k of so many, from k on, at which anything is
unfoldable pub first_from : (ℕ → Option ℕ) → ℕ → ℕ → Option ℕ
first_from f k zero = None
first_from f k (suc left) = option_or (f k) (first_from f (suc k) left)

-- a looker whose answers have this property finds this at each of so many numbers
abbrev pub Finds : (ℕ → Option ℕ → Type 0) → ℕ → (ℕ → Option ℕ) → Type 0
Finds Answers count found = (k : ℕ) (answer : Option ℕ) → k < count → Answers k answer → answer ≡ found k

-- "first such word": what a rule looks at, in order, each with its place and whether it keeps the rule.
use Rattle.std.specs.Prelude.{ℕ, suc, ◌+◌, Bool, true, false, cond, List, [], ◌∷◌, ◌++◌, ◌≡◌, Option, Some, None}
use Rattle.ground.specs.Each.{every}

-- a word or record that a rule looks at
pub record Judged : Type 0 where
  -- where it stands
  pub place : ℕ
  -- whether it keeps the rule
  pub good : Bool

abbrev pub judged : ℕ → Bool → Judged
judged place good = record { place = place; good = good }

-- the words of a record that begins at `at`, from word i on, each good or not
unfoldable pub judged_words : ℕ → ℕ → List Bool → List Judged
judged_words at i [] = []
judged_words at i (good ∷ rest) = judged (at + i) good ∷ judged_words at (suc i) rest

-- the place of the first that breaks the rule
unfoldable pub first_bad : List Judged → Option ℕ
first_bad [] = None
first_bad (j ∷ rest) = cond j.good (first_bad rest) (Some j.place)

-- What stands at a place breaks the rule, and nothing before it does.
pub record FirstBad (looked : List Judged) (place : ℕ) : Type 0 where
  pub before : List Judged
  pub after : List Judged
  pub split : looked ≡ before ++ (judged place false ∷ after)
  pub kept : every before (λ j. j.good) ≡ true

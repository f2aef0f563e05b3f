-- Rules in order: the first that is broken answers its code and the place of the first thing that breaks it.
use Rattle.std.specs.Prelude.{ℕ, Bool, true, List, [], ◌∷◌, ◌++◌, ◌≡◌, Option, Some, None, Result, Ok, Err}
use Rattle.ground.specs.Each.{every}
use Rattle.ground.specs.Judged.{Judged, first_bad, FirstBad}
use Rattle.refusals.specs.declared.Answer.{Answer}
use Rattle.refusals.specs.declared.Refusal.{Refusal}

-- a rule: its code, and all that it looks at, in order
pub record Rule : Type 0 where
  pub code : ℕ
  pub looked : List Judged

abbrev pub rule : ℕ → List Judged → Rule
rule code looked = record { code = code; looked = looked }

-- all that it looks at keeps it
abbrev pub kept : Rule → Bool
kept r = every r.looked (λ j. j.good)

-- What rules in order come to: none is broken, or one is, with its code and the place of the first thing that breaks it.

abbrev pub Verdict : Type 0
Verdict = Result (Unit {0}) Refusal

abbrev pub Passed : Verdict
Passed = Ok tt

abbrev pub Refused : ℕ → ℕ → Verdict
Refused code place = Err (record { code = code; place = place })

-- what a rule of this code found, before the verdict of the rules after it
abbrev pub refused_at : ℕ → Option ℕ → Verdict → Verdict
refused_at code (Some place) later = Refused code place
refused_at code None later = later

-- the first rule that is broken
unfoldable pub first_broken : List Rule → Verdict
first_broken [] = Passed
first_broken (r ∷ rest) = refused_at r.code (first_bad r.looked) (first_broken rest)

-- The same in words: of these rules one with this code is broken, first at this place, and none before it is.
pub record BrokenFirst (rules : List Rule) (code place : ℕ) : Type 0 where
  pub before : List Rule
  pub looked : List Judged
  pub after : List Rule
  pub split : rules ≡ before ++ (rule code looked ∷ after)
  pub others : every before kept ≡ true
  pub first : FirstBad looked place

-- the run count where no rule is broken, else the first that is
abbrev pub counted : Verdict → ℕ → Result ℕ Refusal
counted (Ok passed) runs = Ok runs
counted (Err refusal) runs = Err refusal

-- "Check and paint answer a code and a place; check adds the run count, 0 on refusal. Accepted: code 0, place 0."

abbrev pub refused : ℕ → ℕ → Answer
refused code place = record { code = code; place = place; runs = 0 }

abbrev pub accepted : ℕ → Answer
accepted runs = record { code = 0; place = 0; runs = runs }

abbrev pub answer_of : Verdict → ℕ → Answer
answer_of (Ok passed) runs = accepted runs
answer_of (Err refusal) runs = refused refusal.code refusal.place

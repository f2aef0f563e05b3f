-- Nothing is found in a record exactly when every word of it keeps its rule.
use native.Mathlib.Omega.{arith}
use Prim.Native.Nat.{ℕ, suc, ◌+◌}
use mathlib.Core.Bool.{Bool, true, false}
use mathlib.Core.List.{List, [], ◌∷◌}
use mathlib.Core.Path.{◌≡◌, refl}
use Rattle.std.specs.Prelude.{Some, None}
use Rattle.ground.specs.Judged.{judged_words, first_bad}

-- every rule of a list holds
abbrev pub Kept : List Bool → Type 0
Kept [] = Unit {0}
Kept (good ∷ rest) = (good ≡ true) × Kept rest

never : {P : Type 0} (p : ℕ) → Some p ≡ None → P
never p e = let z : ◌≡◌ {A = ℕ} 0 1 = cc in absurd (omega arith)

pub none_kept : (at i : ℕ) (rules : List Bool) → first_bad (judged_words at i rules) ≡ None → Kept rules
unfolding judged_words first_bad
none_kept at i [] h = tt
none_kept at i (true ∷ rest) h = (refl, none_kept at (suc i) rest h)
none_kept at i (false ∷ rest) h = never (at + i) h

pub kept_none : (at i : ℕ) (rules : List Bool) → Kept rules → first_bad (judged_words at i rules) ≡ None
unfolding judged_words first_bad
kept_none at i [] h = refl
kept_none at i (good ∷ rest) h = rw h.0 (kept_none at (suc i) rest h.1)

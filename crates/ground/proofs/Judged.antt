-- The first that breaks a rule: a turn of the search for it, a word more of a record, what it is that was found, and what it means that nothing was.
use native.Mathlib.Omega.{arith}
use Prim.Native.Nat.{ℕ, zero, suc, ◌+◌, ◌-◌, ◌≤◌, ◌<◌}
use mathlib.Core.Bool.{Bool, true, false, not}
use mathlib.Core.List.{List, [], ◌∷◌, ◌++◌}
use mathlib.Core.Path.{◌≡◌, refl, sym, ◌∙◌, ap}
use Rattle.std.specs.Prelude.{Option, Some, None}
use Rattle.std.specs.Option.{option_or}
use Rattle.std.specs.Bool.{then_some}
use Rattle.ground.specs.First.{first_from}
use Rattle.ground.specs.Each.{numbers, each, every}
use Rattle.ground.specs.Judged.{Judged, judged, judged_words, first_bad, FirstBad}
use Rattle.ground.proofs.Each.{by_bool, and_left, and_right, and_both, every_each, each_step, each_done, numbers_whole, every_number, number_every}

-- two lists one after the other
pub bad_append : (k l : List Judged) → first_bad (k ++ l) ≡ option_or (first_bad k) (first_bad l)
unfolding first_bad
bad_append [] l = refl
bad_append (j ∷ k) l = by_bool j.good (λ g. rw g (bad_append k l)) (λ g. rw g)

-- one word of a record, and the rest
pub words_step :
    (at i : ℕ) (good : Bool) (rest : List Bool) →
    first_bad (judged_words at i (good ∷ rest)) ≡ option_or (then_some (not good) (at + i)) (first_bad (judged_words at (suc i) rest))
unfolding first_bad judged_words
words_step at i true rest = refl
words_step at i false rest = refl

-- no word is left
pub words_end : (at i : ℕ) → first_bad (judged_words at i []) ≡ None
unfolding first_bad judged_words
words_end at i = refl

-- a thing that is looked at by itself
pub one_judged : (place : ℕ) (good : Bool) → first_bad (judged place good ∷ []) ≡ then_some (not good) place
unfolding first_bad
one_judged place true = refl
one_judged place false = refl

-- The search through what each of n things has, from thing k on.
module _ (f : ℕ → List Judged) where
  step : (k n : ℕ) → k < n → first_bad (each (numbers k (n - k)) f) ≡ option_or (first_bad (f k)) (first_bad (each (numbers (k + 1) (n - (k + 1))) f))
  step k n h = ap first_bad (each_step f k n h) ∙ bad_append (f k) _

  -- before the first turn all things are left
  pub look_whole : (n : ℕ) → first_bad (each (numbers 0 (n - 0)) f) ≡ first_bad (each (numbers 0 n) f)
  look_whole n = rw (numbers_whole n)

  -- a turn at which nothing is found
  pub look_again :
      (k n : ℕ) (r : Option ℕ) → k < n → first_bad (each (numbers k (n - k)) f) ≡ r → first_bad (f k) ≡ None →
      first_bad (each (numbers (k + 1) (n - (k + 1))) f) ≡ r
  look_again k n r h i e = rw e at (sym (step k n h) ∙ i)

  -- a turn at which a place is found
  pub look_hit :
      (k n : ℕ) (r : Option ℕ) (p : ℕ) → k < n → first_bad (each (numbers k (n - k)) f) ≡ r → first_bad (f k) ≡ Some p →
      Some p ≡ r
  look_hit k n r p h i e = rw e at (sym (step k n h) ∙ i)

  -- nothing is left
  pub look_done : (k n : ℕ) (r : Option ℕ) → n ≤ k → first_bad (each (numbers k (n - k)) f) ≡ r → None ≡ r
  unfolding first_bad
  look_done k n r h i = rw (each_done f k n h) at i

-- What is found breaks the rule, and nothing before it does.

never : {P : Type 0} (p : ℕ) → None ≡ Some p → P
never p e = let z : ◌≡◌ {A = ℕ} 0 1 = cc in absurd (omega arith)

bad_one : (j : Judged) (place : ℕ) → j.place ≡ place → j.good ≡ false → j ≡ judged place false
bad_one j place p q = rw (sym p, sym q)

pub first_bad_lem : (looked : List Judged) (place : ℕ) → first_bad looked ≡ Some place → FirstBad looked place
unfolding first_bad every
first_bad_lem [] place e = never place e
first_bad_lem (j ∷ rest) place e =
    by_bool j.good
    (λ g. let r = first_bad_lem rest place (rw g at e) in
    record { before = j ∷ r.before; after = r.after; split = ap (λ l. j ∷ l) r.split; kept = and_both g r.kept })
    (λ g. let h : Some j.place ≡ Some place = rw g at e in
    let p : j.place ≡ place = cc in
    record { before = []; after = rest; split = ap (λ x. x ∷ rest) (bad_one j place p g); kept = refl })

-- Where nothing is found, all keep the rule; and where all do, nothing is found.

pub none_bad : (looked : List Judged) → first_bad looked ≡ None → every looked (λ j. j.good) ≡ true
unfolding first_bad every
none_bad [] e = refl
none_bad (j ∷ rest) e =
    by_bool j.good
    (λ g. and_both g (none_bad rest (rw g at e)))
    (λ g. never j.place (sym (rw g at e)))

pub all_good : (looked : List Judged) → every looked (λ j. j.good) ≡ true → first_bad looked ≡ None
unfolding first_bad every
all_good [] e = refl
all_good (j ∷ rest) e = rw (and_left j.good _ e) (all_good rest (and_right j.good _ e))

-- Where nothing before a place breaks the rule, and what stands there does, that place is found.
pub bad_first : (looked : List Judged) (place : ℕ) → FirstBad looked place → first_bad looked ≡ Some place
unfolding first_bad
bad_first looked place b =
    rw (b.split, bad_append b.before (judged place false ∷ b.after), all_good b.before b.kept)

-- The same of what each of n things has.

module _ (f : ℕ → List Judged) (n : ℕ) where
  pub none_of_each : first_bad (each (numbers 0 n) f) ≡ None → (k : ℕ) → k < n → first_bad (f k) ≡ None
  none_of_each e k h =
      all_good (f k)
      (every_number (λ i. every (f i) (λ j. j.good)) 0 n (sym (every_each f (λ j. j.good) (numbers 0 n)) ∙ none_bad _ e) k (omega arith) (omega arith))

  pub each_of_none : ((k : ℕ) → k < n → first_bad (f k) ≡ None) → first_bad (each (numbers 0 n) f) ≡ None
  each_of_none h =
      all_good _
      (every_each f (λ j. j.good) (numbers 0 n) ∙ number_every (λ i. every (f i) (λ j. j.good)) 0 n (λ k p q. none_bad (f k) (h k (omega arith))))

-- The first place found of what each of n things has is the first that breaks the rule.
pub first_judged : (f : ℕ → List Judged) (k n : ℕ) → first_from (λ i. first_bad (f i)) k n ≡ first_bad (each (numbers k n) f)
unfolding first_from first_bad each numbers
first_judged f k zero = refl
first_judged f k (suc n) = rw (first_judged f (suc k) n) (sym (bad_append (f k) (each (numbers (suc k) n) f)))

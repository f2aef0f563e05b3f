-- Rules in order: two lists of rules one after the other, what it means that none is broken, and which one is broken first.
use native.Mathlib.Omega.{arith}
use Prim.Native.Nat.{ℕ}
use mathlib.Core.Bool.{true}
use mathlib.Core.List.{List, [], ◌∷◌, ◌++◌}
use mathlib.Core.Path.{◌≡◌, refl, sym, ◌∙◌, ap}
use Rattle.std.specs.Prelude.{Option, Some, None, Ok, Err}
use Rattle.ground.specs.Each.{every}
use Rattle.ground.specs.Judged.{Judged, first_bad}
use Rattle.ground.proofs.Each.{and_left, and_right, and_both}
use Rattle.ground.proofs.Judged.{first_bad_lem, none_bad, all_good, bad_first}
use Rattle.refusals.specs.declared.Refusal.{Refusal}
use Rattle.refusals.specs.FirstBroken.{Verdict, Passed, Refused, Rule, rule, kept, refused_at, first_broken, BrokenFirst}

-- a verdict, and that of later rules
abbrev pub and_then : Verdict → Verdict → Verdict
and_then (Ok passed) later = later
and_then (Err refusal) later = Err refusal

later_then : (code : ℕ) (f : Option ℕ) (v w : Verdict) → refused_at code f (and_then v w) ≡ and_then (refused_at code f v) w
later_then code None v w = refl
later_then code (Some place) v w = refl

-- Two lists of rules one after the other.
pub broken_append : (k l : List Rule) → first_broken (k ++ l) ≡ and_then (first_broken k) (first_broken l)
unfolding first_broken
broken_append [] l = refl
broken_append (r ∷ k) l = rw (broken_append k l) (later_then r.code (first_bad r.looked) (first_broken k) (first_broken l))

-- A turn at the first rule, by what was found.

module _ (code : ℕ) (looked : List Judged) (rest : List Rule) (f : Option ℕ) (e : f ≡ first_bad looked) where
  pub refuses : (place : ℕ) → f ≡ Some place → Refused code place ≡ first_broken (rule code looked ∷ rest)
  unfolding first_broken
  refuses place h = rw (← e, h)

  pub passes : (v : Verdict) → f ≡ None → v ≡ first_broken rest → v ≡ first_broken (rule code looked ∷ rest)
  unfolding first_broken
  passes v h p = rw (← e, h) p

  -- the same by what the rule comes to by itself
  pub breaks : (refusal : Refusal) (v : Verdict) → v ≡ refused_at code f Passed → v ≡ Err refusal → Err refusal ≡ first_broken (rule code looked ∷ rest)
  unfolding first_broken
  breaks refusal v p h = by f e (sym p ∙ h)
    where
      by : (g : Option ℕ) → g ≡ first_bad looked → refused_at code g Passed ≡ Err refusal → Err refusal ≡ refused_at code (first_bad looked) (first_broken rest)
      by None q k = let z : ◌≡◌ {A = ℕ} 0 1 = cc in absurd (omega arith)
      by (Some place) q k = rw (← q) (sym k)

  pub keeps : (v : Verdict) (passed : Unit {0}) → v ≡ refused_at code f Passed → v ≡ Ok passed → first_broken rest ≡ first_broken (rule code looked ∷ rest)
  unfolding first_broken
  keeps v passed p h = by f e (sym p ∙ h)
    where
      by : (g : Option ℕ) → g ≡ first_bad looked → refused_at code g Passed ≡ Ok passed → first_broken rest ≡ refused_at code (first_bad looked) (first_broken rest)
      by None q k = rw (← q)
      by (Some place) q k = let z : ◌≡◌ {A = ℕ} 0 1 = cc in absurd (omega arith)

  -- the last rule
  pub last : (v : Verdict) → v ≡ refused_at code f Passed → rest ≡ [] → v ≡ first_broken (rule code looked ∷ rest)
  unfolding first_broken
  last v p n = p ∙ rw (e, n)

-- what was found where a rule is kept
pub nothing_found : (code : ℕ) (f : Option ℕ) (v : Verdict) (passed : Unit {0}) → v ≡ refused_at code f Passed → v ≡ Ok passed → f ≡ None
nothing_found code None v passed p h = refl
nothing_found code (Some place) v passed p h = let z : ◌≡◌ {A = ℕ} 0 1 = cc in absurd (omega arith)

-- no rule is left
pub none_left : Passed ≡ first_broken []
unfolding first_broken
none_left = refl

-- A rule is kept, and those after it, exactly where nothing is found.

pub kept_first : (code : ℕ) (looked : List Judged) (rest : List Rule) → first_broken (rule code looked ∷ rest) ≡ Passed → (first_bad looked ≡ None) × (first_broken rest ≡ Passed)
unfolding first_broken
kept_first code looked rest e = by (first_bad looked) refl e
  where
    by : (f : Option ℕ) → first_bad looked ≡ f → refused_at code f (first_broken rest) ≡ Passed → (first_bad looked ≡ None) × (first_broken rest ≡ Passed)
    by None p h = (p, h)
    by (Some place) p h = let z : ◌≡◌ {A = ℕ} 0 1 = cc in absurd (omega arith)

pub first_kept : (code : ℕ) (looked : List Judged) (rest : List Rule) → first_bad looked ≡ None → first_broken rest ≡ Passed → first_broken (rule code looked ∷ rest) ≡ Passed
unfolding first_broken
first_kept code looked rest p q = rw p q

no_verdict : {P : Type 0} (code place : ℕ) → Passed ≡ Refused code place → P
no_verdict code place e = let z : ◌≡◌ {A = ℕ} 0 1 = cc in absurd (omega arith)

-- None is broken exactly where each is kept.

passed_kept : (code : ℕ) (looked : List Judged) (f : Option ℕ) (v : Verdict) → first_bad looked ≡ f → refused_at code f v ≡ Passed → (every looked (λ j. j.good) ≡ true) × (v ≡ Passed)
passed_kept code looked None v e h = (none_bad looked e, h)
passed_kept code looked (Some place) v e h = no_verdict code place (sym h)

pub passed_all : (rules : List Rule) → first_broken rules ≡ Passed → every rules kept ≡ true
unfolding first_broken every
passed_all [] e = refl
passed_all (r ∷ rest) e =
    let h = passed_kept r.code r.looked (first_bad r.looked) (first_broken rest) refl e in
    and_both h.0 (passed_all rest h.1)

pub all_passed : (rules : List Rule) → every rules kept ≡ true → first_broken rules ≡ Passed
unfolding first_broken every
all_passed [] e = refl
all_passed (r ∷ rest) e =
    rw (all_good r.looked (and_left (kept r) _ e)) (all_passed rest (and_right (kept r) _ e))

-- Which rule is broken first.

broken_more : (r : Rule) (rules : List Rule) (code place : ℕ) → kept r ≡ true → BrokenFirst rules code place → BrokenFirst (r ∷ rules) code place
unfolding every
broken_more r rules code place k b = record {
  before = r ∷ b.before;
  looked = b.looked;
  after = b.after;
  split = ap (λ l. r ∷ l) b.split;
  others = and_both k b.others;
  first = b.first;
}

abbrev code_of : Verdict → ℕ
code_of (Ok passed) = 0
code_of (Err refusal) = refusal.code

abbrev place_of : Verdict → ℕ
place_of (Ok passed) = 0
place_of (Err refusal) = refusal.place

broken_now :
    (r : Rule) (rules : List Rule) (code place : ℕ) (f : Option ℕ) → first_bad r.looked ≡ f →
    (first_broken rules ≡ Refused code place → BrokenFirst rules code place) →
    refused_at r.code f (first_broken rules) ≡ Refused code place →
    BrokenFirst (r ∷ rules) code place
unfolding every
broken_now r rules code place None e later h = broken_more r rules code place (none_bad r.looked e) (later h)
broken_now r rules code place (Some p) e later h =
    let c : r.code ≡ code = ap code_of h in
    let q : p ≡ place = ap place_of h in
    record {
      before = [];
      looked = r.looked;
      after = rules;
      split = ap (λ n. rule n r.looked ∷ rules) c;
      others = refl;
      first = first_bad_lem r.looked place (rw q at e);
    }

pub broken_first : (rules : List Rule) (code place : ℕ) → first_broken rules ≡ Refused code place → BrokenFirst rules code place
unfolding first_broken
broken_first [] code place e = no_verdict code place e
broken_first (r ∷ rules) code place e = broken_now r rules code place (first_bad r.looked) refl (broken_first rules code place) e

pub first_broken_lem : (rules : List Rule) (code place : ℕ) → BrokenFirst rules code place → first_broken rules ≡ Refused code place
unfolding first_broken
first_broken_lem rules code place b =
    rw (b.split, broken_append b.before (rule code b.looked ∷ b.after), all_passed b.before b.others, bad_first b.looked place b.first)

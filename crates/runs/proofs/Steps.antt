-- Laws of steps over the columns of a run, each of which changes one column.
use native.Mathlib.Omega.{arith}
use Prim.Native.Nat.{ℕ, zero, suc, ◌+◌, ◌-◌, ◌≤◌, ◌<◌, min, max}
use mathlib.Core.Bool.{cond}
use mathlib.Core.List.{List}
use mathlib.Core.Path.{◌≡◌, refl, ap, ◌∙◌}
use lib.ListN.{get_or, replicate}
use borrow.Author.Tests.{eq-eqb, lt-leb, le-leb}
use Rattle.ground.specs.Turns.{turns}
use Rattle.ground.proofs.Order.{by_order}
use Rattle.runs.specs.declared.Run.{Run}
use Rattle.runs.specs.Runs.{covers}
use Rattle.runs.specs.Kept.{on_columns, Blank}

-- A step changes its own column alone.
module _ {S A : Type 0} (at : S → ℕ → A) (f : ℕ → S → S) (other : (k x : ℕ) (s : S) → (x ≡ k → ⊥) → at (f k s) x ≡ at s x) where
  -- a column left of those passed stays
  column_left : (a n x : ℕ) (s : S) → x < a → at (turns f a n s) x ≡ at s x
  unfolding turns
  column_left a zero x s h = refl
  column_left a (suc n) x s h = column_left (suc a) n x _ (omega arith) ∙ other a x s (λ e. omega arith)

  -- and so does one right of them
  column_right : (a n x : ℕ) (s : S) → a + n ≤ x → at (turns f a n s) x ≡ at s x
  unfolding turns
  column_right a zero x s h = refl
  column_right a (suc n) x s h = column_right (suc a) n x _ (omega arith) ∙ other a x s (λ e. omega arith)

  -- columns off a run stay

  off_left : (r : Run) (width x : ℕ) (s : S) → x < r.first → at (on_columns f r width s) x ≡ at s x
  unfolding on_columns
  off_left r width x s h = column_left _ _ x s h

  off_right : (r : Run) (width x : ℕ) (s : S) → min (r.last + 1) width ≤ x → at (on_columns f r width s) x ≡ at s x
  unfolding on_columns turns
  off_right r width x s h =
      by_order (min (r.last + 1) width) r.first
      (λ o. let z : min (r.last + 1) width - r.first ≡ 0 = omega arith in rw z)
      (λ o. column_right r.first (min (r.last + 1) width - r.first) x s (omega arith))

  -- It changes it by g, where the state is long enough.
  module _ (g : A → A) (width : ℕ) (Long : S → Type 0)
      (keeps : (k : ℕ) (s : S) → Long s → Long (f k s))
      (here : (x : ℕ) (s : S) → Long s → x < width → at (f x s) x ≡ g (at s x)) where
    -- a column among those passed is changed
    column_among : (a n x : ℕ) (s : S) → a ≤ x → x < a + n → x < width → Long s → at (turns f a n s) x ≡ g (at s x)
    unfolding turns
    column_among a zero x s h k l p = absurd (omega arith)
    column_among a (suc n) x s h k l p =
        by_order a x
        (λ q. column_among (suc a) n x _ (omega arith) (omega arith) l (keeps a s p) ∙ ap g (other a x s (λ e. omega arith)))
        (λ q.
        let e : a ≡ x = omega arith in
        column_left (suc a) n x _ (omega arith) ∙ rw e (here x s p l))

    -- over the columns of a run, a column of its row is changed where the run covers it
    pub over_run :
        (r : Run) (y x : ℕ) (s : S) → r.row ≡ y → x < width → Long s →
        at (on_columns f r width s) x ≡ cond (covers r y x) (g (at s x)) (at s x)
    unfolding on_columns covers
    over_run r y x s e h p =
        by_order x r.first
        (λ q. column_left _ _ x s q ∙ simp (eq-eqb _ _ e, lt-leb _ _ q))
        (λ q. by_order r.last x
        (λ o. off_right r width x s (omega arith) ∙ simp (eq-eqb _ _ e, le-leb _ _ q, lt-leb _ _ o))
        (λ o. column_among _ _ x s q (omega arith) h p ∙ simp (eq-eqb _ _ e, le-leb _ _ q, le-leb _ _ o)))

-- Where nothing is but from low to high, a run's columns widen that.
pub blank_run :
    {S : Type 0} (plane : S → List ℕ) (f : ℕ → S → S)
    (other : (k x : ℕ) (s : S) → (x ≡ k → ⊥) → get_or (plane (f k s)) x 0 ≡ get_or (plane s) x 0)
    (r : Run) (width low high first end low' high' : ℕ) (s after : S) →
    first ≡ r.first → end ≡ min (r.last + 1) width →
    low' ≡ min low first → high' ≡ max high end →
    after ≡ on_columns f r width s →
    Blank (plane s) low high →
    Blank (plane after) low' high'
blank_run plane f other r width low high first end low' high' s after p q m n o b =
    rw o (record {
      left = λ x h. off_left (λ t x. get_or (plane t) x 0) f other r width x s (omega arith) ∙ b.left x (omega arith);
      right = λ x h. off_right (λ t x. get_or (plane t) x 0) f other r width x s (omega arith) ∙ b.right x (omega arith);
    })

-- Fresh words are 0 everywhere.

pub zero_anywhere : (n x : ℕ) → ◌≡◌ {A = ℕ} (get_or (replicate n 0) x 0) 0
zero_anywhere zero x = refl
zero_anywhere (suc n) zero = refl
zero_anywhere (suc n) (suc x) = zero_anywhere n x

pub blank : (n low high : ℕ) → Blank (replicate n 0) low high
blank n low high = record { left = λ x h. zero_anywhere n x; right = λ x h. zero_anywhere n x }

-- what the code passes are a run's columns
pub run_columns :
    {S : Type 0} (f : ℕ → S → S) (r : Run) (width low high : ℕ) (s after : S) →
    low ≡ r.first → high ≡ min (r.last + 1) width →
    after ≡ turns f low (high - low) s →
    after ≡ on_columns f r width s
unfolding on_columns
run_columns f r width low high s after p q u = rw (← p, ← q) u

-- Going over a list or over numbers: two lists one after the other, a turn of a loop, and what a test over all of them says of each.
use native.Mathlib.Omega.{arith}
use native.Mathlib.Numerals.{add-one}
use native.Mathlib.Nat.{suc-add, add-zero, zero-add, mul-suc, mul-zero}
use Prim.Native.Nat.{ℕ, zero, suc, ◌+◌, ◌-◌, ◌*◌, ◌≤◌, ◌<◌}
use lib.ListN.{length, length-append}
use mathlib.Core.Bool.{Bool, true, false, not, cond, ◌&&◌, ◌||◌, and_assoc, or_assoc, or-true}
use mathlib.Core.List.{List, [], ◌∷◌, ◌++◌, append_assoc}
use mathlib.Core.Path.{◌≡◌, refl, sym, ◌∙◌}
use Rattle.ground.specs.Each.{numbers, each, some, every}
use Rattle.ground.proofs.Order.{by_order}

-- Tests that hold together, tests of which one holds, and a test that is turned twice.

pub not_not : (a : Bool) → not (not a) ≡ a
not_not true = refl
not_not false = refl

pub and_left : (a b : Bool) → a && b ≡ true → a ≡ true
and_left true b e = refl
and_left false b e = e

pub and_right : (a b : Bool) → a && b ≡ true → b ≡ true
and_right true b e = e
and_right false b e = cc

pub and_both : {a b : Bool} → a ≡ true → b ≡ true → a && b ≡ true
and_both p q = rw (p, q)

pub or_left : (a b : Bool) → a || b ≡ false → a ≡ false
or_left true b e = e
or_left false b e = refl

pub or_right : (a b : Bool) → a || b ≡ false → b ≡ false
or_right true b e = cc
or_right false b e = e

pub or_neither : {a b : Bool} → a ≡ false → b ≡ false → a || b ≡ false
or_neither p q = rw (p, q)

-- a test holds or it does not
pub by_bool : {P : Type 0} (b : Bool) → (b ≡ true → P) → (b ≡ false → P) → P
by_bool true f g = f refl
by_bool false f g = g refl

-- what holds of both holds of the one that a test picks
pub cond_holds : {A : Type 0} (P : A → Type 0) (t : Bool) {a b : A} → P a → P b → P (cond t a b)
cond_holds P true p q = p
cond_holds P false p q = q

-- one of two tests that hold together holds
pub by_or : {P : Type 0} (a b : Bool) → a || b ≡ true → (a ≡ true → P) → (b ≡ true → P) → P
by_or true b e f g = f refl
by_or false b e f g = g e

-- Two lists one after the other.

module _ {A B : Type 0} (f : A → List B) where
  pub each_append : (k l : List A) → each (k ++ l) f ≡ each k f ++ each l f
  unfolding each
  each_append [] l = refl
  each_append (a ∷ k) l = rw (each_append k l) (sym (append_assoc (f a) (each k f) (each l f)))

module _ {A : Type 0} (test : A → Bool) where
  pub some_append : (k l : List A) → some (k ++ l) test ≡ some k test || some l test
  unfolding some
  some_append [] l = refl
  some_append (a ∷ k) l = rw (some_append k l) (sym (or_assoc (test a) (some k test) (some l test)))

  pub every_append : (k l : List A) → every (k ++ l) test ≡ every k test && every l test
  unfolding every
  every_append [] l = refl
  every_append (a ∷ k) l = rw (every_append k l) (sym (and_assoc (test a) (every k test) (every l test)))

-- A test over what each makes is a test over each.
module _ {A B : Type 0} (f : A → List B) (test : B → Bool) where
  pub some_each : (l : List A) → some (each l f) test ≡ some l (λ a. some (f a) test)
  unfolding each some
  some_each [] = refl
  some_each (a ∷ l) = some_append test (f a) (each l f) ∙ rw (some_each l)

  pub every_each : (l : List A) → every (each l f) test ≡ every l (λ a. every (f a) test)
  unfolding each every
  every_each [] = refl
  every_each (a ∷ l) = every_append test (f a) (each l f) ∙ rw (every_each l)

-- Tests that agree on each thing agree on the list.
module _ {A : Type 0} (test other : A → Bool) (same : (a : A) → test a ≡ other a) where
  pub some_same : (l : List A) → some l test ≡ some l other
  unfolding some
  some_same [] = refl
  some_same (a ∷ l) = rw (same a, some_same l)

-- Of numbers from k to below n the first is k.
pub numbers_step : (k n : ℕ) → k < n → numbers k (n - k) ≡ k ∷ numbers (k + 1) (n - (k + 1))
unfolding numbers
numbers_step k n h = let e : n - k ≡ suc (n - (k + 1)) = omega arith in rw (e, add-one)

pub numbers_whole : (n : ℕ) → numbers 0 (n - 0) ≡ numbers 0 n
numbers_whole n = let e : n - 0 ≡ n = omega arith in rw e

pub numbers_done : (k n : ℕ) → n ≤ k → numbers k (n - k) ≡ []
unfolding numbers
numbers_done k n h = let e : n - k ≡ 0 = omega arith in rw e

-- What each of the numbers from k on makes, k first.
pub each_step : {B : Type 0} (f : ℕ → List B) (k n : ℕ) → k < n → each (numbers k (n - k)) f ≡ f k ++ each (numbers (k + 1) (n - (k + 1))) f
unfolding each
each_step f k n h = rw (numbers_step k n h)

pub each_done : {B : Type 0} (f : ℕ → List B) (k n : ℕ) → n ≤ k → each (numbers k (n - k)) f ≡ []
unfolding each
each_done f k n h = rw (numbers_done k n h)

-- A test of some number, and of every number.
module _ (test : ℕ → Bool) where
  -- it holds of one: that number is told
  pub some_number : (k n : ℕ) → some (numbers k n) test ≡ true → (j : ℕ) × (k ≤ j) × (j < k + n) × (test j ≡ true)
  unfolding some numbers
  some_number k zero e = let z : ◌≡◌ {A = ℕ} 0 1 = cc in absurd (omega arith)
  some_number k (suc n) e =
      by_or (test k) (some (numbers (suc k) n) test) e
      (λ h. (k, omega arith, omega arith, h))
      (λ h. let r = some_number (suc k) n h in (r.0, omega (arith, r.1), omega (arith, r.2), r.3))

  -- a number of which it holds makes it hold of some
  pub number_some : (k n j : ℕ) → k ≤ j → j < k + n → test j ≡ true → some (numbers k n) test ≡ true
  unfolding some numbers
  number_some k zero j p q e = absurd (omega arith)
  number_some k (suc n) j p q e =
      by_order k j
      (λ o. rw (number_some (suc k) n j (omega arith) (omega arith) e) (or-true (test k)))
      (λ o. let d : j ≡ k = omega arith in rw (rw d at e))

  pub every_number : (k n : ℕ) → every (numbers k n) test ≡ true → (j : ℕ) → k ≤ j → j < k + n → test j ≡ true
  unfolding every numbers
  every_number k zero e j p q = absurd (omega arith)
  every_number k (suc n) e j p q =
      by_order k j
      (λ o. every_number (suc k) n (and_right (test k) _ e) j (omega arith) (omega arith))
      (λ o. let d : j ≡ k = omega arith in rw d (and_left (test k) _ e))

  pub number_every : (k n : ℕ) → ((j : ℕ) → k ≤ j → j < k + n → test j ≡ true) → every (numbers k n) test ≡ true
  unfolding every numbers
  number_every k zero h = refl
  number_every k (suc n) h =
      and_both (h k (omega arith) (omega arith)) (number_every (suc k) n (λ j p q. h j (omega arith) (omega arith)))

  -- it holds of none
  pub none_number : (k n : ℕ) → ((j : ℕ) → k ≤ j → j < k + n → test j ≡ false) → some (numbers k n) test ≡ false
  unfolding some numbers
  none_number k zero h = refl
  none_number k (suc n) h =
      or_neither (h k (omega arith) (omega arith)) (none_number (suc k) n (λ j p q. h j (omega arith) (omega arith)))

-- Going over numbers in two parts.
pub each_numbers :
    {B : Type 0} (f : ℕ → List B) (first n m : ℕ) →
    each (numbers first (n + m)) f ≡ each (numbers first n) f ++ each (numbers (first + n) m) f
unfolding numbers each
each_numbers f first zero m = rw (zero-add, add-zero)
each_numbers f first (suc n) m =
    let e : first + suc n ≡ suc first + n = omega arith in
    rw (suc-add, e, each_numbers f (suc first) n m, append_assoc)

-- The length, where each number makes so many.
pub each_length :
    {B : Type 0} (f : ℕ → List B) (w first n : ℕ) →
    ((y : ℕ) → length (f y) ≡ w) →
    length (each (numbers first n) f) ≡ w * n
unfolding numbers each
each_length f w first zero h = rw mul-zero
each_length f w first (suc n) h = rw (length-append, h, each_length f w (suc first) n h, mul-suc) (omega arith)

-- Things that make the same, one by one.
module _ {A B : Type 0} (f g : A → List B) (same : (a : A) → f a ≡ g a) where
  pub each_same : (l : List A) → each l f ≡ each l g
  unfolding each
  each_same [] = refl
  each_same (a ∷ l) = rw (same a, each_same l)

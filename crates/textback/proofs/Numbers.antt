-- So many numbers from a first on, and what each of them makes.
use native.Mathlib.Omega.{arith}
use Prim.Native.Nat.{ℕ, zero, suc, ◌+◌, ◌≤◌, ◌<◌}
use mathlib.Core.Path.{◌≡◌, refl}
use mathlib.Core.List.{map}
use lib.ListN.{get_or}
use Rattle.ground.specs.Each.{numbers}

-- what is the same for each of them
pub map_alike :
    {B : Type 0} (f g : ℕ → B) (first n : ℕ) → ((y : ℕ) → first ≤ y → y < first + n → f y ≡ g y) →
    map f (numbers first n) ≡ map g (numbers first n)
unfolding numbers
map_alike f g first zero h = refl
map_alike f g first (suc n) h = rw (h first (omega arith) (omega arith), map_alike f g (suc first) n (λ y p q. h y (omega arith) (omega arith)))

-- what one of them makes
pub map_at : {B : Type 0} (f : ℕ → B) (d : B) (i first n : ℕ) → i < n → get_or (map f (numbers first n)) i d ≡ f (first + i)
unfolding numbers
map_at f d i first zero h = absurd (omega arith)
map_at f d zero first (suc n) h = let e : first + 0 ≡ first = omega arith in rw e
map_at f d (suc i) first (suc n) h = let e : first + suc i ≡ suc first + i = omega arith in rw e (map_at f d i (suc first) n (omega arith))

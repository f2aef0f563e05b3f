-- The four lengths of a character, and its bytes as they are stored, over plain variables.
use native.Mathlib.Omega.{arith}
use Prim.Native.Nat.{ℕ, ◌+◌, ◌/◌, ◌%◌, ◌≤◌, ◌<◌}
use mathlib.Core.Path.{◌≡◌}
use mathlib.Core.List.{[], ◌∷◌}
use lib.ListN.{length}
use borrow.Author.Tests.{lt-ltb, le-ltb}
use Rattle.ground.proofs.Order.{by_order}
use Rattle.utf8.specs.Utf8.{utf8}

-- the bytes of a character, by its size

pub one_byte : (c : ℕ) → c < 0x80 → utf8 c ≡ c ∷ []
unfolding utf8
one_byte c h = simp (lt-ltb _ _ h)

pub two_bytes : (c : ℕ) → 0x80 ≤ c → c < 0x800 → utf8 c ≡ (0xC0 + c / 0x40) ∷ (0x80 + c % 0x40) ∷ []
unfolding utf8
two_bytes c h l = simp (le-ltb _ _ h, lt-ltb _ _ l)

pub three_bytes : (c : ℕ) → 0x800 ≤ c → c < 0x10000 → utf8 c ≡ (0xE0 + c / 0x1000) ∷ (0x80 + c / 0x40 % 0x40) ∷ (0x80 + c % 0x40) ∷ []
unfolding utf8
three_bytes c h l = simp (le-ltb c 0x80 (omega arith), le-ltb _ _ h, lt-ltb _ _ l)

pub four_bytes :
    (c : ℕ) → 0x10000 ≤ c → utf8 c ≡ (0xF0 + c / 0x40000) ∷ (0x80 + c / 0x1000 % 0x40) ∷ (0x80 + c / 0x40 % 0x40) ∷ (0x80 + c % 0x40) ∷ []
unfolding utf8
four_bytes c h = simp (le-ltb c 0x80 (omega arith), le-ltb c 0x800 (omega arith), le-ltb _ _ h)

-- one of the four
pub by_size :
    {P : Type 0} (c : ℕ) → (c < 0x80 → P) → (0x80 ≤ c → c < 0x800 → P) → (0x800 ≤ c → c < 0x10000 → P) → (0x10000 ≤ c → P) → P
by_size c one two three four =
    by_order c 0x80 one (λ p. by_order c 0x800 (λ q. two p q) (λ q. by_order c 0x10000 (λ r. three q r) four))

-- a character takes four bytes at most
pub utf8_length : (c : ℕ) → length (utf8 c) ≤ 4
utf8_length c =
    by_size c
    (λ h. rw (one_byte c h) (omega arith))
    (λ h l. rw (two_bytes c h l) (omega arith))
    (λ h l. rw (three_bytes c h l) (omega arith))
    (λ h. rw (four_bytes c h) (omega arith))

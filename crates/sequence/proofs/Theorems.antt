-- "colour 0, and no other, is the reset", and how long a sequence is.
use native.Mathlib.Omega.{arith}
use Prim.Native.Nat.{ℕ, ◌/◌, ◌%◌, ◌≤◌, ◌<◌}
use mathlib.Core.Path.{◌≡◌, refl, ap}
use mathlib.Core.List.{List}
use lib.ListN.{length, get_or, length-append}
use Rattle.ground.proofs.Order.{by_order}
use Rattle.sequence.specs.Sequence.{decimal, numeral, semicolon, ending, red_green_blue, sequence, longest, reset}
use Rattle.sequence.proofs.Laws.{one_digit, two_digits, three_digits, is_reset, is_basic, is_indexed, is_direct}

-- by the kinds of colour
pub by_kind : {P : Type 0} (c : ℕ) → (c ≡ 0 → P) → ((c ≡ 0 → ⊥) → c < 8 → P) → ((c ≡ 0 → ⊥) → 8 ≤ c → c < 0x100 → P) → ((c ≡ 0 → ⊥) → 8 ≤ c → 0x100 ≤ c → P) → P
by_kind c zeroth one two three =
    by_order 0 c
    (λ p. by_order c 8 (one (λ z. omega arith)) (λ q. by_order c 0x100 (two (λ z. omega arith) q) (three (λ z. omega arith) q)))
    (λ p. zeroth (omega arith))

-- Colour 0, and no other, is the reset.
pub only_reset : (c : ℕ) → sequence c ≡ reset → c ≡ 0
only_reset c e =
    let third : get_or (sequence c) 2 0 ≡ 0x30 = ap (λ (l : List ℕ). get_or l 2 0) e in
    by_kind c
    (λ z. z)
    (λ n h. absurd (let t = rw (is_basic c n h) at third in omega (arith, t)))
    (λ n h l. absurd (let t = rw (is_indexed c n h l) at third in omega (arith, t)))
    (λ n h l. absurd (let t = rw (is_direct c n h l) at third in omega (arith, t)))

pub zero_resets : sequence 0 ≡ reset
zero_resets = is_reset 0 refl

decimal_length : (n : ℕ) → length (decimal n) ≤ 3
decimal_length n =
    by_order n 10
    (λ h. rw (one_digit n h) (omega arith))
    (λ h. by_order n 100 (λ l. rw (two_digits n h l) (omega arith)) (λ l. rw (three_digits n l) (omega arith)))

numeral_length : (n b : ℕ) → length (numeral n b) ≤ 4
unfolding numeral
numeral_length n b = simp length-append (omega (arith, decimal_length n))

-- No sequence is longer than 19 bytes.
pub sequence_length : (c : ℕ) → length (sequence c) ≤ longest
unfolding red_green_blue
sequence_length c =
    by_kind c
    (λ z. rw (is_reset c z) (omega arith))
    (λ n h. rw (is_basic c n h) (omega (arith, numeral_length c 0x6D)))
    (λ n h l. rw (is_indexed c n h l) (omega (arith, numeral_length c 0x6D)))
    (λ n h l. rw (is_direct c n h l) (simp length-append (omega (arith, numeral_length (c / 0x10000 % 0x100) semicolon, numeral_length (c / 0x100 % 0x100) semicolon, numeral_length (c % 0x100) ending))))

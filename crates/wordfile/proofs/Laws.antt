-- A turn of reading words out of bytes, over plain variables.
use native.Mathlib.Omega.{arith}
use native.Mathlib.Numerals.{add-one}
use Prim.Native.Nat.{ℕ, suc, ◌+◌, ◌-◌, ◌≤◌, ◌<◌, ◌*◌}
use mathlib.Core.Path.{◌≡◌, ap}
use mathlib.Core.List.{List}
use lib.ListN.{set, get_or}
use Rattle.ground.specs.Turns.{turns}
use Rattle.ground.proofs.Turns.{turns_done}
use Rattle.wordfile.specs.Words.{word_at, filled, byte_of, with_word, stored}

-- before the first turn all words are left
pub all_left : (bytes words : List ℕ) (n : ℕ) → filled bytes words 0 (n - 0) ≡ filled bytes words 0 n
all_left bytes words n = ap (filled bytes words 0) (omega arith)

-- a turn reads one word
pub one_less :
    (bytes words r : List ℕ) (k n v : ℕ) →
    k < n →
    filled bytes words k (n - k) ≡ r →
    v ≡ word_at bytes k →
    filled bytes (set words k v) (k + 1) (n - (k + 1)) ≡ r
unfolding filled
one_less bytes words r k n v h i e =
    let left : n - k ≡ suc (n - (k + 1)) = omega arith in
    rw (e, add-one k) (rw (left, add-one k) at i)

-- after the last turn none is left
pub none_left : (bytes words r : List ℕ) (k n : ℕ) → n ≤ k → filled bytes words k (n - k) ≡ r → words ≡ r
unfolding filled
none_left bytes words r k n h i = let left : n - k ≡ 0 = omega arith in rw left at i

-- four bytes stored one after the other
pub four_stored :
    (bytes : List ℕ) (k at word a b c d : ℕ) →
    at ≡ 4 * k →
    a ≡ byte_of word 0x1000000 →
    b ≡ byte_of word 0x10000 →
    c ≡ byte_of word 0x100 →
    d ≡ byte_of word 1 →
    set (set (set (set bytes at a) (at + 1) b) (at + 2) c) (at + 3) d ≡ with_word bytes k word
four_stored bytes k at word a b c d h p q r s = rw (p, q, r, s, h)

-- before the first word all are left to store
pub none_stored :
    (words bytes : List ℕ) (count : ℕ) →
    turns (λ k bs. with_word bs k (get_or words k 0)) 0 (count - 0) bytes ≡ stored words count bytes
none_stored words bytes count = let all : count - 0 ≡ count = omega arith in rw all

-- after the last one none is
pub all_stored :
    (words bytes start : List ℕ) (k count n : ℕ) →
    count ≡ n →
    count ≤ k →
    turns (λ k bs. with_word bs k (get_or words k 0)) k (count - k) bytes ≡ stored words count start →
    bytes ≡ stored words n start
all_stored words bytes start k count n e h i =
    rw (← e) (turns_done (λ k bs. with_word bs k (get_or words k 0)) k count bytes (stored words count start) h i)

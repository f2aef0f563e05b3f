-- "One lent slice of u32 words, or a file of them, most significant byte first."
use Rattle.std.specs.Prelude.{ℕ, zero, suc, ◌+◌, ◌*◌, ◌/◌, ◌%◌, List, get_or, set}
use Rattle.ground.specs.Turns.{turns}

-- word k of a file's bytes
abbrev pub word_at : List ℕ → ℕ → ℕ
word_at bytes k =
    0x1000000 * get_or bytes (4 * k) 0 + 0x10000 * get_or bytes (4 * k + 1) 0 + 0x100 * get_or bytes (4 * k + 2) 0
    + get_or bytes (4 * k + 3) 0

-- the words with those from word k on, so many, read from the bytes
unfoldable pub filled : List ℕ → List ℕ → ℕ → ℕ → List ℕ
filled bytes words k zero = words
filled bytes words k (suc left) = filled bytes (set words k (word_at bytes k)) (suc k) left

-- a byte of a word, by the value of its lowest bit
abbrev pub byte_of : ℕ → ℕ → ℕ
byte_of word step = word / step % 256

-- the bytes with word k of them stored
abbrev pub with_word : List ℕ → ℕ → ℕ → List ℕ
with_word bytes k word =
    set
    (set (set (set bytes (4 * k) (byte_of word 0x1000000)) (4 * k + 1) (byte_of word 0x10000)) (4 * k + 2) (byte_of word 0x100))
    (4 * k + 3)
    (byte_of word 1)

-- the bytes with so many words stored, from word 0 on
abbrev pub stored : List ℕ → ℕ → List ℕ → List ℕ
stored words count = turns (λ k bytes. with_word bytes k (get_or words k 0)) 0 count

-- The words of a file's first bytes, and the room that read words have.
use native.Mathlib.Omega.{arith}
use Prim.Native.Nat.{ℕ, zero, suc, ◌+◌, ◌*◌, ◌/◌, ◌≤◌, ◌<◌, min}
use mathlib.Core.Path.{◌≡◌, refl, sym, ap, ◌∙◌}
use mathlib.Core.List.{List}
use lib.ListN.{length, take, set}
use lib.Seq.{get_or-take, length-take-le}
use Rattle.std.specs.Prelude.{Result, Ok}
use Rattle.wordfile.specs.Words.{word_at, filled}
use Rattle.image_input.specs.declared.Unread.{Unread}
use Rattle.image_input.specs.Came.{Came}

-- where words were read, the lent ones have room for them
pub words_within : (came : Result ℕ Unread) (n : ℕ) (bytes words words' : List ℕ) → came ≡ Ok n → Came came bytes words words' → n ≤ length words'
words_within came n bytes words words' e is = (rw e at is).1

-- a word of a file's first bytes is one of all of them
word_start : (bytes : List ℕ) (k got : ℕ) → 4 * k + 3 < got → word_at (take got bytes) k ≡ word_at bytes k
word_start bytes k got h =
    rw (
      get_or-take got bytes (4 * k) 0 (omega arith),
      get_or-take got bytes (4 * k + 1) 0 (omega arith),
      get_or-take got bytes (4 * k + 2) 0 (omega arith),
      get_or-take got bytes (4 * k + 3) 0 (omega arith),
    )

filled_start :
    (n : ℕ) (bytes words : List ℕ) (k got : ℕ) →
    4 * (k + n) ≤ got →
    filled (take got bytes) words k n ≡ filled bytes words k n
unfolding filled
filled_start zero bytes words k got h = refl
filled_start (suc n) bytes words k got h =
    rw (word_start bytes k got (omega arith)) (filled_start n bytes (set words k (word_at bytes k)) (suc k) got (omega arith))

-- the words of so many bytes that came
pub words_read :
    (bytes words words' : List ℕ) (got n : ℕ) →
    n ≡ min (length (take got bytes) / 4) (length words) →
    words' ≡ filled (take got bytes) words 0 (min (length (take got bytes) / 4) (length words)) →
    got < length bytes →
    n ≤ length words' →
    Came (Ok n) bytes words words'
words_read bytes words words' got n e is less has =
    let came : length (take got bytes) ≡ got = length-take-le got bytes (omega arith) in
    let few : 4 * n ≤ got = omega (arith, e, came) in
    (omega arith, has, is ∙ ap (filled (take got bytes) words 0) (sym e) ∙ filled_start n bytes words 0 got (omega (arith, few)))

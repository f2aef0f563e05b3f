-- "numbers decimal or 0x hex": what a word is as a number of 32 bits.
use Rattle.std.specs.Prelude.{ℕ, ◌+◌, ◌*◌, ◌-◌, Bool, cond, ◌&&◌, List, [], ◌∷◌, eqb, leb, ltb, length, get_or, Result, Ok, Err}
use Rattle.sheettext.specs.Parts.{part}
use Rattle.sheettext.specs.declared.NumberError.{NumberError}
use Rattle.sheettext.specs.declared.NumberError.TheVariants.{TooLarge, NotANumber}

-- a byte that lies from the first of two to the last
abbrev pub among : ℕ → ℕ → ℕ → Bool
among first last b = leb first b && leb b last

-- what a byte counts as a digit: `0` to `9`, `A` to `F`, `a` to `f`; 16 is a digit in no base
unfoldable pub digit_of : ℕ → ℕ
digit_of b = cond (among 48 57 b) (b - 48) (cond (among 65 70 b) (b - 55) (cond (among 97 102 b) (b - 87) 16))

-- "a number over 4294967295"
unfoldable pub reading_of : ℕ → Result ℕ NumberError
reading_of value = cond (ltb value 0x100000000) (Ok value) (Err TooLarge)

-- digits after those that make a value, the most significant first; a byte that is no digit makes no number
unfoldable pub read_digits : ℕ → ℕ → List ℕ → Result ℕ NumberError
read_digits base value [] = reading_of value
read_digits base value (b ∷ rest) =
    cond (ltb (digit_of b) base) (read_digits base (value * base + digit_of b) rest) (Err NotANumber)

-- one digit at least
abbrev pub in_base : ℕ → List ℕ → Result ℕ NumberError
in_base base digits = cond (eqb (length digits) 0) (Err NotANumber) (read_digits base 0 digits)

-- `0` and `x` before hexadecimal digits, else decimal ones
unfoldable pub number_of : List ℕ → Result ℕ NumberError
number_of word = cond (eqb (get_or word 0 255) 48 && eqb (get_or word 1 255) 120) (in_base 16 (part word 2 (length word))) (in_base 10 word)

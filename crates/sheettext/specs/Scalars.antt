-- A label "in UTF-8 with escapes \" \\ and \u{6F22}": one character at a time. A byte past the end reads 255, which no text in UTF-8 has.
use Rattle.std.specs.Prelude.{ℕ, ◌+◌, ◌*◌, ◌-◌, Bool, cond, ◌&&◌, ◌||◌, List, eqb, leb, ltb, length, get_or, Result, Ok, Err}
use Rattle.sheettext.specs.Parts.{part, until}
use Rattle.sheettext.specs.Numbers.{in_base}
use Rattle.sheettext.specs.declared.NumberError.{NumberError}
use Rattle.sheettext.specs.declared.Glyph.{Glyph}
use Rattle.sheettext.specs.declared.GlyphError.{GlyphError}
use Rattle.sheettext.specs.declared.GlyphError.TheVariants.{NotUtf8, NotAnEscape}

-- a character of this value in so many bytes
abbrev pub glyph : ℕ → ℕ → Result Glyph GlyphError
glyph value size = Ok (record { value = value; size = size })

-- "a Unicode scalar value": to 10FFFF, and no surrogate
unfoldable pub is_scalar : ℕ → Bool
is_scalar value = ltb value 0xD800 || ltb 0xDFFF value && leb value 0x10FFFF

-- what a byte after the first adds: its six low bits; one that cannot stand there makes the sum too large for a scalar value
unfoldable pub tail_of : ℕ → ℕ
tail_of b = cond (leb 0x80 b && ltb b 0xC0) (b - 0x80) 0x110000

-- a scalar value in so many bytes, if it is one that takes as many: none below `from` does
unfoldable pub shortest : ℕ → ℕ → ℕ → Result Glyph GlyphError
shortest from size value = cond (leb from value && is_scalar value) (glyph value size) (Err NotUtf8)

-- the character that bytes in UTF-8 begin with
unfoldable pub decoded : List ℕ → Result Glyph GlyphError
decoded bytes =
    let lead : ℕ = get_or bytes 0 255 in
    let one : ℕ = tail_of (get_or bytes 1 255) in
    let two : ℕ = tail_of (get_or bytes 2 255) in
    let three : ℕ = tail_of (get_or bytes 3 255) in
    cond (ltb lead 0x80) (shortest 0 1 lead)
    (cond (ltb lead 0xE0) (shortest 0x80 2 ((lead - 0xC0) * 0x40 + one))
    (cond (ltb lead 0xF0) (shortest 0x800 3 ((lead - 0xE0) * 0x1000 + one * 0x40 + two))
    (shortest 0x10000 4 ((lead - 0xF0) * 0x40000 + one * 0x1000 + two * 0x40 + three))))

-- the character that a number names, in so many bytes
unfoldable pub scalar_read : Result ℕ NumberError → ℕ → Result Glyph GlyphError
scalar_read (Ok value) size = cond (is_scalar value) (glyph value size) (Err NotAnEscape)
scalar_read (Err _) size = Err NotAnEscape

-- `\u{`, hexadecimal digits, `}`: the digits and four bytes round them
unfoldable pub by_number : List ℕ → Result Glyph GlyphError
by_number bytes =
    let rest : List ℕ = part bytes 3 (length bytes) in
    let digits : ℕ = until 125 rest in
    cond (eqb digits (length rest)) (Err NotAnEscape) (scalar_read (in_base 16 (part rest 0 digits)) (digits + 4))

-- an escape, from the backslash on
unfoldable pub unescaped : List ℕ → Result Glyph GlyphError
unescaped bytes =
    cond (eqb (get_or bytes 1 255) 34) (glyph 34 2)
    (cond (eqb (get_or bytes 1 255) 92) (glyph 92 2)
    (cond (eqb (get_or bytes 1 255) 117 && eqb (get_or bytes 2 255) 123) (by_number bytes) (Err NotAnEscape)))

-- the character of a label that bytes begin with
unfoldable pub label_glyph : List ℕ → Result Glyph GlyphError
label_glyph bytes = cond (eqb (get_or bytes 0 255) 92) (unescaped bytes) (decoded bytes)

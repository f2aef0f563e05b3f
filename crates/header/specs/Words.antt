-- The rules that a word of an image can have.
use Rattle.std.specs.Prelude.{ℕ, ◌+◌, ◌%◌, Bool, true, eqb, leb}
use Rattle.layout.specs.Layout.{max_coordinate}

-- "Colours are any u32": a word that has no rule of its own
abbrev pub any : Bool
any = true

abbrev pub at_most : ℕ → ℕ → Bool
at_most n limit = leb n limit

-- "Coordinates, extents, rows and offsets are at most 32,767."
abbrev pub within : ℕ → Bool
within n = at_most n max_coordinate

abbrev pub is_zero : ℕ → Bool
is_zero n = eqb n 0

-- "spare bits are 0": those below the lowest bit in use
abbrev pub clear : ℕ → ℕ → Bool
clear flags lowest = is_zero (flags % lowest)

-- "start + count leaves its table" is said of the span's start
abbrev pub inside : ℕ → ℕ → ℕ → Bool
inside start count held = leb (start + count) held

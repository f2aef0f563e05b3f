-- "Width range, 3: first, last, width 0 or 2; all others 1." A table of ranges is a list of words, three for each range.
use Rattle.std.specs.Prelude.{ℕ, zero, suc, ◌+◌, ◌-◌, ◌*◌, ◌/◌, ◌≤◌, ◌<◌, cond, List, length, get_or, eqb, ltb}
use Rattle.layout.specs.Layout.{range_last, range_size}
use Rattle.layout.specs.Layout as layout

abbrev pub range_count : List ℕ → ℕ
range_count ranges = length ranges / range_size

-- the words of range k

abbrev pub first_of : List ℕ → ℕ → ℕ
first_of ranges k = get_or ranges (range_size * k) 0

abbrev pub last_of : List ℕ → ℕ → ℕ
last_of ranges k = get_or ranges (range_size * k + range_last) 0

-- "width 0 or 2; all others 1"
abbrev pub as_width : ℕ → ℕ
as_width word = cond (eqb word 0) 0 (cond (eqb word 2) 2 1)

abbrev pub range_width : List ℕ → ℕ → ℕ
range_width ranges k = as_width (get_or ranges (range_size * k + layout.range_width) 0)

-- The range rule's order (code 5): no range has "first > last", nor "first not above the last before it".
pub record InOrder (ranges : List ℕ) : Type 0 where
  pub own : (k : ℕ) → k < range_count ranges → first_of ranges k ≤ last_of ranges k
  pub next : (k : ℕ) → suc k < range_count ranges → last_of ranges k < first_of ranges (suc k)

abbrev pub middle : ℕ → ℕ → ℕ
middle low high = low + (high - low) / 2

-- what bisecting the ranges from low to below high finds, in at most so many turns
unfoldable pub bisect : ℕ → List ℕ → ℕ → ℕ → ℕ → ℕ
bisect zero ranges value low high = 1
bisect (suc turns) ranges value low high =
    cond (ltb low high)
    (cond (ltb value (first_of ranges (middle low high))) (bisect turns ranges value low (middle low high))
    (cond (ltb (last_of ranges (middle low high)) value) (bisect turns ranges value (middle low high + 1) high)
    (range_width ranges (middle low high))))
    1

-- The width of a value under any words. Of a table in order it is the width of the range that holds the value, and 1 where none does (`width-held` and
-- `width-other` of the proofs).
unfoldable pub width_of : List ℕ → ℕ → ℕ
width_of ranges value = bisect (range_count ranges) ranges value 0 (range_count ranges)

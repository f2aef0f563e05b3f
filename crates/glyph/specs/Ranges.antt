-- The rule of code 5: "a width range has first > last, first not above the last before it, or holds 0020, 0022, 005B or 005D". It is one test, over any
-- table of ranges.
use Rattle.std.specs.Prelude.{ℕ, ◌-◌, ◌≤◌, ◌<◌, Bool, not, ◌&&◌, ◌||◌, List, [], ◌∷◌, ◌≡◌, leb, ltb, Option, Some, None}
use Rattle.ground.specs.Each.{numbers, each, every}
use Rattle.ground.specs.Judged.{Judged, judged, first_bad}
use Rattle.glyph.specs.Width.{range_count, first_of, last_of, range_width, width_of}

-- a range from first to last holds a value
abbrev pub holds : ℕ → ℕ → ℕ → Bool
holds first last value = leb first value && leb value last

-- "holds 0020, 0022, 005B or 005D": the characters that painting itself writes, whose width is fixed
unfoldable pub holds_fixed : ℕ → ℕ → Bool
holds_fixed first last = holds first last 0x20 || holds first last 0x22 || holds first last 0x5B || holds first last 0x5D

-- "first not above the last before it"; before range 0 there is none
unfoldable pub not_above : List ℕ → ℕ → Bool
not_above ranges k = ltb 0 k && leb (first_of ranges k) (last_of ranges (k - 1))

-- range k breaks the rule
unfoldable pub range_broken : List ℕ → ℕ → Bool
range_broken ranges k = ltb (last_of ranges k) (first_of ranges k) || not_above ranges k || holds_fixed (first_of ranges k) (last_of ranges k)

-- what the rule looks at: each range in turn, range k at the place that it has
abbrev pub judged_range : (ℕ → ℕ) → List ℕ → ℕ → List Judged
judged_range place ranges k = judged (place k) (not (range_broken ranges k)) ∷ []

unfoldable pub judged_ranges : (ℕ → ℕ) → List ℕ → List Judged
judged_ranges place ranges = each (numbers 0 (range_count ranges)) (judged_range place ranges)

-- the first range that breaks it, by its number
unfoldable pub first_broken : List ℕ → Option ℕ
first_broken ranges = first_bad (judged_ranges (λ k. k) ranges)

-- no range breaks it
unfoldable pub ranges_good : List ℕ → Bool
ranges_good ranges = every (numbers 0 (range_count ranges)) (λ k. not (range_broken ranges k))

-- the place of the range that is found
abbrev pub placed : (ℕ → ℕ) → Option ℕ → Option ℕ
placed place None = None
placed place (Some k) = Some (place k)

-- the four characters
pub data Fixed : ℕ → Type 0 where
  space : Fixed 0x20
  quote : Fixed 0x22
  opening : Fixed 0x5B
  closing : Fixed 0x5D

-- range k keeps the rule
pub record RangeGood (ranges : List ℕ) (k : ℕ) : Type 0 where
  -- not "first > last"
  pub own : first_of ranges k ≤ last_of ranges k
  -- not "first not above the last before it"
  pub above : 0 < k → last_of ranges (k - 1) < first_of ranges k
  -- not "holds 0020, 0022, 005B or 005D"
  pub fixed : (value : ℕ) → Fixed value → first_of ranges k ≤ value → value ≤ last_of ranges k → ⊥

-- the widths that a table without a broken range gives
pub record WidthsRight (ranges : List ℕ) : Type 0 where
  -- "Width range, 3: first, last .., width 0 or 2": a value that a range holds has its width
  pub held :
      (k value : ℕ) → k < range_count ranges → first_of ranges k ≤ value → value ≤ last_of ranges k →
      width_of ranges value ≡ range_width ranges k
  -- "all others 1"
  pub other :
      (value : ℕ) → ((k : ℕ) → k < range_count ranges → first_of ranges k ≤ value → value ≤ last_of ranges k → ⊥) →
      width_of ranges value ≡ 1
  -- so the four characters have width 1
  pub fixed : (value : ℕ) → Fixed value → width_of ranges value ≡ 1

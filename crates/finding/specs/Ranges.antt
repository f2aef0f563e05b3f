-- Code 5, rule by rule: "a width range has first > last, first not above the last before it, or holds 0020, 0022, 005B or 005D".
use Rattle.std.specs.Prelude.{ℕ, ◌-◌, List, ltb, Option}
use Rattle.std.specs.Option.{option_or}
use Rattle.std.specs.Bool.{then_some}
use Rattle.glyph.specs.Width.{first_of, last_of}
use Rattle.glyph.specs.Ranges.{holds, not_above}
use Rattle.finding.specs.declared.RangeFaults.{RangeFaults}

-- a value, where the range from first to last holds it
abbrev pub fixed_at : ℕ → ℕ → ℕ → Option ℕ
fixed_at first last value = then_some (holds first last value) value

-- the first of the four characters that it holds
unfoldable pub fixed_in : ℕ → ℕ → Option ℕ
fixed_in first last =
    option_or (option_or (fixed_at first last 0x20) (fixed_at first last 0x22)) (option_or (fixed_at first last 0x5B) (fixed_at first last 0x5D))

unfoldable pub range_faults : List ℕ → ℕ → RangeFaults
range_faults ranges k = record {
  first = first_of ranges k;
  last = last_of ranges k;
  first_before = first_of ranges (k - 1);
  last_before = last_of ranges (k - 1);
  turned = ltb (last_of ranges k) (first_of ranges k);
  not_above = not_above ranges k;
  fixed = fixed_in (first_of ranges k) (last_of ranges k);
}

-- The faults that are told are all that breaks the rule: a width range's, and an element's rows'.
use Prim.Native.Nat.{ℕ}
use mathlib.Core.Bool.{Bool, true, false, ◌||◌}
use mathlib.Core.List.{List}
use mathlib.Core.Path.{◌≡◌, refl}
use Rattle.std.specs.Prelude.{Option, Some, None}
use Rattle.std.specs.Option.{option_or}
use Rattle.std.specs.Bool.{then_some}
use Rattle.glyph.specs.Width.{first_of, last_of}
use Rattle.glyph.specs.Ranges.{holds, holds_fixed, range_broken}
use Rattle.layout.specs.declared.Tables.{Tables}
use Rattle.elements.specs.Elements.{rows_broken}
use Rattle.elements.proofs.Laws.{is_found}
use Rattle.finding.specs.Ranges.{fixed_in, range_faults}
use Rattle.finding.specs.Order.{order_faults}

found_either : (a b : Option ℕ) → is_found (option_or a b) ≡ is_found a || is_found b
found_either None b = refl
found_either (Some n) b = refl

found_test : (test : Bool) (n : ℕ) → is_found (then_some test n) ≡ test
found_test true n = refl
found_test false n = refl

or_grouped : (a b c d : Bool) → a || b || c || d ≡ (a || b) || (c || d)
or_grouped true b c d = refl
or_grouped false true c d = refl
or_grouped false false c d = refl

-- A range holds one of the four characters exactly when one is found.
pub fixed_told : (first last : ℕ) → holds_fixed first last ≡ is_found (fixed_in first last)
unfolding holds_fixed fixed_in
fixed_told first last =
    simp (found_either, found_test)
    (or_grouped (holds first last 0x20) (holds first last 0x22) (holds first last 0x5B) (holds first last 0x5D))

-- A range breaks the rule exactly when it has one of the three faults.
pub range_told :
    (ranges : List ℕ) (k : ℕ) →
    range_broken ranges k
    ≡ (range_faults ranges k).turned || (range_faults ranges k).not_above || is_found (range_faults ranges k).fixed
unfolding range_broken range_faults
range_told ranges k = rw (fixed_told (first_of ranges k) (last_of ranges k))

-- An element's rows are out of order exactly when they have one of the two faults.
pub order_told : (image : List ℕ) (ts : Tables) (k : ℕ) → rows_broken image ts k ≡ (order_faults image ts k).turned || (order_faults image ts k).early
unfolding order_faults
order_told image ts k = refl

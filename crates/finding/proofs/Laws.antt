-- Laws over plain values, which the functions' proofs cite: the parts of an answer put together, and the search for a thing's listing.
use Prim.Native.Nat.{ℕ, ◌+◌, ◌-◌, ◌*◌}
use mathlib.Core.Bool.{◌&&◌}
use mathlib.Core.List.{List}
use mathlib.Core.Path.{◌≡◌}
use lib.Dec.{leb, ltb}
use Rattle.std.specs.Prelude.{Option}
use Rattle.std.specs.Option.{option_or}
use Rattle.glyph.specs.Ranges.{not_above}
use Rattle.layout.specs.declared.Tables.{Tables}
use Rattle.layout.specs.Layout.{range_size, range_last}
use Rattle.layout.specs.Tables.{word, tables_of}
use Rattle.elements.specs.Elements.{first_row, last_row}
use Rattle.finding.specs.declared.OrderFaults.{OrderFaults}
use Rattle.finding.specs.declared.RangeFaults.{RangeFaults}
use Rattle.finding.specs.Ranges.{fixed_at, fixed_in, range_faults}
use Rattle.finding.specs.Order.{order_faults}

-- the first of the four characters
pub one_of_four :
    (first last : ℕ) (a b c d ab cd r : Option ℕ) →
    r ≡ option_or ab cd →
    ab ≡ option_or a b →
    cd ≡ option_or c d →
    a ≡ fixed_at first last 0x20 →
    b ≡ fixed_at first last 0x22 →
    c ≡ fixed_at first last 0x5B →
    d ≡ fixed_at first last 0x5D →
    r ≡ fixed_in first last
unfolding fixed_in
one_of_four first last a b c d ab cd r e f g p q s t = rw (e, f, g, p, q, s, t)

-- a range and the one before it
pub range_put :
    (ranges : List ℕ) (k first last before first_before last_before : ℕ) (fixed : Option ℕ) →
    before ≡ k - 1 →
    first ≡ word ranges (range_size * k) →
    last ≡ word ranges (range_size * k + range_last) →
    first_before ≡ word ranges (range_size * before) →
    last_before ≡ word ranges (range_size * before + range_last) →
    fixed ≡ fixed_in first last →
    ◌≡◌ {A = RangeFaults} (record {
      first = first;
      last = last;
      first_before = first_before;
      last_before = last_before;
      turned = ltb last first;
      not_above = ltb 0 k && leb first last_before;
      fixed = fixed;
    }) (range_faults ranges k)
unfolding range_faults not_above
range_put ranges k first last before first_before last_before fixed b f l g m x = rw (x, g, m, f, l, b)

-- an element's rows and the one before it
pub order_put :
    (image : List ℕ) (ts : Tables) (k first last previous before : ℕ) →
    ts ≡ tables_of image →
    first ≡ first_row image ts k →
    last ≡ last_row image ts k →
    previous ≡ k - 1 →
    before ≡ first_row image ts previous →
    ◌≡◌ {A = OrderFaults} (record { before = before; turned = ltb last first; early = ltb 0 k && ltb first before })
    (order_faults image (tables_of image) k)
unfolding order_faults
order_put image ts k first last previous before t f l p b = rw (← t, b, f, l, p)

-- `char_width` is the width of a value. The invariant: what is left to bisect finds that width. The measure: how many ranges are left.
use Prim.Native.Nat.{◌-◌, ◌≤◌}
use mathlib.Core.Path.{◌≡◌}
use Rattle.glyph.specs.Width.{bisect, width_of, range_count}
use Rattle.glyph.proofs.char_width.Given as goal

abbrev pub invariant-loop-low : goal.invariant-loop-low
invariant-loop-low l = (l.high ≤ range_count l.ranges) × (bisect (l.high - l.low) l.ranges l.value l.low l.high ≡ width_of l.ranges l.value)

abbrev pub decreases-loop-low : goal.decreases-loop-low
decreases-loop-low l = l.high - l.low

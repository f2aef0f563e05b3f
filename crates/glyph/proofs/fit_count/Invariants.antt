-- `fit_count` is how many glyphs fit. The invariant: the glyphs passed, and those of the rest that fit, are that many.
use Prim.Native.Nat.{◌+◌, ◌≤◌}
use mathlib.Core.Path.{◌≡◌}
use lib.ListN.{length, drop}
use Rattle.glyph.specs.Fitting.{fit_count}
use Rattle.glyph.proofs.fit_count.Given as goal

abbrev pub invariant-loop-n : goal.invariant-loop-n
invariant-loop-n l = (l.n ≤ length l.label) × (l.n + fit_count (drop l.n l.label) l.ranges l.left ≡ fit_count l.label l.ranges l.columns)

-- `any_ink` says whether some glyph has width 1 or 2. The invariant: the glyphs left have ink exactly where all do.
use mathlib.Core.Path.{◌≡◌}
use lib.ListN.{drop}
use Rattle.frame.specs.Computed.{any_ink}
use Rattle.frame.proofs.frames.any_ink.Given as goal

abbrev pub invariant-loop-glyph : goal.invariant-loop-glyph
invariant-loop-glyph l = any_ink l.ranges (drop l.glyph-index l.glyphs) ≡ any_ink l.ranges l.glyphs

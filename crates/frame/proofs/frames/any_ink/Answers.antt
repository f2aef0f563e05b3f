-- `any_ink` says whether some glyph has width 1 or 2. The invariant: the glyphs left have ink exactly where all do.
use borrow.Author.Rules.{rules}
use Rattle.frame.proofs.Laws.{none_left, ink, no_ink}
use Rattle.frame.proofs.frames.any_ink.Goals as goal

pub returns-then-char_width-gt0 : goal.returns-then-char_width-gt0
returns-then-char_width-gt0 c = search (ink, rules)

pub loop-glyph-preserved : goal.loop-glyph-preserved
loop-glyph-preserved c = search (no_ink, rules)

pub returns : goal.returns
returns c = search (none_left, rules)

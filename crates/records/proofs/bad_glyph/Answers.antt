-- `bad_glyph` finds the first word of a glyph that breaks its rule.
use Rattle.header.specs.InTurn.{or_words}
use Rattle.records.specs.Records.{glyph_rules}
use Rattle.header.proofs.InTurn.{in_turn}
use Rattle.records.proofs.bad_glyph.Goals as goal

pub returns : goal.returns
unfolding glyph_rules or_words
returns c = in_turn _ _ _ _ (rw (c.or_unless.ensures, c.scalar_good-good.ensures, c.word_inside.ensures))

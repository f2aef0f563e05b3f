-- `inside` finds a span that leaves its table.
use Rattle.records.proofs.inside.Goals as goal

pub returns : goal.returns
returns c = rw (c.or_unless.ensures, c.span_good-good.ensures, c.word_inside-2.ensures, c.word_inside.ensures)

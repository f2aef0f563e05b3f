-- `paint_stages` paints the lines, then the text.
use borrow.Author.Rules.{rules}
use Rattle.compose.proofs.Laws.{ready_long, all_painted}
use Rattle.compose.proofs.stages.paint_stages.Goals as goal

pub returns-clause-stamps_after : goal.returns-clause-stamps_after
returns-clause-stamps_after c = all_painted _ _ _ _ _ _ _ c.requires.0.read c.paint_lines.ensures.stamps_after c.paint_text.ensures

pub returns-clause-scratch_len_unchanged : goal.returns-clause-scratch_len_unchanged
returns-clause-scratch_len_unchanged c = c.paint_lines.ensures.scratch_len_unchanged

pub paint_text-requires : goal.paint_text-requires
paint_text-requires c = (search rules, search (ready_long, rules))

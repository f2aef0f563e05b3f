-- `paint_band` selects, paints what is marked, and clears the scratch.
use borrow.Author.Rules.{rules}
use Rattle.compose.proofs.Known.{walkable, marked_of}
use Rattle.compose.proofs.Picture.{scratch_cleared}
use Rattle.compose.proofs.band.paint_band.Goals as goal

pub mark_listed-requires : goal.mark_listed-requires
mark_listed-requires c = walkable _ _ c.requires.0 c.tables_of-ts.ensures.value c.tables_of-ts.ensures.all_small

pub paint_selected-requires : goal.paint_selected-requires
paint_selected-requires c = (
  c.requires.0,
  c.tables_of-ts.ensures.value,
  c.tables_of-ts.ensures.all_small,
  c.requires.1,
  marked_of _ _ _ _ _ _ (walkable _ _ c.requires.0 c.tables_of-ts.ensures.value c.tables_of-ts.ensures.all_small) (search rules) c.mark_listed.ensures,
  c.requires.2,
)

pub returns-clause-stamps_after : goal.returns-clause-stamps_after
returns-clause-stamps_after c = c.paint_selected.ensures.stamps_after

pub returns-clause-scratch_after : goal.returns-clause-scratch_after
returns-clause-scratch_after c = scratch_cleared _ _ _ _ c.clear.ensures c.paint_selected.ensures.scratch_len_unchanged c.requires.2.lent_scratch

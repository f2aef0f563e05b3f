-- `paint_lines` paints the borders and the edges, then puts the runs that waited in.
use native.Mathlib.Omega.{arith}
use mathlib.Core.Path.{◌∙◌}
use Rattle.window.proofs.Theorems.{ready_after}
use Rattle.compose.proofs.Laws.{kept_room, kept_few, lines_painted}
use Rattle.compose.proofs.stages.paint_lines.Goals as goal

pub lay_edges-kept-requires : goal.lay_edges-kept-requires
lay_edges-kept-requires c =
    let ready = ready_after _ _ _ _ _ _ _ _ _ _ c.paint_borders.ensures c.requires.1 in
    (c.requires.0, record { ready = ready; room = omega arith }, c.requires.2.edges)

pub flush-requires : goal.flush-requires
flush-requires c =
    let ready = ready_after _ _ _ _ _ _ _ _ _ _ c.lay_edges-kept.ensures.inked (ready_after _ _ _ _ _ _ _ _ _ _ c.paint_borders.ensures c.requires.1) in
    (ready, c.requires.2.narrow, kept_room _ _ _ _ _ _ _ _ _ _ _ _ _ _ c.requires.2 c.lay_edges-kept.ensures, kept_few _ _ _ _ _ _ _ _ _ _ _ _ _ _ c.requires.2 c.lay_edges-kept.ensures)

pub returns-clause-stamps_after : goal.returns-clause-stamps_after
returns-clause-stamps_after c = lines_painted _ _ _ _ _ _ _ _ _ _ _ _ _ _ c.requires.2 c.lay_edges-kept.ensures _ _ c.paint_borders.ensures c.flush.ensures.stamps_after

pub returns-clause-scratch_len_unchanged : goal.returns-clause-scratch_len_unchanged
returns-clause-scratch_len_unchanged c = c.flush.ensures.scratch_len_unchanged ∙ c.lay_edges-kept.ensures.waiting.long

-- `paint_selected` clears, paints all stages, and clears the stamps.
use mathlib.Core.Path.{◌∙◌}
use Rattle.compose.proofs.Known.{staged, runs_fit, cleared_ready}
use Rattle.compose.proofs.Picture.{band_painted}
use Rattle.compose.proofs.band.paint_selected.Goals as goal

pub paint_stages-requires : goal.paint_stages-requires
paint_stages-requires c =
    let wide = c.number.ensures.0 ∙ c.word.ensures in (
      staged _ _ c.requires.0 c.requires.1 _ c.requires.3 _ _ c.requires.2 c.table_words-ranges.ensures c.requires.4,
      cleared_ready _ _ c.requires.0 c.requires.3 wide _ _ _ _ _ _ _ _ c.requires.5 c.clear.ensures c.clear_plane.ensures c.clear_plane-2.ensures,
      runs_fit _ _ c.requires.0 c.requires.1 _ c.requires.3 _ wide c.requires.5.lent_scratch,
    )

pub returns-clause-stamps_after : goal.returns-clause-stamps_after
returns-clause-stamps_after c =
    let wide = c.number.ensures.0 ∙ c.word.ensures in
    band_painted _ _ wide _ _ _ _ _ _ _ _ _ _ _ _ _ c.requires.1 c.requires.5 c.clear.ensures c.clear_plane.ensures c.clear_plane-2.ensures
    c.paint_stages.ensures.stamps_after (c.stamps-2-1.given ∙ c.stamps-1.given) c.clear_plane-3.ensures

pub returns-clause-scratch_len_unchanged : goal.returns-clause-scratch_len_unchanged
returns-clause-scratch_len_unchanged c = c.paint_stages.ensures.scratch_len_unchanged

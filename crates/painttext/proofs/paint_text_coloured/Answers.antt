-- `paint_text_coloured` meets its contract.
use mathlib.Core.Path.{◌∙◌}
use Rattle.painttext.proofs.Laws.{coloured_text_refused, coloured_band_ready, coloured_band_fits, coloured_text_painted}
use Rattle.painttext.proofs.paint_text_coloured.Goals as goal

pub returns-in_default : goal.returns-in_default
returns-in_default c = coloured_text_refused _ _ _ _ _ _ _ _ _ c.text_coloured_verdict-verdict.ensures _ c.in_default.field-0.code c.in_default.field-0.place c.written_of.ensures c.in_default.is

pub paint_planes-requires : goal.paint_planes-requires
paint_planes-requires c = coloured_band_ready _ _ _ _ _ _ _ _ _ c.text_coloured_verdict-verdict.ensures c.in-Ok.is

pub write_band-bytes-requires : goal.write_band-bytes-requires
write_band-bytes-requires c = coloured_band_fits _ _ _ _ _ _ _ _ _ c.text_coloured_verdict-verdict.ensures c.in-Ok.is _ _ _ (c.number-width.ensures.0 ∙ c.word.ensures) c.paint_planes.ensures.cells_after c.paint_planes.ensures.colours_after

pub returns : goal.returns
returns c =
    coloured_text_painted _ _ _ _ _ _ _ _ _ c.text_coloured_verdict-verdict.ensures c.in-Ok.is _ _ _ (c.number-width.ensures.0 ∙ c.word.ensures) c.paint_planes.ensures.cells_after c.paint_planes.ensures.colours_after
    _ _ _ _ _ c.paint_planes.ensures.stamps_after c.paint_planes.ensures.scratch_after c.write_band-bytes.ensures.value c.write_band-bytes.ensures.out_after c.written_of-2.ensures

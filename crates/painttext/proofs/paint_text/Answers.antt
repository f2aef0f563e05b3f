-- `paint_text` meets its contract.
use mathlib.Core.Path.{◌∙◌}
use Rattle.painttext.proofs.Laws.{text_refused, ready, band_fits, text_painted}
use Rattle.painttext.proofs.paint_text.Goals as goal

pub returns-in_default : goal.returns-in_default
returns-in_default c = text_refused _ _ _ _ _ _ _ c.text_verdict-verdict.ensures _ c.in_default.field-0.code c.in_default.field-0.place c.written_of.ensures c.in_default.is

pub paint_plain-requires : goal.paint_plain-requires
paint_plain-requires c = ready _ _ _ _ _ _ _ c.text_verdict-verdict.ensures c.in-Ok.is

pub write_band-bytes-requires : goal.write_band-bytes-requires
write_band-bytes-requires c = band_fits _ _ _ _ _ _ _ c.text_verdict-verdict.ensures c.in-Ok.is _ _ (c.number-width.ensures.0 ∙ c.word.ensures) c.paint_plain.ensures.cells_after

pub returns : goal.returns
returns c =
    text_painted _ _ _ _ _ _ _ c.text_verdict-verdict.ensures c.in-Ok.is _ _ (c.number-width.ensures.0 ∙ c.word.ensures) c.paint_plain.ensures.cells_after
    _ _ _ _ c.paint_plain.ensures.scratch_after c.write_band-bytes.ensures.value c.write_band-bytes.ensures.out_after c.written_of-2.ensures

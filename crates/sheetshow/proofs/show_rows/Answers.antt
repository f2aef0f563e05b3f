-- `show_rows` writes a text that has room in the output.
use borrow.Author.Rules.{rules}
use Rattle.sheetshow.proofs.Laws.{text_fits, text_within}
use Rattle.sheetshow.proofs.show_rows.Goals as goal

pub write_band-bytes-requires : goal.write_band-bytes-requires
write_band-bytes-requires g c = (search rules, search (text_fits, rules))

pub shared_ref_as_front-write_all : goal.shared_ref_as_front-write_all
shared_ref_as_front-write_all g c = text_within _ _ _ _ _ c.write_band-bytes.ensures.value (search rules) (search rules)

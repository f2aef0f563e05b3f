-- `end_row` writes the change to colour 0 and then the line feed.
use borrow.Author.Rules.{rules}
use mathlib.Core.List.{[], ◌∷◌}
use Rattle.rowtext.specs.Text.{feed}
use Rattle.rowtext.proofs.Laws.{change_fits, text_fits, text_put, of_end}
use Rattle.rowtext.proofs.end_row.Goals as goal

pub change_to-end-requires : goal.change_to-end-requires
change_to-end-requires c = change_fits _ _ _ (feed ∷ []) _ _ (of_end _) c.requires

pub put_bytes-requires : goal.put_bytes-requires
put_bytes-requires c =
    let room = text_fits c.args.pen.at _ _ (feed ∷ []) _ c.args.out.now (of_end _) c.requires _ c.change_to-end.ensures.value in
    (search rules, search rules)

pub returns : goal.returns
returns c =
    let told =
    text_put c.args.pen.at _ _ (feed ∷ []) _ c.args.out.now (of_end _) c.requires _ _ _ _
    (c.change_to-end.ensures.value, c.change_to-end.ensures.out_after) (c.put_bytes.ensures.value, c.put_bytes.ensures.out_after)
    in
    record { value = told.0; out_after = told.1 }

-- `put_character` writes the change of colour and then the character.
use borrow.Author.Rules.{rules}
use mathlib.Core.Path.{refl}
use Rattle.utf8.specs.Utf8.{utf8}
use Rattle.rowtext.proofs.Laws.{change_fits, text_fits, text_put, of_character}
use Rattle.rowtext.proofs.put_character.Goals as goal

pub change_to-begin-requires : goal.change_to-begin-requires
change_to-begin-requires c = change_fits _ _ _ (utf8 c.args.ch) _ _ (of_character _ _ _) c.requires.1

pub put-requires : goal.put-requires
put-requires c =
    let room = text_fits c.args.pen.at _ _ (utf8 c.args.ch) _ c.args.out.now (of_character _ _ _) c.requires.1 _ c.change_to-begin.ensures.value in
    (search rules, search rules)

pub returns : goal.returns
returns c =
    let told =
    text_put c.args.pen.at _ _ (utf8 c.args.ch) _ c.args.out.now (of_character _ _ _) c.requires.1 _ _ _ _
    (c.change_to-begin.ensures.value, c.change_to-begin.ensures.out_after) (c.put.ensures.value, c.put.ensures.out_after)
    in
    record { at_value = (told.0, refl); out_after = told.1 }

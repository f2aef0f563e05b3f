-- `write_cell` meets its contract.
use borrow.Author.Rules.{rules}
use mathlib.Core.Path.{sym}
use lib.ListN.{length}
use Rattle.shapes.proofs.Laws.{shape_small}
use Rattle.utf8.proofs.Written.{put_nothing, put_as}
use Rattle.rowtext.proofs.Laws.{nothing_shown, character_shown, character_fits}
use Rattle.rowtext.proofs.write_cell.Goals as goal

pub returns-in_default-clause-at_value : goal.returns-in_default-clause-at_value
returns-in_default-clause-at_value c =
    let shown = nothing_shown _ c.args.pen.colour c.args.colour _ c.shape_of.ensures c.in_default.is in
    let told = put_nothing c.args.pen.at c.args.out.now _ shown.0 in
    (told.0, sym shown.1)

pub returns-in_default-clause-out_after : goal.returns-in_default-clause-out_after
returns-in_default-clause-out_after c =
    let shown = nothing_shown _ c.args.pen.colour c.args.colour _ c.shape_of.ensures c.in_default.is in
    let told = put_nothing c.args.pen.at c.args.out.now _ shown.0 in
    told.1

pub put_character-requires : goal.put_character-requires
put_character-requires c =
    let room = character_fits _ c.args.pen.colour c.args.colour _ c.shape_of.ensures _ c.args.pen.at (length c.args.out.now) c.in-Some.is (search rules) in
    (shape_small _ _ _ c.shape_of.ensures c.in-Some.is, search rules)

pub returns-clause-at_value : goal.returns-clause-at_value
returns-clause-at_value c =
    let same = character_shown _ c.args.pen.colour c.args.colour _ c.shape_of.ensures _ c.in-Some.is in
    let put_cell = put_as _ _ _ _ _ _ same.0 (c.put_character.ensures.at_value.0, c.put_character.ensures.out_after) in
    (put_cell.0, search (same, rules))

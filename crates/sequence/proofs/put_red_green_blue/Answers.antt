-- `put_red_green_blue` meets its contract.
use borrow.Author.Rules.{rules}
use Rattle.sequence.proofs.Laws.{fits_red, fits_green, fits_blue, three_numerals}
use Rattle.sequence.proofs.put_red_green_blue.Goals as goal

pub put_numeral-red-requires : goal.put_numeral-red-requires
put_numeral-red-requires c = (search rules, fits_red c.args.at c.args.colour c.args.out.now (search rules))

pub put_numeral-green-requires : goal.put_numeral-green-requires
put_numeral-green-requires c =
    let room = fits_green _ c.args.colour c.args.out.now (search rules) _ c.put_numeral-red.ensures.value in
    (search rules, search rules)

pub put_numeral-requires : goal.put_numeral-requires
put_numeral-requires c =
    let room = fits_blue _ c.args.colour c.args.out.now (search rules) _ _ c.put_numeral-red.ensures.value c.put_numeral-green.ensures.value in
    (search rules, search rules)

pub returns : goal.returns
returns c =
    let p = three_numerals c.args.at c.args.colour c.args.out.now c.requires c.put_numeral-red.result c.put_numeral-green.result c.put_numeral.result c.put_numeral-red.new.out c.put_numeral-green.new.out c.put_numeral.new.out c.put_numeral-red.auto.out (c.put_numeral-red.ensures.value, c.put_numeral-red.ensures.out_after) (c.put_numeral-green.ensures.value, c.put_numeral-green.ensures.out_after) (c.put_numeral.ensures.value, c.put_numeral.ensures.out_after) in
    record { value = p.0; out_after = p.1 }

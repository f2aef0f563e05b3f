-- `put_numeral` stores the digits and then the byte.
use borrow.Author.Rules.{rules}
use Rattle.sequence.proofs.Laws.{fits_decimal, fits_byte, numeral_put}
use Rattle.sequence.proofs.put_numeral.Goals as goal

pub put_decimal-end-requires : goal.put_decimal-end-requires
put_decimal-end-requires c = (search rules, fits_decimal c.args.at c.args.n c.args.byte c.args.out.now (search rules))

pub put_bytes-requires : goal.put_bytes-requires
put_bytes-requires c =
    let room = fits_byte _ c.args.n c.args.byte c.args.out.now (search rules) _ c.put_decimal-end.ensures.value in
    (search rules, search rules)

pub returns : goal.returns
returns c =
    let p = numeral_put c.args.at c.args.n c.args.byte c.args.out.now c.requires.1 c.put_decimal-end.result c.put_bytes.result c.put_decimal-end.new.out c.put_bytes.new.out (c.put_decimal-end.ensures.value, c.put_decimal-end.ensures.out_after) (c.put_bytes.ensures.value, c.put_bytes.ensures.out_after) c.put_decimal-end.auto.out in
    record { value = p.0; out_after = p.1 }

-- `put_sequence` stores the front of a sequence, by the kind of colour, and then its numbers.
use borrow.Author.Rules.{rules}
use Rattle.sequence.specs.Sequence.{numeral, ending, basic, indexed, direct, red_green_blue}
use Rattle.sequence.proofs.Laws.{front_fits, number_fits, after_front, is_reset, is_basic, is_indexed, is_direct}
use Rattle.sequence.proofs.put_sequence.Goals as goal

-- The room for the reset, and for the front of each other kind.

pub put_bytes-requires : goal.put_bytes-requires
put_bytes-requires c = (search rules, rw (is_reset _ c.if-colour-eq0.true) at c.requires)

pub put_bytes-number-requires : goal.put_bytes-number-requires
put_bytes-number-requires c = (search rules, front_fits _ _ basic (numeral c.args.colour ending) _ (is_basic _ c.if-colour-eq0.false c.if-colour-lt-FIRST_INDEXED.true) c.requires)

pub put_bytes-number-requires-then-colour-lt-FIRST_DIRECT : goal.put_bytes-number-requires-then-colour-lt-FIRST_DIRECT
put_bytes-number-requires-then-colour-lt-FIRST_DIRECT c =
    (search rules, front_fits _ _ indexed (numeral c.args.colour ending) _ (is_indexed _ c.if-colour-eq0.false c.if-colour-lt-FIRST_INDEXED.false c.if-colour-lt-FIRST_DIRECT.true) c.requires)

pub put_bytes-number-requires-2 : goal.put_bytes-number-requires-2
put_bytes-number-requires-2 c =
    (search rules, front_fits _ _ direct (red_green_blue c.args.colour) _ (is_direct _ c.if-colour-eq0.false c.if-colour-lt-FIRST_INDEXED.false c.if-colour-lt-FIRST_DIRECT.false) c.requires)

-- The room for the numbers.

pub put_numeral-requires : goal.put_numeral-requires
put_numeral-requires c =
    let room = number_fits _ _ basic (numeral c.args.colour ending) _ (is_basic _ c.if-colour-eq0.false c.if-colour-lt-FIRST_INDEXED.true) c.requires _ c.put_bytes-number.ensures.value in
    (search rules, search rules)

pub put_numeral-requires-then-colour-lt-FIRST_DIRECT : goal.put_numeral-requires-then-colour-lt-FIRST_DIRECT
put_numeral-requires-then-colour-lt-FIRST_DIRECT c =
    let room = number_fits _ _ indexed (numeral c.args.colour ending) _ (is_indexed _ c.if-colour-eq0.false c.if-colour-lt-FIRST_INDEXED.false c.if-colour-lt-FIRST_DIRECT.true) c.requires _ c.put_bytes-number-then-colour-lt-FIRST_DIRECT.ensures.value in
    (search rules, search rules)

pub put_red_green_blue-requires : goal.put_red_green_blue-requires
put_red_green_blue-requires c =
    let room = number_fits _ _ direct (red_green_blue c.args.colour) _ (is_direct _ c.if-colour-eq0.false c.if-colour-lt-FIRST_INDEXED.false c.if-colour-lt-FIRST_DIRECT.false) c.requires _ c.put_bytes-number-2.ensures.value in
    search rules

-- What is stored.

pub returns-then-colour-eq0 : goal.returns-then-colour-eq0
returns-then-colour-eq0 c = rw (is_reset _ c.if-colour-eq0.true) c.put_bytes.ensures

pub returns-then-colour-lt-FIRST_INDEXED : goal.returns-then-colour-lt-FIRST_INDEXED
returns-then-colour-lt-FIRST_INDEXED c =
    let p =
    after_front _ _ basic (numeral c.args.colour ending) _ (is_basic _ c.if-colour-eq0.false c.if-colour-lt-FIRST_INDEXED.true) c.requires _ _ _ _
    (c.put_bytes-number.ensures.value, c.put_bytes-number.ensures.out_after) (c.put_numeral.ensures.value, c.put_numeral.ensures.out_after)
    in
    record { value = p.0; out_after = p.1 }

pub returns-then-colour-lt-FIRST_DIRECT : goal.returns-then-colour-lt-FIRST_DIRECT
returns-then-colour-lt-FIRST_DIRECT c =
    let p =
    after_front _ _ indexed (numeral c.args.colour ending) _ (is_indexed _ c.if-colour-eq0.false c.if-colour-lt-FIRST_INDEXED.false c.if-colour-lt-FIRST_DIRECT.true) c.requires _ _ _ _
    (c.put_bytes-number-then-colour-lt-FIRST_DIRECT.ensures.value, c.put_bytes-number-then-colour-lt-FIRST_DIRECT.ensures.out_after)
    (c.put_numeral-then-colour-lt-FIRST_DIRECT.ensures.value, c.put_numeral-then-colour-lt-FIRST_DIRECT.ensures.out_after)
    in
    record { value = p.0; out_after = p.1 }

pub returns : goal.returns
returns c =
    let p =
    after_front _ _ direct (red_green_blue c.args.colour) _ (is_direct _ c.if-colour-eq0.false c.if-colour-lt-FIRST_INDEXED.false c.if-colour-lt-FIRST_DIRECT.false) c.requires _ _ _ _
    (c.put_bytes-number-2.ensures.value, c.put_bytes-number-2.ensures.out_after) (c.put_red_green_blue.ensures.value, c.put_red_green_blue.ensures.out_after)
    in
    record { value = p.0; out_after = p.1 }

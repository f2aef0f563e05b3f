-- `change_to` writes the sequence where the colours differ, and else nothing.
use Rattle.utf8.proofs.Written.{put_nothing}
use Rattle.rowtext.proofs.Laws.{no_change, a_change}
use Rattle.rowtext.proofs.change_to.Goals as goal

pub put_sequence-requires : goal.put_sequence-requires
put_sequence-requires c = rw (a_change _ _ c.if-pen-colour.false) at c.requires

pub returns-then-pen-colour : goal.returns-then-pen-colour
returns-then-pen-colour c =
    let p = put_nothing c.args.pen.at c.args.out.now _ (no_change _ _ c.if-pen-colour.true) in
    record { value = p.0; out_after = p.1 }

pub returns : goal.returns
returns c = rw (a_change _ _ c.if-pen-colour.false) c.put_sequence.ensures

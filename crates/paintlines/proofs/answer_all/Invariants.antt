-- The invariant of `answer_all`: the buffers keep their lengths.
use Rattle.paintlines.specs.Request.{Buffers}
use Rattle.paintlines.proofs.answer_all.Given as goal

abbrev pub invariant-loop : goal.invariant-loop
invariant-loop g l =
    Buffers l.bytes l.image l.cells l.colours l.stamps l.scratch l.out

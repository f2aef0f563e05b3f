-- `first_found` gives what is found first. The invariant: what is found from this number on is what is found of all.
use borrow.Author.Rules.{rules}
use mathlib.Core.Path.{sym, ◌∙◌}
use Rattle.ground.proofs.First.{seek_whole, seek_hit, seek_on, seek_done}
use Rattle.ground.proofs.first_found.Goals as goal

pub loop-k-init : goal.loop-k-init
loop-k-init g c = λ found h. seek_whole found _

pub returns-in-Some : goal.returns-in-Some
returns-in-Some g c = λ found h.
    seek_hit found c.loop-k.k _ _ (c.loop-k.invariant found h) _ c.loop-k-test.true (sym (h c.loop-k.k _ c.loop-k-test.true c.look.ensures) ∙ c.in-Some.is)

pub loop-k-preserved : goal.loop-k-preserved
loop-k-preserved g c = λ found h.
    seek_on found c.loop-k.k _ _ (c.loop-k.invariant found h) c.loop-k-test.true (sym (h c.loop-k.k _ c.loop-k-test.true c.look.ensures) ∙ c.in_default.is)

pub returns : goal.returns
returns g c = λ found h. seek_done found c.loop-k.k _ _ (c.loop-k.invariant found h) (search rules)

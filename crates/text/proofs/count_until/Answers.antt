-- `count_until` counts the glyphs before the closing column. The invariant: those looked at, and those ahead that come before it, are all that do.
use native.Mathlib.Omega.{arith}
use borrow.Author.Rules.{rules}
use Prim.Native.Nat.{◌-◌}
use mathlib.Core.Path.{◌≡◌, refl, ◌∙◌}
use lib.ListN.{length}
use Rattle.text.proofs.Laws.{count_begins, count_again, count_stops, count_ends}
use Rattle.text.proofs.count_until.Goals as goal

pub loop-k-init : goal.loop-k-init
loop-k-init c = (search rules, count_begins _ _ _ _)

pub returns-then-close-column : goal.returns-then-close-column
returns-then-close-column c =
    let width = c.number-column.ensures.0 ∙ c.char_width.ensures.0 in
    (search rules, count_stops _ _ _ _ _ _ _ _ c.loop-k.invariant.1 (search rules) width refl (search rules))

pub loop-k-preserved : goal.loop-k-preserved
loop-k-preserved c =
    let width = c.number-column.ensures.0 ∙ c.char_width.ensures.0 in
    (search rules, count_again _ _ _ _ _ _ _ _ c.loop-k.invariant.1 (search rules) width refl (search rules))

pub returns : goal.returns
returns c =
    let all : c.loop-k.k ≡ length c.args.glyphs.now = omega arith in
    (search rules, rw all at (count_ends _ _ _ _ _ _ c.loop-k-test.false c.loop-k.invariant.1))

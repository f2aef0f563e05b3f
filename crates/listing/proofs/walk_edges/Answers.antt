-- `walk_edges` finds the first edge that touches a row which its listing lacks, or counts all runs. The loop's invariant: the search over the edges left
-- finds what the whole search finds, and the runs so far with those left are all.
use borrow.Author.Rules.{rules}
use Rattle.image.specs.declared.ElementKind.TheVariants as kind
use Rattle.things.proofs.Laws.{counting_whole, counting_again, counting_done}
use Rattle.listing.proofs.Laws.{things_whole, things_hit, things_again, things_done, walked_hit, walked_done}
use Rattle.listing.proofs.walk_edges.Goals as goal

pub loop-k-init : goal.loop-k-init
loop-k-init c = (search rules, things_whole kind.Edge _ _, counting_whole _ _)

pub returns-then-slot_lacks : goal.returns-then-slot_lacks
returns-then-slot_lacks c = walked_hit _ _ _ (search (things_hit kind.Edge, rules))

pub loop-k-preserved : goal.loop-k-preserved
loop-k-preserved c = (
  search rules,
  search (things_again kind.Edge, rules),
  search (counting_again, rules),
)

pub returns : goal.returns
returns c = walked_done _ _ _ (search (things_done kind.Edge, rules)) (search (counting_done, rules))

-- `walk_things` finds the first thing of each kind in turn that touches a row which its listing lacks, or counts all runs.
use borrow.Author.Rules.{rules}
use Rattle.listing.proofs.Laws.{turn_node, turn_edge, turn_subgraph, turn_none}
use Rattle.listing.proofs.walk_things.Goals as goal

pub returns-in-Some : goal.returns-in-Some
returns-in-Some c = search (turn_node, rules)

pub returns-in_err-runs : goal.returns-in_err-runs
returns-in_err-runs c = search (turn_edge, rules)

pub returns-in-Some-unlisted_subgraph : goal.returns-in-Some-unlisted_subgraph
returns-in-Some-unlisted_subgraph c = search (turn_subgraph, rules)

pub returns : goal.returns
returns c = search (turn_none, rules)

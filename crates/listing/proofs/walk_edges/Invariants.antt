-- `walk_edges` finds the first edge that touches a row which its listing lacks, or counts all runs. The loop's invariant: the search over the edges left
-- finds what the whole search finds, and the runs so far with those left are all.
use Prim.Native.Nat.{◌≤◌}
use mathlib.Core.Path.{◌≡◌}
use Rattle.ground.specs.Judged.{first_bad}
use Rattle.image.specs.declared.ElementKind.TheVariants as kind
use Rattle.listing.specs.Listing.{things_judged}
use Rattle.things.proofs.Laws.{Counting}
use Rattle.listing.proofs.Laws.{found_after}
use Rattle.listing.proofs.walk_edges.Given as goal

abbrev pub invariant-loop-k : goal.invariant-loop-k
invariant-loop-k l =
    (l.k ≤ l.ts.edges.count) × (found_after kind.Edge l.image l.ts l.k ≡ first_bad (things_judged kind.Edge l.image l.ts)) × Counting l.image l.ts l.k l.runs

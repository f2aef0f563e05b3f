-- `lay_edges` draws all edges, by index, and keeps their runs. The invariant: so are those passed.
use Prim.Native.Nat.{◌-◌, ◌≤◌}
use mathlib.Core.Path.{◌≡◌}
use lib.ListN.{length}
use Rattle.edge_stage.specs.Laid.{laying, Layable}
use Rattle.edge_stage.proofs.Laws.{LaidTo}
use Rattle.edge_stage.proofs.lay_edges.Given as goal

abbrev pub invariant-loop-k : goal.invariant-loop-k
invariant-loop-k l =
    (l.k ≤ l.count)
    × (length l.cells ≡ length l.initial.cells)
    × (length l.colours ≡ length l.initial.colours)
    × (length l.stamps ≡ length l.initial.stamps)
    × (length l.scratch ≡ length l.initial.scratch)
    × Layable l.lent l.v l.cells l.colours l.stamps l.scratch l.kept
    × LaidTo l.image l.ts l.v l.ranges l.k (laying l.lent l.initial.cells l.initial.colours l.initial.stamps l.initial.scratch 0) (laying l.lent l.cells l.colours l.stamps l.scratch l.kept)

abbrev pub decreases-loop-k : goal.decreases-loop-k
decreases-loop-k l = l.count - l.k

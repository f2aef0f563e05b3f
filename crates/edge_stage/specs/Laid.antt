-- For the proofs alone: what some edges leave of the lent planes, and of the runs that are kept in the scratch.
use Rattle.std.specs.Prelude.{ℕ, ◌≤◌, List, ◌≡◌}
use Rattle.rows.specs.declared.Window.{Window}
use Rattle.window.specs.declared.Lent.{Lent}
use Rattle.window.specs.Writes.{Write}
use Rattle.window.specs.Window.{ink_window, canvas_of, Ready}
use Rattle.runs.specs.declared.Run.{Run}
use Rattle.runs.specs.Kept.{run_room, Kept, runs_within}
use Rattle.draw.specs.Drawn.{Drawing}

abbrev pub laying : Lent → List ℕ → List ℕ → List ℕ → List ℕ → ℕ → Drawing
laying lent cells colours stamps scratch kept =
    record { canvas = canvas_of lent cells colours stamps; scratch = scratch; kept = kept }

-- these writes fall into the window, and of these runs those on its rows are kept
pub record Laid (v : Window) (ranges : List ℕ) (writes : List Write) (runs : List Run) (before after : Drawing) : Type 0 where
  pub inked : after.canvas ≡ ink_window v ranges writes before.canvas
  pub waiting : Kept before.scratch before.kept (runs_within v runs) after.scratch after.kept

-- what laying edges needs: the planes have room, and no more runs are kept than the scratch has room for
pub record Layable (lent : Lent) (v : Window) (cells colours stamps scratch : List ℕ) (kept : ℕ) : Type 0 where
  pub ready : Ready lent v cells colours stamps
  pub room : kept ≤ run_room scratch

-- For the proofs alone: rows one after the other, as the code goes down a column.
use Rattle.std.specs.Prelude.{ℕ, ◌-◌, List}
use Rattle.ground.specs.Turns.{turns}
use Rattle.rows.specs.declared.Window.{Window}
use Rattle.window.specs.Window.{on_row}

-- each row of the sheet from low to below high changed, as far as the window has it
unfoldable pub on_rows : Window → ℕ → ℕ → (ℕ → List ℕ → List ℕ) → List ℕ → List ℕ
on_rows v low high change plane = turns (λ y p. on_row v y (change y) p) low (high - low) plane

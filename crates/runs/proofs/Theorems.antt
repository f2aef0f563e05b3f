-- What holds of a row with the runs that waited: it keeps what every stroke keeps, so its length, and its cells stay packings.
use Prim.Native.Nat.{ℕ}
use mathlib.Core.List.{List}
use mathlib.Core.Path.{◌≡◌, refl, ◌∙◌}
use lib.Dec.{eqb, ltb}
use lib.ListN.{length, length-set}
use borrow.Author.Tests.{eqb-false}
use Rattle.ground.proofs.Each.{by_bool, cond_holds}
use Rattle.ground.proofs.Turns.{turns_keep}
use Rattle.cell.specs.OneCell.{weight_of, horizontal}
use Rattle.canvas.specs.Row.{stroke_row}
use Rattle.canvas.specs.Cells.{AllPacked}
use Rattle.canvas.proofs.Theorems.{stroke_length, stroke_packed_row}
use Rattle.runs.specs.declared.Run.{Run}
use Rattle.runs.specs.Runs.{heaviest, Owner, ink_column, colour_column, flush_cells, flush_colours}

-- What their strokes keep of a row, the runs that waited keep: where no run covers, there is none.
pub flush_keeps :
    (ranges : List ℕ) (P : List ℕ → Type 0) (runs : List Run) (y : ℕ) →
    ((r : List ℕ) (x : ℕ) → (heaviest runs y x ≡ 0 → ⊥) → P r → P (stroke_row r ranges x (horizontal (weight_of (heaviest runs y x))))) →
    (row : List ℕ) → P row → P (flush_cells ranges runs y row)
unfolding flush_cells ink_column
flush_keeps ranges P runs y strokes row p =
    turns_keep _ P
    (λ x r q. by_bool (eqb (heaviest runs y x) 0) (λ e. rw e q) (λ e. rw e (strokes r x (eqb-false _ _ e) q)))
    0 (length row) row p

pub flush_cells_length : (ranges : List ℕ) (runs : List Run) (y : ℕ) (row : List ℕ) → length (flush_cells ranges runs y row) ≡ length row
flush_cells_length ranges runs y row =
    flush_keeps ranges (λ r. length r ≡ length row) runs y (λ r x h e. stroke_length r ranges x _ ∙ e) row refl

colour_length : (owner : Owner) (stamp x : ℕ) (row : List ℕ) → length (colour_column owner stamp x row) ≡ length row
unfolding colour_column
colour_length owner stamp x row =
    cond_holds (λ (r : List ℕ). length r ≡ length row) (ltb stamp owner.number) (length-set row x owner.colour) refl

pub flush_colours_length : (runs : List Run) (y : ℕ) (stamps row : List ℕ) → length (flush_colours runs y stamps row) ≡ length row
unfolding flush_colours
flush_colours_length runs y stamps row =
    turns_keep _ (λ r. length r ≡ length row) (λ x r e. colour_length _ _ x r ∙ e) 0 (length row) row refl

-- Every cell stays a packing.
pub flush_packed : (ranges : List ℕ) (runs : List Run) (y : ℕ) (row : List ℕ) → AllPacked row → AllPacked (flush_cells ranges runs y row)
flush_packed ranges runs y row all = flush_keeps ranges AllPacked runs y (λ r x h p. stroke_packed_row r ranges x _ p) row all

-- For the proofs alone: what the code makes a box of.
use Rattle.std.specs.Prelude.{ℕ, Bool, true, false, List, [], ◌∷◌, None}
use Rattle.cell.specs.declared.Weight.{Weight}
use Rattle.rows.specs.Spots.{Spot, at, stroke}
use Rattle.flow.specs.declared.Line.{Line}
use Rattle.flow.specs.Flow.{corner}

-- a line with no arrow
abbrev pub plain_line : ℕ → ℕ → ℕ → Line
plain_line lane from to = record { lane = lane; from = from; to = to; winner = None; other = None }

-- the two corners on a row, the top one or the bottom one
abbrev pub corner_pair : Weight → ℕ → ℕ → ℕ → Bool → List Spot
corner_pair w left right y down = at left y (stroke (corner w down true)) ∷ at right y (stroke (corner w down false)) ∷ []

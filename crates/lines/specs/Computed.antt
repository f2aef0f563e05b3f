-- For the proofs alone: how the code finds what a line has at a place of it, and goes along a row.
use Rattle.std.specs.Prelude.{ℕ, ◌-◌, Bool, true, false, cond, List, eqb, leb, ltb, Option, None, Some}
use Rattle.ground.specs.Turns.{turns}
use Rattle.cell.specs.declared.Arms.{Arms}
use Rattle.cell.specs.declared.Dir.{Dir}
use Rattle.cell.specs.declared.Dir.TheVariants.{Up}
use Rattle.cell.specs.declared.MarkerKind.TheVariants.{Arrow}
use Rattle.rows.specs.Spots.{Ink, stroke, marker}
use Rattle.flow.specs.declared.Head.{Head}
use Rattle.window.specs.Writes.{ink_on}

-- whether an arrow stands at a place, and where it points

unfoldable pub head_here : Option Head → ℕ → Bool
head_here None k = false
head_here (Some h) k = eqb h.place k

unfoldable pub head_dir : Option Head → Dir
head_dir None = Up
head_dir (Some h) = h.dir

-- whether no arrow stands from low to below high
unfoldable pub free_of : Option Head → ℕ → ℕ → Bool
free_of None low high = true
free_of (Some h) low high = cond (ltb h.place low) true (leb high h.place)

-- what a line with these arrows has at a place: where both want one cell the first stands
unfoldable pub ink_at : Arms → Bool → Option Head → Option Head → ℕ → Ink
ink_at arms dashed winner other k =
    cond (head_here winner k) (marker Arrow (head_dir winner) dashed)
    (cond (head_here other k) (marker Arrow (head_dir other) dashed) (stroke arms))

-- the cells of a line along a row, in the columns from low to below high
unfoldable pub ink_along : List ℕ → Arms → Bool → Option Head → Option Head → ℕ → ℕ → List ℕ → List ℕ
ink_along ranges arms dashed winner other low high row =
    turns (λ x r. ink_on ranges x (ink_at arms dashed winner other x) r) low (high - low) row

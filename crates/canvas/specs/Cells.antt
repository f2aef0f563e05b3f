-- A row whose cells all have a meaning.
use Rattle.std.specs.Prelude.{ℕ, ◌<◌, List, length, get_or}
use Rattle.cell.specs.OneCell.{Packed}

-- every written cell is a packing
abbrev pub AllPacked : List ℕ → Type 0
AllPacked row = (k : ℕ) → k < length row → Packed (get_or row k 0)

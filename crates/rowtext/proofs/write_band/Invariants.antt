-- `write_band` writes row after row. The invariant: what is left to write.
use Prim.Native.Nat.{◌-◌}
use Rattle.ground.specs.Each.{numbers, each}
use Rattle.utf8.proofs.Written.{LeftOf}
use Rattle.rowtext.specs.Coloured.{coloured_row, row_at, band_text}
use Rattle.rowtext.proofs.write_band.Given as goal

abbrev pub invariant-loop-r : goal.invariant-loop-r
invariant-loop-r l =
    LeftOf 0 (band_text l.width l.rows l.cells l.colours) l.initial.out l.at (each (numbers l.r (l.rows - l.r)) (λ k. coloured_row (row_at l.width l.cells k) (row_at l.width l.colours k))) l.out

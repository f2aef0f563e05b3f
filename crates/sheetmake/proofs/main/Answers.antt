-- `main` lends its buffers whole.
use Rattle.std.proofs.Common.{ℕ, sym}
use lib.ListN.{length-replicate}
use Rattle.sheetmake.proofs.main.Goals as goal

pub slice_bounds-make_input-end : goal.slice_bounds-make_input-end
slice_bounds-make_input-end c = sym (length-replicate {A = ℕ} 1048577 0)

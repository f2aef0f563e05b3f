-- For the proofs alone: the runs in the scratch, threaded for some rows. A link is the number of a run and 1, or 0 for none (`lastOn` and `Linked` of runs).
use Rattle.std.specs.Prelude.{ℕ, ◌+◌, ◌-◌, ◌≤◌, ◌<◌, List, ◌≡◌, get_or}
use Rattle.runs.specs.Kept.{run_size, field_at, row_at, link_at, last_on, Linked}

-- how many rows are threaded at a time
abbrev pub block_rows : ℕ
block_rows = 1024

-- what the runs say is as it was: all words of each record but its link
pub record SameRuns (scratch before : List ℕ) : Type 0 where
  pub words : (k f : ℕ) → 0 < f → f < run_size → field_at scratch k f ≡ field_at before k f

-- The first k runs of `before` threaded: the scratch says the same runs, heads has for each row of a block the link to the last of them on it, and each is
-- linked to the one before it on its row.
pub record Threaded (before scratch heads : List ℕ) (base k : ℕ) : Type 0 where
  pub same : SameRuns scratch before
  pub head : (i : ℕ) → i < block_rows → get_or heads i 0 ≡ last_on before (base + i) k
  pub link :
      (j : ℕ) → j < k → base ≤ row_at before j → row_at before j < base + block_rows →
      link_at scratch j ≡ last_on before (row_at before j) j

-- What that gives each of the rows.
pub record AllThreaded (scratch heads : List ℕ) (base n : ℕ) : Type 0 where
  pub head : (y : ℕ) → base ≤ y → y < base + block_rows → get_or heads (y - base) 0 ≡ last_on scratch y n
  pub link : (y : ℕ) → base ≤ y → y < base + block_rows → Linked scratch y n

-- What pieces reach: the rows of a line by its ends, what is no run, and the reach of pieces one after the other.
use Rattle.std.specs.Prelude.{Option, None, Some}
use native.Mathlib.Omega.{arith}
use Prim.Native.Nat.{ℕ, ◌+◌, ◌-◌, ◌≤◌, ◌<◌, min, max}
use mathlib.Core.Path.{◌≡◌, refl, sym, ◌∙◌}
use mathlib.Core.Bool.{Bool, true, false, not, cond}
use mathlib.Core.List.{List, [], ◌∷◌, ◌++◌}
use lib.Dec.{eqb}
use borrow.Author.Tests.{lt-ltb, le-ltb, eq-eqb, ne_eqb}
use Rattle.cell.specs.declared.Arms.{Arms}
use Rattle.cell.specs.declared.Dir.{Dir}
use Rattle.rows.specs.declared.Rows.{Rows}
use Rattle.rows.specs.declared.Window.{Window}
use Rattle.rows.specs.Window.{in_window, join_rows}
use Rattle.rows.specs.Computed.{window_rows}
use Rattle.rows.proofs.Windows.{clipped_none}
use Rattle.rows.proofs.Theorems.{join_assoc, join_none}
use Rattle.flow.specs.declared.Line.{Line}
use Rattle.flow.specs.declared.Piece.{Piece}
use Rattle.flow.specs.declared.Piece.TheVariants.{Nothing, Vertical, Horizontal, Run, Stroke, Mark}
use Rattle.flow.specs.declared.Reach.{Reach}
use Rattle.flow.specs.Pieces.{piece_runs_in}
use Rattle.flow.specs.Reach.{row_if, vertical_rows, horizontal_rows, piece_rows, no_reach, piece_reach, join_reach, with_rows, reach_of}

-- The rows of a line by how far its ends lie apart: none where no cell lies between them, else its own.

module _ (window : Window) (from to : ℕ) where
  pub vertical_short : max from to - min from to < 2 → None ≡ vertical_rows window from to
  unfolding vertical_rows
  vertical_short h = clipped_none window (min from to + 1) (max from to - 1) (omega arith)

  pub vertical_long :
      (low high : ℕ) (r : Option Rows) →
      r ≡ window_rows window (low + 1) (high - 1) →
      low ≡ min from to →
      high ≡ max from to →
      r ≡ vertical_rows window from to
  unfolding vertical_rows
  vertical_long low high r e p q = rw (← p, ← q) e

  pub horizontal_short : (row : ℕ) → max from to - min from to < 2 → None ≡ horizontal_rows window row from to
  unfolding horizontal_rows
  horizontal_short row h = rw (le-ltb (min from to + 1) (max from to) (omega arith))

  pub horizontal_long :
      (row : ℕ) (r : Option Rows) → 2 ≤ max from to - min from to → r ≡ window_rows window row row → r ≡ horizontal_rows window row from to
  unfolding horizontal_rows
  horizontal_long row r h e = rw (lt-ltb (min from to + 1) (max from to) (omega arith)) e

-- A run counts where its row is the window's, and what is no run makes none.

module _ (window : Window) (p : Piece) (row first last : ℕ) (has : Bool) (is : p ≡ Run row first last) (h : has ≡ in_window window row) where
  pub run_counts : has ≡ true → 1 ≡ piece_runs_in window p
  unfolding piece_runs_in
  run_counts t = rw (is, ← h, t)

  pub run_elsewhere : has ≡ false → 0 ≡ piece_runs_in window p
  unfolding piece_runs_in
  run_elsewhere t = rw (is, ← h, t)

pub no_run : (window : Window) (p : Piece) → ((row first last : ℕ) → p ≡ Run row first last → ⊥) → 0 ≡ piece_runs_in window p
unfolding piece_runs_in
no_run window Nothing k = refl
no_run window (Vertical l) k = refl
no_run window (Horizontal l) k = refl
no_run window (Run row first last) k = absurd (k row first last refl)
no_run window (Stroke x y arms) k = refl
no_run window (Mark x y dir) k = refl

-- Rows joined with themselves are the same.
pub join_same : (r : Option Rows) → join_rows r r ≡ r
join_same None = refl
join_same (Some r) =
    let p : min r.first r.first ≡ r.first = omega arith in
    let q : max r.last r.last ≡ r.last = omega arith in
    rw (p, q)

-- Of three together it does not matter which two are joined first; and no reach adds nothing.

pub join_reach_assoc : (a b c : Reach) → join_reach (join_reach a b) c ≡ join_reach a (join_reach b c)
unfolding join_reach
join_reach_assoc a b c =
    let n : a.runs + b.runs + c.runs ≡ a.runs + (b.runs + c.runs) = omega arith in
    rw (join_assoc a.rows b.rows c.rows, n)

pub join_no_reach : (a : Reach) → join_reach a no_reach ≡ a
unfolding join_reach
join_no_reach a = let n : a.runs + 0 ≡ a.runs = omega arith in rw (join_none a.rows, n)

pub no_reach_join : (a : Reach) → join_reach no_reach a ≡ a
unfolding join_reach
no_reach_join a = let n : 0 + a.runs ≡ a.runs = omega arith in rw n

-- The reach of pieces one after the other, onto what is reached already.

abbrev pub reach_onto : Window → Reach → List Piece → Reach
reach_onto window reach [] = reach
reach_onto window reach (p ∷ rest) = reach_onto window (join_reach reach (piece_reach window p)) rest

pub reach_onto_lem : (window : Window) (reach : Reach) (pieces : List Piece) → reach_onto window reach pieces ≡ join_reach reach (reach_of window pieces)
unfolding reach_of
reach_onto_lem window reach [] = sym (join_no_reach reach)
reach_onto_lem window reach (p ∷ rest) =
    reach_onto_lem window (join_reach reach (piece_reach window p)) rest
    ∙ join_reach_assoc reach (piece_reach window p) (reach_of window rest)

-- A piece that is no run adds its rows.
pub with_piece_rows :
    (window : Window) (reach : Reach) (p : Piece) (r : Option Rows) →
    piece_rows window p ≡ r →
    piece_runs_in window p ≡ 0 →
    join_reach reach (piece_reach window p) ≡ with_rows reach r
unfolding piece_reach join_reach with_rows
with_piece_rows window reach p r h n = let m : reach.runs + 0 ≡ reach.runs = omega arith in rw (h, n, m)

-- So do a line, whatever its arrows,

pub with_vertical : (window : Window) (reach : Reach) (l : Line) → join_reach reach (piece_reach window (Vertical l)) ≡ with_rows reach (vertical_rows window l.from l.to)
unfolding piece_rows piece_runs_in
with_vertical window reach l = with_piece_rows window reach (Vertical l) _ refl refl

pub with_horizontal :
    (window : Window) (reach : Reach) (l : Line) →
    join_reach reach (piece_reach window (Horizontal l)) ≡ with_rows reach (horizontal_rows window l.lane l.from l.to)
unfolding piece_rows piece_runs_in
with_horizontal window reach l = with_piece_rows window reach (Horizontal l) _ refl refl

-- a piece that is there only where a test holds, and one that is there only where it does not;

pub with_piece_if :
    (window : Window) (reach : Reach) (test : Bool) (p : Piece) (r : Option Rows) →
    piece_rows window p ≡ r →
    piece_runs_in window p ≡ 0 →
    join_reach reach (piece_reach window (cond test p Nothing)) ≡ with_rows reach (cond test r None)
unfolding piece_rows piece_runs_in
with_piece_if window reach true p r h n = with_piece_rows window reach p r h n
with_piece_if window reach false p r h n = with_piece_rows window reach Nothing None refl refl

pub with_piece_unless :
    (window : Window) (reach : Reach) (test : Bool) (p : Piece) (r : Option Rows) →
    piece_rows window p ≡ r →
    piece_runs_in window p ≡ 0 →
    join_reach reach (piece_reach window (cond test Nothing p)) ≡ with_rows reach (cond (not test) r None)
unfolding piece_rows piece_runs_in
with_piece_unless window reach true p r h n = with_piece_rows window reach Nothing None refl refl
with_piece_unless window reach false p r h n = with_piece_rows window reach p r h n

-- and the corners of a crossing, of which the first may be an arrow: none where its ends are equal.

module _ (window : Window) (reach : Reach) (same : Bool) (x y : ℕ) (arms : Arms) where
  pub with_first_corner :
      (arrow : Bool) (dir : Dir) →
      join_reach reach (piece_reach window (cond same Nothing (cond arrow (Mark x y dir) (Stroke x y arms))))
      ≡ with_rows reach (row_if window (not same) y)
  unfolding piece_rows piece_runs_in
  with_first_corner true dir = with_piece_unless window reach same (Mark x y dir) _ refl refl
  with_first_corner false dir = with_piece_unless window reach same (Stroke x y arms) _ refl refl

  pub with_last_corner :
      join_reach reach (piece_reach window (cond same Nothing (Stroke x y arms))) ≡ with_rows reach (row_if window (not same) y)
  unfolding piece_rows piece_runs_in
  with_last_corner = with_piece_unless window reach same (Stroke x y arms) _ refl refl

-- Rows that are there only where a test holds: with them, and without.

module _ (reach : Reach) (test : Bool) (more : Option Rows) where
  pub with_rows_if : (r : Reach) → r ≡ with_rows reach more → test ≡ true → r ≡ with_rows reach (cond test more None)
  with_rows_if r p t = rw t p

  pub with_rows_unless : test ≡ false → reach ≡ with_rows reach (cond test more None)
  unfolding with_rows
  with_rows_unless t = rw (t, join_none reach.rows)

-- The pieces of a leg, which are chosen by whether two coordinates of it are equal: its own start and its line, or a way that bends.

module _ (window : Window) (reach r : Reach) (a b : ℕ) where
  pub leg_straight :
      (start : Reach) (one two : Piece) (bent : List Piece) (more rest : Option Rows) →
      ((k : Reach) → join_reach k (piece_reach window one) ≡ with_rows k more) →
      ((k : Reach) → join_reach k (piece_reach window two) ≡ with_rows k rest) →
      r ≡ with_rows start rest →
      start ≡ with_rows reach more →
      a ≡ b →
      r ≡ join_reach reach (reach_of window (cond (eqb a b) (one ∷ two ∷ []) bent))
  leg_straight start one two bent more rest f g p q h =
      rw (eq-eqb a b h, ← reach_onto_lem window reach (one ∷ two ∷ []), f reach, g (with_rows reach more), ← q) p

  pub leg_bent :
      (straight bent : List Piece) →
      (a ≡ b → ⊥) →
      r ≡ join_reach reach (reach_of window bent) →
      r ≡ join_reach reach (reach_of window (cond (eqb a b) straight bent))
  leg_bent straight bent h p = rw (ne_eqb a b h) p

pub reach_append : (window : Window) (k l : List Piece) → reach_of window (k ++ l) ≡ join_reach (reach_of window k) (reach_of window l)
unfolding reach_of
reach_append window [] l = sym (no_reach_join (reach_of window l))
reach_append window (p ∷ k) l = rw (reach_append window k l) (sym (join_reach_assoc (piece_reach window p) (reach_of window k) (reach_of window l)))

pub reach_one : (window : Window) (p : Piece) → reach_of window (p ∷ []) ≡ piece_reach window p
unfolding reach_of
reach_one window p = join_no_reach (piece_reach window p)

-- Rows one after the other are joined.
pub with_rows_three :
    (reach : Reach) (a b c : Option Rows) →
    with_rows (with_rows (with_rows reach a) b) c ≡ with_rows reach (join_rows (join_rows a b) c)
unfolding with_rows
with_rows_three reach a b c = rw (join_assoc reach.rows a b, join_assoc reach.rows (join_rows a b) c)

-- The two arrows of an Orthogonal path, by a walk along its legs.
use Rattle.std.specs.Prelude.{Option, Some, None}
use mathlib.Core.Bool.{cond}
use native.Mathlib.Omega.{arith}
use Prim.Native.Nat.{ℕ, zero, suc, ◌+◌, ◌-◌, ◌<◌}
use mathlib.Core.Path.{◌≡◌, refl, ◌∙◌, ap}
use mathlib.Core.List.{List}
use lib.Dec.{eqb, ltb}
use borrow.Author.Tests.{eq-eqb, ne_eqb, lt-ltb, le-ltb, le-leb}
use Rattle.ground.proofs.Order.{by_order, by_three}
use Rattle.image.specs.declared.Edge.{Edge}
use Rattle.image.specs.declared.Point.{Point}
use Rattle.orthogonal.specs.declared.PathLeg.{PathLeg}
use Rattle.orthogonal.specs.declared.Cursor.{Cursor}
use Rattle.orthogonal.specs.declared.EndMark.{EndMark}
use Rattle.orthogonal.specs.declared.EndMarks.{EndMarks}
use Rattle.orthogonal.specs.Points.{stops, leg_count}
use Rattle.orthogonal.specs.Orthogonal.{path_leg, source_mark, target_mark, end_marks}
use Rattle.orthogonal.specs.Walk.{begin_walk, step_of, source_after, target_after}
use Rattle.orthogonal.proofs.Walked.{Stands, walk_begins, walk_goes, walk_ends}

-- an arrow, as the first k legs of the walk leave it

abbrev source_by : Edge → List Point → ℕ → Option EndMark
source_by e path k = cond (eqb k 0) None (source_mark e path)

abbrev target_by : Edge → List Point → ℕ → Option EndMark
target_by e path k = cond (ltb k (leg_count path)) None (target_mark e path)

-- Tests that come to the same.

eqb_swap : (a b : ℕ) → eqb a b ≡ eqb b a
eqb_swap a b =
    by_three a b (λ p. rw (ne_eqb a b (λ q. omega arith), ne_eqb b a (λ q. omega arith)))
    (λ p. rw (ne_eqb a b (λ q. omega arith), ne_eqb b a (λ q. omega arith)))
    (λ p. rw p)

eqb_next : (k : ℕ) → eqb (k + 1) 1 ≡ eqb k 0
eqb_next zero = refl
eqb_next (suc k) = rw (ne_eqb (suc k + 1) 1 (λ q. omega arith), ne_eqb (suc k) 0 (λ q. omega arith))

module _ (e : Edge) (path : List Point) (k : ℕ) where
  -- leg k leaves the source's arrow so, and the target's

  source_turn : k < leg_count path → source_after e (path_leg path k) (source_by e path k) ≡ source_by e path (k + 1)
  unfolding path_leg source_mark
  source_turn h =
      by_order 0 k
      (λ p. rw (ne_eqb k 0 (λ q. omega arith), ne_eqb (k + 1) 0 (λ q. omega arith)))
      (λ p.
      let z : k ≡ 0 = omega arith in
      rw (z, le-leb 1 (leg_count path) (omega arith), eqb_swap 1 (leg_count path)))

  target_turn : k < leg_count path → target_after e (path_leg path k) (target_by e path k) ≡ target_by e path (k + 1)
  unfolding path_leg target_mark
  target_turn h =
      by_order (k + 1) (leg_count path)
      (λ p. rw (ne_eqb (k + 1) (leg_count path) (λ q. omega arith), lt-ltb k _ h, lt-ltb (k + 1) _ p))
      (λ p.
      let z : leg_count path ≡ k + 1 = omega arith in
      let y : k + 1 - 1 ≡ k = omega arith in
      rw (
        z,
        eq-eqb (k + 1) (k + 1) refl,
        le-ltb (k + 1) (k + 1) (omega arith),
        le-leb 1 (k + 1) (omega arith),
        eqb_next k,
        y,
      ))

-- all legs leave the path's arrows

source_done : (e : Edge) (path : List Point) → source_by e path (leg_count path) ≡ source_mark e path
unfolding source_mark
source_done e path =
    by_order 0 (leg_count path) (λ p. rw (ne_eqb (leg_count path) 0 (λ q. omega arith)))
    (λ p. let z : leg_count path ≡ 0 = omega arith in rw z)

target_done : (e : Edge) (path : List Point) → target_by e path (leg_count path) ≡ target_mark e path
target_done e path = rw (le-ltb (leg_count path) (leg_count path) (omega arith))

-- that a cursor stands before a leg, and the arrows are as the legs before it leave them
pub record MarksBy (e : Edge) (points : List ℕ) (c : Cursor) (source target : Option EndMark) : Type 0 where
  pub k : ℕ
  pub stands : Stands e points k c
  pub source_is : source ≡ source_by e (stops e points) k
  pub target_is : target ≡ target_by e (stops e points) k

-- before the first leg there are none
pub marks_begin : (e : Edge) (points : List ℕ) → MarksBy e points (begin_walk e points) None None
unfolding target_mark
marks_begin e points = record {
  k = 0;
  stands = walk_begins e points;
  source_is = refl;
  target_is =
      by_order 0 (leg_count (stops e points)) (λ p. rw (lt-ltb 0 (leg_count (stops e points)) p))
      (λ p. rw (le-ltb 0 (leg_count (stops e points)) p));
}

module _ (e : Edge) (points : List ℕ) (c : Cursor) (source target : Option EndMark) (m : MarksBy e points c source target) where
  -- after the last leg they are the path's
  pub marks_end :
      step_of e points c ≡ None →
      ◌≡◌ {A = EndMarks} (record { source = source; target = target }) (end_marks e (stops e points))
  unfolding end_marks
  marks_end s =
      let n = walk_ends e points m.k c m.stands s in
      let p = m.source_is ∙ ap (source_by e (stops e points)) n ∙ source_done e (stops e points) in
      let q = m.target_is ∙ ap (target_by e (stops e points)) n ∙ target_done e (stops e points) in
      rw (p, q)

  -- a leg has its say
  pub marks_turn :
      (leg : PathLeg) (past : Cursor) →
      step_of e points c ≡ Some (leg, past) →
      MarksBy e points past (source_after e leg source) (target_after e leg target)
  marks_turn leg past s =
      let g = walk_goes e points m.k c m.stands leg past s in
      record {
        k = m.k + 1;
        stands = g.2;
        source_is = rw (g.1, m.source_is) (source_turn e (stops e points) m.k g.0);
        target_is = rw (g.1, m.target_is) (target_turn e (stops e points) m.k g.0);
      }

-- Laws over plain values, which the functions' proofs cite: a corner below 0, edge by edge.
use Prim.Native.Nat.{ℕ}
use mathlib.Core.Bool.{Bool, false}
use mathlib.Core.List.{List}
use mathlib.Core.Path.{◌≡◌, ◌∙◌}
use lib.Dec.{eqb}
use borrow.Author.Tests.{ne_eqb}
use Rattle.ground.proofs.Each.{by_bool}
use Rattle.layout.specs.declared.Tables.{Tables}
use Rattle.layout.specs.Layout.{edge_flags, path_step, paths, path_corner, path_side_channel, path_multi_segment, path_orthogonal, path_spline}
use Rattle.layout.specs.Tables.{bits, field}
use Rattle.image.specs.declared.Edge.{Edge}
use Rattle.image.specs.Records.{path_of, edge_at}
use Rattle.image.specs.Spans.{points_of}
use Rattle.path.specs.Corners.{below_of, corner_below}
use Rattle.corners.specs.Corners.{edge_below}

pub edge_below_lem :
    (image : List ℕ) (ts : Tables) (k : ℕ) (e : Edge) (points : List ℕ) (below : Bool) →
    e ≡ edge_at image ts.edges k → points ≡ points_of image ts.points e.path → below ≡ corner_below e points → below ≡ edge_below image ts k
edge_below_lem image ts k e points below p q s = s ∙ rw (q, p)

-- An edge that is no MultiSegment has no such corner.

no_legs : (number a b c : ℕ) (e : Edge) (points : List ℕ) → (number ≡ path_multi_segment → ⊥) → false ≡ below_of (path_of number a b c) e points
unfolding path_of below_of
no_legs number a b c e points h =
    by_bool (eqb number path_corner) (λ t. rw t)
    (λ t. by_bool (eqb number path_side_channel) (λ u. rw (t, u))
    (λ u. by_bool (eqb number path_orthogonal) (λ v. rw (t, u, ne_eqb _ _ h, v))
    (λ v. by_bool (eqb number path_spline) (λ w. rw (t, u, ne_eqb _ _ h, v, w)) (λ w. rw (t, u, ne_eqb _ _ h, v, w)))))

pub legless_below :
    (image : List ℕ) (ts : Tables) (k flags number : ℕ) →
    flags ≡ field image ts.edges k edge_flags → number ≡ bits flags path_step paths → (number ≡ path_multi_segment → ⊥) →
    false ≡ edge_below image ts k
unfolding edge_at
legless_below image ts k flags number f n h = no_legs (bits (field image ts.edges k edge_flags) path_step paths) _ _ _ _ _ (rw (← f, ← n) h)

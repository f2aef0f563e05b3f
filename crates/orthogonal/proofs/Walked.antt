-- The walk along an Orthogonal path: its cursor hands back the legs between the path's stops, in order, and then ends.
use Rattle.std.specs.Prelude.{Option, Some, None, is_some, is_none}
use native.Mathlib.Omega.{arith}
use native.Mathlib.Numerals.{add-one}
use Prim.Native.Nat.{ℕ, zero, suc, ◌+◌, ◌-◌, ◌≤◌, ◌<◌}
use mathlib.Core.Path.{◌≡◌, refl, sym, ◌∙◌, ap}
use mathlib.Core.Bool.{Bool, true, false, not}
use mathlib.Core.List.{List, [], ◌∷◌}
use lib.Dec.{eqb}
use lib.ListN.{length, drop, length-drop}
use lib.Seq.{get_or-drop, drop-drop}
use borrow.Author.Tests.{eq-eqb, ne_eqb}
use Rattle.ground.specs.Each.{numbers}
use Rattle.ground.proofs.Each.{by_bool}
use Rattle.image.specs.declared.Edge.{Edge}
use Rattle.image.specs.declared.Point.{Point}
use Rattle.orthogonal.specs.declared.Stop.{Stop}
use Rattle.orthogonal.specs.declared.PathLeg.{PathLeg}
use Rattle.orthogonal.specs.declared.Cursor.{Cursor}
use Rattle.image.specs.Spans.{point_count}
use Rattle.orthogonal.specs.Points.{source, path_point, path_points, same_point, stops_after, stops, stop_at, leg_count}
use Rattle.orthogonal.specs.Orthogonal.{path_leg}
use Rattle.orthogonal.specs.Walk.{points_left, stop_from, next_stop, begin_walk, step_of, cursor_past, cursor_at}
use Rattle.orthogonal.specs.Walk.{stops_ahead, legs_left}

-- by cases on a stop
by_stop : {P : Type 0} (s : Option Stop) → (s ≡ None → P) → ((b : Point) (j : ℕ) → s ≡ Some (record { point = b; next = j }) → P) → P
by_stop None f g = f refl
by_stop (Some s) f g = g s.point s.next refl

-- A turn of the search from point k for the next stop, at point i: no point is left, this point repeats the stop, and it does not.

module _ (e : Edge) (points : List ℕ) (a : Point) (k i : ℕ) (inv : next_stop e points a i ≡ next_stop e points a k) where
  pub no_stop : point_count points + 2 ≤ i → None ≡ next_stop e points a k
  unfolding next_stop stop_from
  no_stop h = let n : points_left points i ≡ 0 = omega arith in rw n at inv

  turn : i < point_count points + 2 → stop_from e points a i (suc (points_left points (suc i))) ≡ next_stop e points a k
  unfolding next_stop
  turn h = ap (stop_from e points a i) (omega arith) ∙ inv

  module _ (h : i < point_count points + 2) (p : Point) (q : p ≡ path_point e points i) where
    pub stop_repeated : same_point a p ≡ true → next_stop e points a (i + 1) ≡ next_stop e points a k
    unfolding next_stop stop_from
    stop_repeated t = rw add-one (rw (← q, t) at (turn h))

    pub stop_found : same_point a p ≡ false → (Some (record { point = p; next = i + 1 })) ≡ next_stop e points a k
    unfolding stop_from
    stop_found t = rw add-one (rw (← q, t) at (turn h))

-- the last leg is the one behind which no stop lies
none_when : (s : Option Stop) (last : Bool) → is_some s ≡ not last → last ≡ is_none s
none_when None true h = refl
none_when None false h = h
none_when (Some s) true h = h
none_when (Some s) false h = refl

-- A step to the stop ahead.
pub stepped :
    (e : Edge) (points : List ℕ) (c : Cursor) (to : Point) (k : ℕ) (after : Option Stop) (last : Bool) →
    after ≡ next_stop e points to k →
    c.ahead ≡ Some (record { point = to; next = k }) →
    is_some after ≡ not last →
    Some (
      record { before = c.before; from = c.stop; to = to; first = c.first; last = last },
      record { before = c.stop; stop = to; ahead = after; first = false },
    )
    ≡ step_of e points c
unfolding step_of
stepped e points c to k after last n h l = rw (h, none_when after last l, n)

-- The stops ahead, by the search and by the definition.

stops_from :
    (e : Edge) (points : List ℕ) (left : ℕ) (a : Point) (k : ℕ) →
    left ≡ points_left points k →
    stops_ahead e points (stop_from e points a k left) ≡ stops_after a (path_points e points k left)
unfolding stop_from stops_after numbers
stops_from e points zero a k h = refl
stops_from e points (suc left) a k h =
    let rest : left ≡ points_left points (suc k) = omega arith in
    by_bool (same_point a (path_point e points k))
    (λ s. rw s (stops_from e points left a (suc k) rest))
    (λ s. rw (s, ← rest))

-- the next stop, and those after it, are the stops that the definition gives
pub stops_of_next :
    (e : Edge) (points : List ℕ) (a : Point) (k : ℕ) →
    stops_ahead e points (next_stop e points a k) ≡ stops_after a (path_points e points k (points_left points k))
unfolding next_stop
stops_of_next e points a k = stops_from e points (points_left points k) a k refl

-- where no stop is next, none is left
pub none_next :
    (e : Edge) (points : List ℕ) (a : Point) (k : ℕ) →
    next_stop e points a k ≡ None →
    stops_after a (path_points e points k (points_left points k)) ≡ []
none_next e points a k h = rw h at (sym (stops_of_next e points a k))

-- where a stop is next, the stops are that one and those after it
pub some_next :
    (e : Edge) (points : List ℕ) (a : Point) (k : ℕ) (p : Point) (j : ℕ) →
    next_stop e points a k ≡ Some (record { point = p; next = j }) →
    stops_after a (path_points e points k (points_left points k)) ≡ p ∷ stops_after p (path_points e points j (points_left points j))
some_next e points a k p j h = rw h at (sym (stops_of_next e points a k))

from_within :
    (e : Edge) (points : List ℕ) (left : ℕ) (a : Point) (k : ℕ) (p : Point) (j : ℕ) →
    stop_from e points a k left ≡ Some (record { point = p; next = j }) →
    (k < j) × (j ≤ k + left)
unfolding stop_from
from_within e points zero a k p j h = let z : ◌≡◌ {A = ℕ} 0 1 = cc in absurd (omega arith)
from_within e points (suc left) a k p j h =
    by_bool (same_point a (path_point e points k))
    (λ s. let m = from_within e points left a (suc k) p j (rw s at h) in (omega arith, omega arith))
    (λ s. let m : (Some (record { point = path_point e points k; next = suc k })) ≡ Some (record { point = p; next = j }) = rw s at h in
    let r : ◌≡◌ {A = Stop} (record { point = path_point e points k; next = suc k }) (record { point = p; next = j }) = cc in
    let n : suc k ≡ j = ap (λ (q : Stop). q.next) r in
    (omega arith, omega arith))

-- the search goes on past the stop that it found, and not past the path's points
pub next_within :
    (e : Edge) (points : List ℕ) (a : Point) (k : ℕ) (p : Point) (j : ℕ) →
    k ≤ point_count points + 2 →
    next_stop e points a k ≡ Some (record { point = p; next = j }) →
    (k < j) × (j ≤ point_count points + 2)
unfolding next_stop
next_within e points a k p j b h =
    let m = from_within e points (points_left points k) a k p j h in
    (m.0, omega arith)

-- A part of a path that starts at stop k: that stop, the rest, and how many there are.

module _ (path : List Point) (k : ℕ) (a : Point) (r : List Point) (h : drop k path ≡ a ∷ r) where
  pub part_head : stop_at path k ≡ a
  part_head =
      let z : k + 0 ≡ k = omega arith in
      sym (rw (h, z) at (get_or-drop k path 0 (record { x = 0; y = 0 })))

  pub part_tail : drop (k + 1) path ≡ r
  part_tail = sym (rw h at (drop-drop 1 k path))

  part_count : k + length r ≡ leg_count path
  part_count = let n : suc (length r) ≡ length path - k = rw h at (length-drop k path) in omega arith

-- that a cursor stands at stop k of the path, before leg k
pub record Stands (e : Edge) (points : List ℕ) (k : ℕ) (c : Cursor) : Type 0 where
  pub rest : drop k (stops e points) ≡ c.stop ∷ stops_ahead e points c.ahead
  pub before : c.before ≡ stop_at (stops e points) (k - 1)
  pub first : c.first ≡ eqb k 0

-- at the start it stands at the source
pub walk_begins : (e : Edge) (points : List ℕ) → Stands e points 0 (begin_walk e points)
unfolding stops begin_walk
walk_begins e points =
    let n : point_count points + 1 ≡ points_left points 1 = omega arith in
    record { rest = rw (stops_of_next e points (source e) 1, n); before = refl; first = refl }

-- the leg that ends at the last stop is the last
last_leg : (e : Edge) (points : List ℕ) (s : Option Stop) (k n : ℕ) → k + length (stops_ahead e points s) ≡ n → is_none s ≡ eqb k n
last_leg e points None k n h = sym (eq-eqb k n (omega arith))
last_leg e points (Some s) k n h = sym (ne_eqb k n (λ q. omega arith))

module _ (e : Edge) (points : List ℕ) (k : ℕ) (c : Cursor) (w : Stands e points k c) where
  -- the stop that it stands at
  pub stands_at : c.stop ≡ stop_at (stops e points) k
  stands_at = sym (part_head _ k _ _ w.rest)

  -- the legs before it and those left are the legs of the path
  pub legs_left_lem : k + legs_left e points c ≡ leg_count (stops e points)
  legs_left_lem = part_count _ k _ _ w.rest

  module _ (b : Point) (j : ℕ) (h : c.ahead ≡ Some (record { point = b; next = j })) where
    abbrev next : Cursor
    next = record { before = c.stop; stop = b; ahead = next_stop e points b j; first = false }

    next_rest : drop (k + 1) (stops e points) ≡ b ∷ stops_ahead e points (next_stop e points b j)
    next_rest = rw (stops_of_next e points b j) (rw h at (part_tail _ k _ _ w.rest))

    next_stands : Stands e points (k + 1) next
    next_stands =
        let z : k + 1 - 1 ≡ k = omega arith in
        record { rest = next_rest; before = rw (z, stands_at); first = sym (ne_eqb (k + 1) 0 (λ q. omega arith)) }

    next_last : is_none (next_stop e points b j) ≡ eqb (k + 1) (leg_count (stops e points))
    next_last = last_leg e points (next_stop e points b j) (k + 1) _ (part_count _ (k + 1) _ _ next_rest)

    next_leg : step_of e points c ≡ Some (path_leg (stops e points) k, next)
    unfolding step_of path_leg
    next_leg = rw (h, next_last, part_head _ (k + 1) _ _ next_rest, ← stands_at, ← w.before, ← w.first)

  -- at the last stop there is no step
  none_ahead : c.ahead ≡ None → (k ≡ leg_count (stops e points)) × (step_of e points c ≡ None)
  unfolding step_of
  none_ahead h = let n = rw h at legs_left_lem in (omega arith, rw h)

  -- a step hands back leg k, and a cursor that stands at the next stop
  pub walk_goes :
      (leg : PathLeg) (past : Cursor) →
      step_of e points c ≡ Some (leg, past) →
      (k < leg_count (stops e points)) × (leg ≡ path_leg (stops e points) k) × Stands e points (k + 1) past
  walk_goes leg past s =
      by_stop c.ahead
      (λ h. let d = (none_ahead h).1 in let z : ◌≡◌ {A = ℕ} 0 1 = cc in absurd (omega arith))
      (λ b j h.
      let g = next_leg b j h in
      let q : ◌≡◌ {A = PathLeg × Cursor} (leg, past) (path_leg (stops e points) k, next b j h) = cc in
      let m : leg ≡ path_leg (stops e points) k = ap (λ (x : PathLeg × Cursor). x.0) q in
      let n : past ≡ next b j h = ap (λ (x : PathLeg × Cursor). x.1) q in
      let t = rw h at legs_left_lem in
      (omega arith, m, rw n (next_stands b j h)))

  -- and fewer legs are left
  pub walk_shortens :
      (leg : PathLeg) (past : Cursor) →
      step_of e points c ≡ Some (leg, past) →
      legs_left e points past < legs_left e points c
  walk_shortens leg past s =
      let n = legs_left_lem in
      let m = part_count _ (k + 1) _ _ (walk_goes leg past s).2.rest in
      omega arith

  -- there is no step only at the last stop
  pub walk_ends : step_of e points c ≡ None → k ≡ leg_count (stops e points)
  walk_ends s =
      by_stop c.ahead (λ h. (none_ahead h).0)
      (λ b j h. let g = next_leg b j h in let z : ◌≡◌ {A = ℕ} 0 1 = cc in absurd (omega arith))

  -- before the last stop there is a step
  walk_steps :
      k < leg_count (stops e points) →
      (step_of e points c ≡ Some (path_leg (stops e points) k, cursor_past (step_of e points c) c))
      × Stands e points (k + 1) (cursor_past (step_of e points c) c)
  walk_steps l =
      by_stop c.ahead (λ h. let d = (none_ahead h).0 in absurd (omega arith))
      (λ b j h. rw (next_leg b j h) (refl, next_stands b j h))

-- the cursor past k legs stands at stop k
pub walk_stands : (e : Edge) (points : List ℕ) (k : ℕ) → k ≤ leg_count (stops e points) → Stands e points k (cursor_at e points k)
unfolding cursor_at
walk_stands e points zero h = walk_begins e points
walk_stands e points (suc k) h =
    let w = walk_stands e points k (omega arith) in
    rw add-one at (walk_steps e points k (cursor_at e points k) w (omega arith)).1

-- where the cursor past k legs stands, from which stop it came, and whether it is at the start
pub cursor_of_walk :
    (e : Edge) (points : List ℕ) (k : ℕ) →
    k ≤ leg_count (stops e points) →
    ((cursor_at e points k).stop ≡ stop_at (stops e points) k)
    × ((cursor_at e points k).before ≡ stop_at (stops e points) (k - 1))
    × ((cursor_at e points k).first ≡ eqb k 0)
cursor_of_walk e points k h =
    let w = walk_stands e points k h in
    (stands_at e points k (cursor_at e points k) w, w.before, w.first)

-- what the walk hands back, one by one, is the legs between the path's stops
pub leg_of_walk :
    (e : Edge) (points : List ℕ) (k : ℕ) →
    k < leg_count (stops e points) →
    step_of e points (cursor_at e points k) ≡ Some (path_leg (stops e points) k, cursor_at e points (k + 1))
unfolding cursor_at
leg_of_walk e points k h =
    let w = walk_stands e points k (omega arith) in
    rw add-one (walk_steps e points k (cursor_at e points k) w h).0

-- and after the last leg it ends
pub end_of_walk :
    (e : Edge) (points : List ℕ) →
    step_of e points (cursor_at e points (leg_count (stops e points))) ≡ None
end_of_walk e points =
    let n = leg_count (stops e points) in
    let w = walk_stands e points n (omega arith) in
    let c = cursor_at e points n in
    by_stop c.ahead (λ h. (none_ahead e points n c w h).1)
    (λ b j h. let t = rw h at (legs_left_lem e points n c w) in absurd (omega arith))

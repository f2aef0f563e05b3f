-- The legs of a MultiSegment one by one: the leg at hand is leg k, what it reaches with the legs after it, and whether one of them has a corner below 0.
use native.Mathlib.Omega.{arith}
use Prim.Native.Nat.{ℕ, ◌+◌, ◌-◌, ◌≤◌, ◌<◌}
use mathlib.Core.Path.{◌≡◌, refl, sym, ◌∙◌, ap}
use mathlib.Core.Bool.{Bool, true, false, ◌||◌}
use mathlib.Core.List.{List}
use lib.Dec.{eqb}
use borrow.Author.Tests.{eq-eqb, ne_eqb}
use Rattle.ground.specs.Each.{numbers, each, some}
use Rattle.ground.proofs.Each.{each_step, each_done, numbers_step, numbers_done, numbers_whole}
use Rattle.image.specs.declared.Edge.{Edge}
use Rattle.image.specs.declared.Point.{Point}
use Rattle.rows.specs.declared.Window.{Window}
use Rattle.flow.specs.declared.Leg.{Leg}
use Rattle.flow.specs.declared.Piece.{Piece}
use Rattle.flow.specs.declared.Reach.{Reach}
use Rattle.flow.specs.Reach.{no_reach, join_reach, reach_of}
use Rattle.flow.proofs.Reached.{join_reach_assoc, join_no_reach, no_reach_join, reach_append}
use Rattle.image.specs.Spans.{point_count, point_at}
use Rattle.orthogonal.specs.Points.{source, target, path_point}
use Rattle.orthogonal.proofs.Laws.{path_source, between_point, last_point}
use Rattle.path.specs.Pieces.{leg_on, leg_between, leg_at, multi_pieces}
use Rattle.path.specs.Corners.{leg_below, multi_below}

-- The leg from point k of the path to the next, as the code makes it: before the last, and the last.

module _ (e : Edge) (points : List ℕ) (a : Point) (k : ℕ) (p : a ≡ path_point e points k) where
  pub leg_before : k < point_count points → leg_between a (point_at points k) (eqb k 0) false ≡ leg_at e points k
  unfolding leg_at
  leg_before h = rw (p, between_point e points k h, ne_eqb k (point_count points) (λ q. omega arith))

  pub leg_last : k ≡ point_count points → leg_between a (target e) (eqb k 0) true ≡ leg_at e points k
  unfolding leg_at
  leg_last h = rw (p, ap (λ (n : ℕ). path_point e points (n + 1)) h, last_point e points, eq-eqb _ _ h)

module _ (window : Window) (e : Edge) (offset : ℕ) (points : List ℕ) where
  abbrev leg_pieces : ℕ → List Piece
  leg_pieces k = leg_on e.flow_axis e offset (leg_at e points k)

  -- the legs from k on
  abbrev legs_from : ℕ → List Piece
  legs_from k = each (numbers k (point_count points + 1 - k)) leg_pieces

  -- Before leg k, at point k of the path: what is reached, with the legs from k on, is all.
  pub record ReachedTo (reach : Reach) (a : Point) (k : ℕ) : Type 0 where
    pub within : k ≤ point_count points
    pub here : a ≡ path_point e points k
    pub few : reach.runs ≤ k
    pub all : join_reach reach (reach_of window (legs_from k)) ≡ reach_of window (multi_pieces e offset points)

  pub reach_begins : ReachedTo no_reach (source e) 0
  unfolding multi_pieces
  reach_begins = record {
    within = omega arith;
    here = path_source e points 0 refl;
    few = omega arith;
    all = rw (numbers_whole (point_count points + 1)) (no_reach_join _);
  }

  module _ (reach : Reach) (a : Point) (k : ℕ) (m : ReachedTo reach a k) (next : Reach) (leg : Leg) (r : next ≡ join_reach reach (reach_of window (leg_on e.flow_axis e offset leg))) where
    -- leg k more
    one_leg : leg ≡ leg_at e points k → join_reach next (reach_of window (legs_from (k + 1))) ≡ reach_of window (multi_pieces e offset points)
    one_leg q =
        let w = m.within in
        let split = ap (reach_of window) (each_step leg_pieces k (point_count points + 1) (omega arith)) ∙ reach_append window (leg_pieces k) (legs_from (k + 1)) in
        rw (r, q) (join_reach_assoc reach (reach_of window (leg_pieces k)) (reach_of window (legs_from (k + 1))) ∙ ap (join_reach reach) (sym split) ∙ m.all)

    pub reach_turns :
        (b : Point) →
        k < point_count points →
        b ≡ point_at points k →
        leg ≡ leg_between a b (eqb k 0) false →
        next.runs ≤ reach.runs + 1 →
        ReachedTo next b (k + 1)
    reach_turns b h p q n =
        let f = m.few in
        record {
          within = omega arith;
          here = p ∙ sym (between_point e points k h);
          few = omega arith;
          all = one_leg (q ∙ rw p (leg_before e points a k m.here h));
        }

    pub reach_ends :
        (b : Point) →
        point_count points ≤ k →
        b ≡ target e →
        leg ≡ leg_between a b (eqb k 0) true →
        next ≡ reach_of window (multi_pieces e offset points)
    unfolding reach_of
    reach_ends b h p q =
        let w = m.within in
        let z : k ≡ point_count points = omega arith in
        let last = one_leg (q ∙ rw p (leg_last e points a k m.here z)) in
        sym (join_no_reach next)
        ∙ ap (λ (l : List Piece). join_reach next (reach_of window l)) (sym (each_done leg_pieces (k + 1) (point_count points + 1) (omega arith)))
        ∙ last

module _ (e : Edge) (offset : ℕ) (points : List ℕ) where
  abbrev below_at : ℕ → Bool
  below_at k = leg_below e.flow_axis e offset (leg_at e points k)

  abbrev below_from : ℕ → Bool
  below_from k = some (numbers k (point_count points + 1 - k)) below_at

  -- Before leg k, at point k of the path: what is found of the legs from k on is what is found of all.
  pub record LookedTo (a : Point) (k : ℕ) : Type 0 where
    pub within : k ≤ point_count points
    pub here : a ≡ path_point e points k
    pub all : below_from k ≡ multi_below e offset points

  pub look_begins : LookedTo (source e) 0
  unfolding multi_below
  look_begins = record {
    within = omega arith;
    here = path_source e points 0 refl;
    all = rw (numbers_whole (point_count points + 1));
  }

  module _ (a : Point) (k : ℕ) (m : LookedTo a k) (b : Point) (leg : Leg) (r : Bool) (t : r ≡ leg_below e.flow_axis e offset leg) where
    one_look : leg ≡ leg_at e points k → r || below_from (k + 1) ≡ multi_below e offset points
    unfolding some
    one_look q =
        let w = m.within in
        rw (t, q) (ap (λ (l : List ℕ). some l below_at) (sym (numbers_step k (point_count points + 1) (omega arith))) ∙ m.all)

    module _ (h : k < point_count points) (p : b ≡ point_at points k) (q : leg ≡ leg_between a b (eqb k 0) false) where
      leg_here : leg ≡ leg_at e points k
      leg_here = q ∙ rw p (leg_before e points a k m.here h)

      pub look_finds : r ≡ true → true ≡ multi_below e offset points
      look_finds f = rw f at (one_look leg_here)

      pub look_turns : r ≡ false → LookedTo b (k + 1)
      look_turns f = record {
        within = omega arith;
        here = p ∙ sym (between_point e points k h);
        all = rw f at (one_look leg_here);
      }

    pub look_ends : point_count points ≤ k → b ≡ target e → leg ≡ leg_between a b (eqb k 0) true → r ≡ multi_below e offset points
    unfolding some
    look_ends h p q =
        let w = m.within in
        let z : k ≡ point_count points = omega arith in
        let last = one_look (q ∙ rw p (leg_last e points a k m.here z)) in
        or_none r ∙ rw (numbers_done (k + 1) (point_count points + 1) (omega arith)) at last
      where
        or_none : (x : Bool) → x ≡ x || false
        or_none true = refl
        or_none false = refl

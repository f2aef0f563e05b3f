-- What the code makes of its parts, over plain values: the arms of a corner, the arrows on a line, and the bend of an edge or of a leg.
use Rattle.std.specs.Prelude.{Option}
use Prim.Native.Nat.{ℕ}
use mathlib.Core.Path.{◌≡◌}
use mathlib.Core.Bool.{Bool, true, false, not, ◌&&◌}
use lib.Dec.{ltb}
use Rattle.cell.specs.declared.Weight.{Weight}
use Rattle.cell.specs.declared.Dir.{Dir}
use Rattle.image.specs.declared.Edge.{Edge}
use Rattle.flow.specs.declared.Head.{Head}
use Rattle.flow.specs.declared.Line.{Line}
use Rattle.flow.specs.declared.Leg.{Leg}
use Rattle.flow.specs.Flow.{along, source_marker, target_marker, head_at, start_head, end_head, line_of, arm_if, corner, corner_bend, leg_bend}

pub corner_made :
    (w : Weight) (down right : Bool) (u d l r : Weight) →
    u ≡ arm_if (not down) w →
    d ≡ arm_if down w →
    l ≡ arm_if (not right) w →
    r ≡ arm_if right w →
    record { up = u; down = d; left = l; right = r } ≡ corner w down right
corner_made w down right u d l r p q s t = rw (p, q, s, t)

-- The arrows one cell from the start and one cell before the end.

module _ (wanted s : Bool) (place : ℕ) (dir : Dir) (at : Option ℕ) (r : Option Head) (h : r ≡ head_at wanted at dir) where
  pub start_made : at ≡ along s place 1 → r ≡ start_head wanted s place dir
  unfolding start_head
  start_made p = rw (← p) h

  pub end_made : at ≡ along (not s) place 1 → r ≡ end_head wanted s place dir
  unfolding end_head
  end_made p = rw (← p) h

-- The bends.

pub corner_bend_made :
    (e : Edge) (place bend x1 y1 x2 y2 : ℕ) (starts ends : Bool) →
    starts ≡ source_marker e →
    ends ≡ target_marker e →
    bend ≡ place →
    x1 ≡ e.from_x →
    y1 ≡ e.from_y →
    x2 ≡ e.to_x →
    y2 ≡ e.to_y →
    record {
      has_trunk = true;
      strokes_start = false;
      start_arrow = starts;
      end_arrow = ends;
      bend = bend;
      x1 = x1;
      y1 = y1;
      x2 = x2;
      y2 = y2;
    }
    ≡ corner_bend e place
unfolding corner_bend
corner_bend_made e place bend x1 y1 x2 y2 starts ends p q n a b c d = rw (p, q, n, a, b, c, d)

pub leg_bend_made :
    (e : Edge) (offset : ℕ) (leg : Leg) (bend : ℕ) (source target has_trunk starts ends : Bool) →
    has_trunk ≡ leg.first && ltb 0 offset →
    starts ≡ leg.first && source →
    source ≡ source_marker e →
    ends ≡ leg.last && target →
    target ≡ target_marker e →
    record {
      has_trunk = has_trunk;
      strokes_start = not leg.first;
      start_arrow = starts;
      end_arrow = ends;
      bend = bend;
      x1 = leg.x1;
      y1 = leg.y1;
      x2 = leg.x2;
      y2 = leg.y2;
    }
    ≡ leg_bend e offset leg bend
unfolding leg_bend
leg_bend_made e offset leg bend source target has_trunk starts ends t p s q u = rw (t, p, s, q, u)

-- Parts that are the same make the same arrows and the same line. `way` is a direction by the flow's sign.

module _ (way : Bool → Dir) (wanted wanted' s s' : Bool) (place place' : ℕ) (r : Option Head) where
  pub start_same :
      r ≡ start_head wanted s place (way s) →
      wanted ≡ wanted' →
      s ≡ s' →
      place ≡ place' →
      r ≡ start_head wanted' s' place' (way s')
  start_same h w t p = rw (← w, ← t, ← p) h

  pub end_same :
      r ≡ end_head wanted s place (way s) →
      wanted ≡ wanted' →
      s ≡ s' →
      place ≡ place' →
      r ≡ end_head wanted' s' place' (way s')
  end_same h w t p = rw (← w, ← t, ← p) h

pub line_same :
    (lane lane' from from' to to' : ℕ) (winner winner' other other' : Option Head) (r : Line) →
    r ≡ line_of lane from to winner other →
    lane ≡ lane' →
    from ≡ from' →
    to ≡ to' →
    winner ≡ winner' →
    other ≡ other' →
    r ≡ line_of lane' from' to' winner' other'
line_same lane lane' from from' to to' winner winner' other other' r h l f t w o = rw (← l, ← f, ← t, ← w, ← o) h

pub and_same : (a b b' r : Bool) → r ≡ a && b → b ≡ b' → r ≡ a && b'
and_same a b b' r h e = rw (← e) h

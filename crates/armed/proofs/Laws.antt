-- A stroke that has an arm leaves no stroke without arms in a cell.
use native.Mathlib.Omega.{arith}
use Prim.Native.Nat.{ℕ, ◌/◌, ◌%◌, ◌<◌, max}
use mathlib.Core.Bool.{Bool, true, false}
use mathlib.Core.Path.{◌≡◌, refl, ap}
use lib.Dec.{eqb}
use Rattle.ground.proofs.Each.{cond_holds}
use Rattle.cell.specs.declared.Weight.{Weight}
use Rattle.cell.specs.declared.Weight.TheVariants as weight
use Rattle.cell.specs.declared.Arms.{Arms}
use Rattle.cell.specs.declared.MarkerKind.{MarkerKind}
use Rattle.cell.specs.declared.MarkerKind.TheVariants.{Arrow, SelfLoop, Dummy}
use Rattle.cell.specs.declared.Dir.{Dir}
use Rattle.cell.specs.declared.Dir.TheVariants.{Up, Down, Left, Right}
use Rattle.cell.specs.declared.Parts.{Parts}
use Rattle.cell.specs.declared.Parts.TheVariants.{Empty, Text, Continuation, Stroke, Marker}
use Rattle.cell.specs.OneCell.{weight_number, pack, read_text, read, Valid, heavier_arms, has_double, stem, double_on_marker, stroked, marked}
use Rattle.cell.specs.OneCell.{painted_stroke, painted_marker}
use Rattle.cell.proofs.Theorems.{read_pack}
use Rattle.canvas.proofs.Kept.{KeptByCell}
use Rattle.canvas.proofs.PackedStroke.{heavier_number}
use Rattle.flow.specs.Flow.{corner}
use Rattle.orthogonal.specs.Orthogonal.{toward, only_arm, bend_arms}
use Rattle.picture.proofs.Strokes.{MadeOf, along_row, along_column, at_corner, at_bend}
use Rattle.shapes.specs.Shapes.{arms_number}
use Rattle.armed.specs.Armed.{Armless}

-- A stroke without arms is the one at place 0 of the table of characters.

no_weight : (w : Weight) → weight_number w ≡ 0 → w ≡ weight.None
no_weight weight.None e = refl
no_weight weight.Dashed e = absurd (omega arith)
no_weight weight.Light e = absurd (omega arith)
no_weight weight.Double e = absurd (omega arith)

pub armless_number : (arms : Arms) → Armless arms → arms_number arms ≡ 0
armless_number arms a =
    omega (arith, ap weight_number a.up, ap weight_number a.down, ap weight_number a.left, ap weight_number a.right)

pub number_armless : (arms : Arms) → arms_number arms ≡ 0 → Armless arms
number_armless arms e = record {
  up = no_weight arms.up (omega arith);
  down = no_weight arms.down (omega arith);
  left = no_weight arms.left (omega arith);
  right = no_weight arms.right (omega arith);
}

-- a stroke with an arm
abbrev pub HasArm : Arms → Type 0
HasArm arms = 0 < arms_number arms

-- Of two strokes that are laid on each other it is enough that one has an arm.
module _ (old new : Arms) where
  numbers_of :
      (weight_number (heavier_arms old new).up ≡ max (weight_number old.up) (weight_number new.up))
      × (weight_number (heavier_arms old new).down ≡ max (weight_number old.down) (weight_number new.down))
      × (weight_number (heavier_arms old new).left ≡ max (weight_number old.left) (weight_number new.left))
      × (weight_number (heavier_arms old new).right ≡ max (weight_number old.right) (weight_number new.right))
  unfolding heavier_arms
  numbers_of = (
    heavier_number old.up new.up,
    heavier_number old.down new.down,
    heavier_number old.left new.left,
    heavier_number old.right new.right,
  )

  old_arm : HasArm old → HasArm (heavier_arms old new)
  old_arm h = omega (arith, numbers_of)

  new_arm : HasArm new → HasArm (heavier_arms old new)
  new_arm h = omega (arith, numbers_of)

-- What is made of a weight that is not 0 has an arm.

corner_arm : (w : Weight) (down right : Bool) → 0 < weight_number w → HasArm (corner w down right)
corner_arm w true right h = omega arith
corner_arm w false right h = omega arith

only_arm_lem : (w : Weight) (d : Dir) → 0 < weight_number w → HasArm (only_arm w d)
only_arm_lem w Up h = omega arith
only_arm_lem w Down h = omega arith
only_arm_lem w Left h = omega arith
only_arm_lem w Right h = omega arith

pub made_arm : (w : Weight) → 0 < weight_number w → (arms : Arms) → MadeOf w arms → HasArm arms
unfolding bend_arms
made_arm w h arms along_row = omega arith
made_arm w h arms along_column = omega arith
made_arm w h arms (at_corner down right) = corner_arm w down right h
made_arm w h arms (at_bend at before next) = old_arm _ _ (only_arm_lem w (toward at before) h)

-- what stands in a cell has an arm, where it is a stroke
abbrev pub ArmedParts : Parts → Type 0
ArmedParts Empty = Unit {0}
ArmedParts (Text ch) = Unit {0}
ArmedParts Continuation = Unit {0}
ArmedParts (Stroke arms) = HasArm arms
ArmedParts (Marker kind dir dashed) = Unit {0}

abbrev pub ArmedCell : ℕ → Type 0
ArmedCell w = ArmedParts (read w)

-- A stroke with an arm leaves such parts, and so does a marker.

double_armed : (new : Arms) (kind : MarkerKind) (dir : Dir) → HasArm new → ArmedParts (double_on_marker new kind dir)
unfolding double_on_marker
double_armed new Arrow dir h = new_arm (stem dir) new h
double_armed new SelfLoop dir h = h
double_armed new Dummy dir h = h

stroked_armed : (p : Parts) (new : Arms) → HasArm new → ArmedParts (stroked p new)
unfolding stroked
stroked_armed Empty new h = h
stroked_armed (Text ch) new h = cond_holds ArmedParts (has_double new) h tt
stroked_armed Continuation new h = cond_holds ArmedParts (has_double new) h tt
stroked_armed (Stroke old) new h = new_arm old new h
stroked_armed (Marker kind dir dashed) new h = cond_holds ArmedParts (has_double new) (double_armed new kind dir h) tt

marked_armed : (p : Parts) (kind : MarkerKind) (dir : Dir) (dashed : Bool) → ArmedParts (marked p kind dir dashed)
unfolding marked
marked_armed Empty kind dir dashed = tt
marked_armed (Text ch) kind dir dashed = tt
marked_armed Continuation kind dir dashed = tt
marked_armed (Stroke arms) kind dir dashed = tt
marked_armed (Marker k d x) kind dir dashed = tt

-- Packed, they read as such parts; a text as one too whose value is no code point.

text_armed : (ch w : ℕ) → w ≡ pack (Text ch) → ArmedCell w
unfolding pack read read_text
text_armed ch w e =
    let tag : w / 0x40000000 ≡ 1 = omega arith in
    rw tag (cond_holds ArmedParts (eqb (w / 0x200000 % 2) 1) tt tt)

pack_armed : (p : Parts) → ArmedParts p → ArmedCell (pack p)
unfolding Valid
pack_armed Empty h = rw (read_pack Empty tt) tt
pack_armed (Text ch) h = text_armed ch _ refl
pack_armed Continuation h = rw (read_pack Continuation tt) tt
pack_armed (Stroke arms) h = rw (read_pack (Stroke arms) tt) h
pack_armed (Marker kind dir dashed) h = rw (read_pack (Marker kind dir dashed) tt) tt

-- every glyph will do
abbrev pub AnyGlyph : ℕ → Type 0
AnyGlyph ch = Unit {0}

-- So ink whose strokes have arms keeps it of every cell.
pub armed_kept : KeptByCell HasArm AnyGlyph ArmedCell
unfolding painted_stroke painted_marker read
armed_kept = record {
  empty = tt;
  continuation = pack_armed Continuation tt;
  blank = tt;
  strokes = λ new w h c. pack_armed (stroked (read w) new) (stroked_armed (read w) new h);
  markers = λ kind dir dashed w c. pack_armed (marked (read w) kind dir dashed) (marked_armed (read w) kind dir dashed);
  glyphs = λ ch q. pack_armed (Text ch) tt;
}

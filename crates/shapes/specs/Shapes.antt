-- "Strokes become Box Drawing characters .. by a table over the four arms, one with just those arms and weights where
-- the block has it; docs/ lists the ones chosen where the block has none, and for self-loop and dummy; arrows become
-- U+2191, 2193, 2190 and 2192."
use Rattle.std.specs.Prelude.{ℕ, ◌+◌, ◌*◌, ◌/◌, ◌%◌, ◌≤◌, Bool, true, false, cond, ◌&&◌, List, [], ◌∷◌, ◌≡◌, eqb, Option, None, Some}
use Rattle.ground.specs.Each.{numbers, each, some}
use Rattle.cell.specs.declared.Weight.{Weight}
use Rattle.cell.specs.declared.Weight.TheVariants as weight
use Rattle.cell.specs.declared.Weight.TheVariants.{Light, Double}
use Rattle.cell.specs.declared.MarkerKind.{MarkerKind}
use Rattle.cell.specs.declared.MarkerKind.TheVariants.{Arrow, SelfLoop, Dummy}
use Rattle.cell.specs.declared.Dir.{Dir}
use Rattle.cell.specs.declared.Dir.TheVariants.{Up, Down, Left, Right}
use Rattle.cell.specs.declared.Arms.{Arms}
use Rattle.cell.specs.declared.Parts.{Parts}
use Rattle.cell.specs.declared.Parts.TheVariants.{Empty, Text, Continuation, Stroke, Marker}
use Rattle.cell.specs.OneCell.{weight_number, weight_of, heavier, is_double}
use Rattle.shapes.specs.Block.{Drawn, block}

-- the place of four arms in the table, and the arms at a place

abbrev pub arms_number : Arms → ℕ
arms_number a =
    weight_number a.up + 4 * weight_number a.down + 16 * weight_number a.left + 64 * weight_number a.right

abbrev pub arms_at : ℕ → Arms
arms_at k = record {
  up = weight_of (k % 4);
  down = weight_of (k / 4 % 4);
  left = weight_of (k / 16 % 4);
  right = weight_of (k / 64 % 4);
}

-- "just those arms and weights"
abbrev pub same_arms : Arms → Arms → Bool
same_arms a b = eqb (arms_number a) (arms_number b)

-- "one with just those arms and weights where the block has it": the first such character, and 0 where it has none
unfoldable pub drawn_as : List Drawn → Arms → ℕ
drawn_as [] a = 0
drawn_as (d ∷ rest) a = cond (same_arms d.arms a) d.character (drawn_as rest a)

-- "where the block has none": Dashed is shown as Light, both arms of a line (up and down, left and right) as the heavier
-- of the two, and an arm that is alone as Light.

-- 1 for an arm, 0 for none
abbrev pub arm_count : Weight → ℕ
arm_count arm = cond (eqb (weight_number arm) 0) 0 1

abbrev pub alone : Arms → Bool
alone a = eqb (arm_count a.up + arm_count a.down + arm_count a.left + arm_count a.right) 1

abbrev pub undashed : Weight → Weight
undashed weight = cond (is_double weight) Double Light

-- the weight in which the two arms of a line are shown
abbrev pub line_weight : Arms → Weight → Weight → Weight
line_weight a one other = cond (alone a) Light (undashed (heavier one other))

-- an arm in the weight of its line; where there is none, none
abbrev pub shown_arm : Weight → Weight → Weight
shown_arm line arm = cond (eqb (weight_number arm) 0) weight.None line

unfoldable pub instead : Arms → Arms
instead a = record {
  up = shown_arm (line_weight a a.up a.down) a.up;
  down = shown_arm (line_weight a a.up a.down) a.down;
  left = shown_arm (line_weight a a.left a.right) a.left;
  right = shown_arm (line_weight a a.left a.right) a.right;
}

-- The character of a stroke. One without arms, which no picture has, is a space.
unfoldable pub stroke_shape : Arms → ℕ
stroke_shape a =
    cond (eqb (arms_number a) 0) 0x20
    (cond (eqb (drawn_as block a) 0) (drawn_as block (instead a)) (drawn_as block a))

-- "a table over the four arms": the character of each four, at their place
unfoldable pub stroke_table : List ℕ
stroke_table = each (numbers 0 256) (λ k. stroke_shape (arms_at k) ∷ [])

-- The character of a marker, dashed or not: "arrows become U+2191, 2193, 2190 and 2192"; a self-loop and a dummy become
-- the characters that the original names.
unfoldable pub marker_shape : MarkerKind → Dir → ℕ
marker_shape Arrow Up = 0x2191
marker_shape Arrow Down = 0x2193
marker_shape Arrow Left = 0x2190
marker_shape Arrow Right = 0x2192
marker_shape SelfLoop dir = 0x21BA
marker_shape Dummy dir = 0x25CD

-- The character that a cell is written as: "A continuation writes nothing, empty writes a space".
unfoldable pub shape_of : Parts → Option ℕ
shape_of Empty = Some 0x20
shape_of (Text ch) = Some ch
shape_of Continuation = None
shape_of (Stroke arms) = Some (stroke_shape arms)
shape_of (Marker kind dir dashed) = Some (marker_shape kind dir)

-- What the table amounts to.

-- the block has a character with just these arms and weights
unfoldable pub drawable : Arms → Bool
drawable a = some block (λ d. same_arms d.arms a)

-- this is one
unfoldable pub draws : ℕ → Arms → Bool
draws character a = some block (λ d. eqb d.character character && same_arms d.arms a)

pub record TableRight : Type 0 where
  -- "Box Drawing characters (U+2500 to U+257F)": every stroke that has an arm becomes one
  pub in_block : (a : Arms) → (arms_number a ≡ 0 → ⊥) → (0x2500 ≤ stroke_shape a) × (stroke_shape a ≤ 0x257F)
  -- "one with just those arms and weights where the block has it"
  pub exact : (a : Arms) → drawable a ≡ true → draws (stroke_shape a) a ≡ true
  -- "where the block has none", it has one for the arms that the rule gives
  pub chosen :
      (a : Arms) → (arms_number a ≡ 0 → ⊥) → drawable a ≡ false → draws (stroke_shape a) (instead a) ≡ true
  -- the rule neither drops an arm nor adds one
  pub kept :
      (a : Arms) →
      (arm_count (instead a).up ≡ arm_count a.up) × (arm_count (instead a).down ≡ arm_count a.down)
      × (arm_count (instead a).left ≡ arm_count a.left) × (arm_count (instead a).right ≡ arm_count a.right)

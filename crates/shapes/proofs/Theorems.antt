-- The table gives what document 02 and the rule say.
use mathlib.Core.Path.{◌≡◌, refl}
use Rattle.ground.proofs.Each.{cond_holds}
use Rattle.cell.specs.declared.Weight.{Weight}
use Rattle.cell.specs.declared.Weight.TheVariants.{None, Dashed, Light, Double}
use Rattle.cell.specs.declared.Arms.{Arms}
use Rattle.cell.specs.OneCell.{heavier, is_double}
use Rattle.shapes.specs.Shapes.{arm_count, alone, line_weight, shown_arm, instead, TableRight}
use Rattle.shapes.proofs.Laws.{in_block, stroke_exact, stroke_chosen}

-- the weight of a line is that of an arm
line_shown : (a : Arms) (one other : Weight) → arm_count (line_weight a one other) ≡ 1
line_shown a one other =
    cond_holds (λ (w : Weight). arm_count w ≡ 1) (alone a) refl
    (cond_holds (λ (w : Weight). arm_count w ≡ 1) (is_double (heavier one other)) refl refl)

arm_shown : (line arm : Weight) → arm_count line ≡ 1 → arm_count (shown_arm line arm) ≡ arm_count arm
arm_shown line None h = refl
arm_shown line Dashed h = h
arm_shown line Light h = h
arm_shown line Double h = h

arm_kept : (a : Arms) (one other arm : Weight) → arm_count (shown_arm (line_weight a one other) arm) ≡ arm_count arm
arm_kept a one other arm = arm_shown _ arm (line_shown a one other)

pub table_right : TableRight
unfolding instead
table_right = record {
  in_block = in_block;
  exact = stroke_exact;
  chosen = stroke_chosen;
  kept = λ a. (
    arm_kept a a.up a.down a.up,
    arm_kept a a.up a.down a.down,
    arm_kept a a.left a.right a.left,
    arm_kept a a.left a.right a.right,
  );
}

-- The cases of document 01's proof table that speak of one cell, P1 to P4, on words.
use Rattle.std.specs.Prelude.{Bool, ◌≡◌}
use Rattle.cell.specs.declared.Weight.TheVariants.{Light, Double}
use Rattle.cell.specs.declared.MarkerKind.TheVariants.{Arrow}
use Rattle.cell.specs.declared.Dir.TheVariants.{Down}
use Rattle.cell.specs.declared.Parts.TheVariants.{Text, Marker}
use Rattle.cell.specs.OneCell.{vertical, horizontal, pack, painted_stroke}

-- one statement of the four
pub record ProofTableCell : Type 0 where
  -- P1: empty + Light vertical + Light horizontal is 80000492
  pub p1 : painted_stroke (painted_stroke 0 (vertical Light)) (horizontal Light) ≡ 0x80000492
  -- P2: Arrow Down + Double horizontal is 800006D0, whether the arrow's edge is dashed or not
  pub p2 : (dashed : Bool) → painted_stroke (pack (Marker Arrow Down dashed)) (horizontal Double) ≡ 0x800006D0
  -- P3: `A` + Light horizontal is 40000041
  pub p3 : painted_stroke (pack (Text 0x41)) (horizontal Light) ≡ 0x40000041
  -- P4: `A` + Double horizontal is 800006C0
  pub p4 : painted_stroke (pack (Text 0x41)) (horizontal Double) ≡ 0x800006C0

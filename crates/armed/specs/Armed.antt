-- A stroke without arms, and rows of cells that hold none.
use Rattle.std.specs.Prelude.{ℕ, ◌<◌, List, ◌≡◌}
use Rattle.cell.specs.declared.Weight.TheVariants.{None}
use Rattle.cell.specs.declared.Arms.{Arms}
use Rattle.cell.specs.declared.Parts.TheVariants.{Stroke}
use Rattle.layout.specs.Tables.{tables_of}
use Rattle.image.specs.Records.{edge_at}
use Rattle.picture.specs.Characters.{parts_at}

-- a stroke without arms: none of the four is there
pub record Armless (arms : Arms) : Type 0 where
  pub up : arms.up ≡ None
  pub down : arms.down ≡ None
  pub left : arms.left ≡ None
  pub right : arms.right ≡ None

-- no stroke that stands in a row of cells is without arms
abbrev pub Armed : List ℕ → Type 0
Armed row = (x : ℕ) (arms : Arms) → parts_at row x ≡ Stroke arms → Armless arms → ⊥

-- every edge of an image has a weight: "1 Dashed, 2 Light, 3 Double"
abbrev pub EdgesHaveWeights : List ℕ → Type 0
EdgesHaveWeights image = (k : ℕ) → k < (tables_of image).edges.count → (edge_at image (tables_of image).edges k).weight ≡ None → ⊥

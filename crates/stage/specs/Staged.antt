-- For the proofs alone: what every stage of painting knows of the image, the window and the marks; and the work that a stage has left.
use Rattle.std.specs.Prelude.{ℕ, ◌-◌, ◌≤◌, ◌<◌, List, ◌≡◌, get_or}
use Rattle.ground.specs.Each.{numbers, each}
use Rattle.layout.specs.declared.Tables.{Tables}
use Rattle.layout.specs.Small.{AllSmall}
use Rattle.layout.specs.Tables.{tables_of}
use Rattle.elements.specs.Slots.{slot_of}
use Rattle.rows.specs.declared.Window.{Window}
use Rattle.things.specs.Things.{ranges_of}
use Rattle.selection.specs.Selection.{Selected}
use Rattle.window.specs.Writes.{Write, Canvas}
use Rattle.window.specs.Window.{ink_window}

pub record Staged (image : List ℕ) (ts : Tables) (v : Window) (marks ranges : List ℕ) : Type 0 where
  pub tables : ts ≡ tables_of image
  pub small : AllSmall ts
  pub read : ranges ≡ ranges_of image ts
  pub selected : Selected image ts v marks

-- the writes of things from k on, of so many, on what is painted already: "Each group goes by index."
abbrev pub stage_left : Window → List ℕ → (ℕ → List Write) → ℕ → ℕ → Canvas → Canvas
stage_left v ranges things k count c = ink_window v ranges (each (numbers k (count - k)) things) c

-- the things of a kind from one to before another are not marked
pub record Unmarked (marks : List ℕ) (kind from to : ℕ) : Type 0 where
  pub none : (k : ℕ) → from ≤ k → k < to → get_or marks (slot_of kind k) 0 ≡ 0

-- For the proofs alone: how the code finds what touches a row that its listing lacks.
use Rattle.std.specs.Prelude.{ℕ, ◌≤◌, Bool, true, false, not, List, get_or, Option, Some, None, Result, Ok, Err}
use Rattle.layout.specs.declared.Tables.{Tables}
use Rattle.layout.specs.Layout.{max_things}
use Rattle.layout.specs.Small.{AllSmall}
use Rattle.rows.specs.declared.Rows.{Rows}
use Rattle.rows.specs.Computed.{rows_within}
use Rattle.elements.specs.Elements.{first_row, last_row}
use Rattle.elements.specs.Slots.{slot_of, slot_listing, Held}
use Rattle.things.specs.Computed.{Bracket}

abbrev pub no_rows : Option Rows → Bool
no_rows None = true
no_rows (Some r) = false

-- a thing that touches these rows, from the first to the last, touches one that this listing lacks
unfoldable pub lacks : List ℕ → Tables → Option ℕ → Option Rows → Bool
lacks image ts None r = not (no_rows r)
lacks image ts (Some k) r = not (rows_within (first_row image ts k) (last_row image ts k) r)

-- the same of thing k of the kind of this number, whose listing is in its slot
unfoldable pub slot_lacks : List ℕ → Tables → List ℕ → ℕ → ℕ → Option Rows → Bool
slot_lacks image ts slots number k r = lacks image ts (slot_listing (get_or slots (slot_of number k) 0)) r

-- what is known where codes 1 to 7 find nothing: there are slots for all things, each holds its thing's listing, and the bracket has a width
pub record Ready (image : List ℕ) (ts : Tables) (slots : List ℕ) : Type 0 where
  pub small : AllSmall ts
  pub nodes : ts.nodes.count ≤ max_things
  pub edges : ts.edges.count ≤ max_things
  pub subgraphs : ts.subgraphs.count ≤ max_things
  pub held : Held image ts slots ts.elements.count
  pub bracket : Bracket image ts

-- what a walk over things answers, by the first place that it finds and by the run count
abbrev pub walked : Option ℕ → ℕ → Result ℕ ℕ
walked None runs = Ok runs
walked (Some place) runs = Err place

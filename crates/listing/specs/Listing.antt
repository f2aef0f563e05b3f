-- Code 9: "a node, edge or subgraph touches a sheet row that its listing lacks (unlisted: any)", at "its first word; nodes, edges, subgraphs in turn".
use Rattle.std.specs.Prelude.{ℕ, ◌≤◌, ◌<◌, Bool, true, false, not, ◌&&◌, ◌||◌, List, ◌++◌, ◌≡◌, leb, Option, Some, None}
use Rattle.ground.specs.Each.{numbers, every}
use Rattle.ground.specs.Judged.{Judged}
use Rattle.layout.specs.declared.Tables.{Tables}
use Rattle.layout.specs.Layout.{header_height}
use Rattle.layout.specs.Tables.{word}
use Rattle.image.specs.declared.ElementKind.{ElementKind}
use Rattle.image.specs.declared.ElementKind.TheVariants as kind
use Rattle.image.specs.Records.{element_kind_number, thing_table}
use Rattle.elements.specs.Records.{judged_records}
use Rattle.elements.specs.Elements.{kind_of, index_of, first_row, last_row, listing}
use Rattle.things.specs.Things.{thing_touches}

-- a listing holds a row; "unlisted": none
abbrev pub holds_row : List ℕ → Tables → Option ℕ → ℕ → Bool
holds_row image ts None y = false
holds_row image ts (Some j) y = leb (first_row image ts j) y && leb y (last_row image ts j)

-- the listing of thing k of a kind is there and holds row y
abbrev pub lists_row : List ℕ → Tables → ElementKind → ℕ → ℕ → Bool
lists_row image ts kind k y = holds_row image ts (listing image ts (element_kind_number kind) k) y

-- it touches no "sheet row that its listing lacks"
unfoldable pub well_listed : ElementKind → List ℕ → Tables → ℕ → Bool
well_listed kind image ts k =
    every (numbers 0 (word image header_height)) (λ y. not (thing_touches kind image ts k y) || lists_row image ts kind k y)

unfoldable pub things_judged : ElementKind → List ℕ → Tables → List Judged
things_judged kind image ts = judged_records (thing_table kind ts) (well_listed kind image ts)

-- "nodes, edges, subgraphs in turn"
unfoldable pub listed_judged : List ℕ → Tables → List Judged
listed_judged image ts = things_judged kind.Node image ts ++ (things_judged kind.Edge image ts ++ things_judged kind.Subgraph image ts)

-- What an image keeps that code 9 does not refuse: each sheet row that a thing touches, an element lists the thing with.

pub record Lists (image : List ℕ) (ts : Tables) (kind : ElementKind) (k y : ℕ) : Type 0 where
  pub element : ℕ
  pub there : element < ts.elements.count
  pub kinds : kind_of image ts element ≡ element_kind_number kind
  pub index : index_of image ts element ≡ k
  pub from : first_row image ts element ≤ y
  pub to : y ≤ last_row image ts element

abbrev pub AllListed : List ℕ → Tables → Type 0
AllListed image ts =
    (kind : ElementKind) (k : ℕ) → k < (thing_table kind ts).count → (y : ℕ) → y < word image header_height →
    thing_touches kind image ts k y ≡ true → Lists image ts kind k y

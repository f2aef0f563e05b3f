-- Every word of a record is there where the image's length is "header plus tables".
use native.Mathlib.Omega.{arith}
use Prim.Native.Nat.{ℕ, ◌+◌, ◌≤◌, ◌<◌}
use mathlib.Core.List.{List}
use mathlib.Core.Path.{◌≡◌, refl, ◌∙◌}
use lib.ListN.{length}
use Rattle.layout.specs.declared.Table.{Table}
use Rattle.layout.specs.declared.Tables.{Tables}
use Rattle.layout.specs.Tables.{record_at, place_of, table_end, tables_of}
use Rattle.layout.specs.Small.{AllSmall}
use Rattle.layout.specs.Inside.{Inside, AllInside}
use Rattle.layout.proofs.Laws.{record_inside}

-- the words of record k, which begins at `at`
pub words_inside :
    (image : List ℕ) (size : ℕ) (table : Table) (k at : ℕ) → Inside image size table → k < table.count → at ≡ record_at table k → at + size ≤ length image
words_inside image size table k at inside h e = omega (arith, record_inside table (k + 1) (omega arith))

-- a field of record k, which stands at `at`
pub place_inside :
    (image : List ℕ) (table : Table) (k offset at : ℕ) →
    table_end table ≤ length image → k < table.count → offset < table.size → at ≡ place_of table k offset → at < length image
place_inside image table k offset at ends h p e = omega (arith, record_inside table (k + 1) (omega arith))

tables_inside : (image : List ℕ) → AllSmall (tables_of image) → length image ≡ table_end (tables_of image).ranges → AllInside image (tables_of image)
unfolding tables_of
tables_inside image small l = record {
  nodes = record { small = small.nodes; sized = refl; ends = omega arith };
  edges = record { small = small.edges; sized = refl; ends = omega arith };
  subgraphs = record { small = small.subgraphs; sized = refl; ends = omega arith };
  labels = record { small = small.labels; sized = refl; ends = omega arith };
  elements = record { small = small.elements; sized = refl; ends = omega arith };
  points = record { small = small.points; sized = refl; ends = omega arith };
  glyphs = record { small = small.glyphs; sized = refl; ends = omega arith };
  ranges = record { small = small.ranges; sized = refl; ends = omega arith };
}

-- the tables of an image that is as long as they say
pub all_inside :
    (image : List ℕ) (ts : Tables) (wanted : ℕ) →
    ts ≡ tables_of image → AllSmall ts → wanted ≡ table_end ts.ranges → length image ≡ wanted → AllInside image ts
all_inside image ts wanted t small w l = rw t (tables_inside image (rw t at small) (rw t at (l ∙ w)))

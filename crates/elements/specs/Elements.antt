-- The list of elements by itself: codes 7 and 8, and each thing's listing.
use Rattle.std.specs.Prelude.{ℕ, suc, ◌-◌, ◌≤◌, ◌<◌, Bool, not, ◌&&◌, ◌||◌, List, ◌≡◌, eqb, ltb, Option}
use Rattle.std.specs.Bool.{then_some}
use Rattle.ground.specs.Each.{numbers, some}
use Rattle.ground.specs.First.{first_from}
use Rattle.ground.specs.Judged.{Judged}
use Rattle.layout.specs.declared.Tables.{Tables}
use Rattle.layout.specs.Layout.{element_kind, element_index, element_first_row, element_last_row}
use Rattle.layout.specs.Tables.{field}
use Rattle.elements.specs.Records.{judged_records}

-- "element, 4: kind .., index, first row, last row": those of element k

abbrev pub kind_of : List ℕ → Tables → ℕ → ℕ
kind_of image ts k = field image ts.elements k element_kind

abbrev pub index_of : List ℕ → Tables → ℕ → ℕ
index_of image ts k = field image ts.elements k element_index

abbrev pub first_row : List ℕ → Tables → ℕ → ℕ
first_row image ts k = field image ts.elements k element_first_row

abbrev pub last_row : List ℕ → Tables → ℕ → ℕ
last_row image ts k = field image ts.elements k element_last_row

-- element k names this thing
abbrev pub names : List ℕ → Tables → ℕ → ℕ → ℕ → Bool
names image ts kind index k = eqb (kind_of image ts k) kind && eqb (index_of image ts k) index

-- Code 7: "an element names one already listed"

abbrev pub listed_before : List ℕ → Tables → ℕ → Bool
listed_before image ts k = some (numbers 0 k) (names image ts (kind_of image ts k) (index_of image ts k))

unfoldable pub twice_judged : List ℕ → Tables → List Judged
twice_judged image ts = judged_records ts.elements (λ k. not (listed_before image ts k))

-- Code 8: "first row > last row, or first row below the previous element's"

abbrev pub rows_broken : List ℕ → Tables → ℕ → Bool
rows_broken image ts k =
    ltb (last_row image ts k) (first_row image ts k) || (ltb 0 k && ltb (first_row image ts k) (first_row image ts (k - 1)))

unfoldable pub order_judged : List ℕ → Tables → List Judged
order_judged image ts = judged_records ts.elements (λ k. not (rows_broken image ts k))

-- the first, of the first so many elements, that names a thing
unfoldable pub lister : List ℕ → Tables → ℕ → ℕ → ℕ → Option ℕ
lister image ts kind index count = first_from (λ k. then_some (names image ts kind index k) k) 0 count

-- the listing of a thing
abbrev pub listing : List ℕ → Tables → ℕ → ℕ → Option ℕ
listing image ts kind index = lister image ts kind index ts.elements.count

-- What an image keeps that neither refuses.

-- no two elements name the same thing
abbrev pub Once : List ℕ → Tables → Type 0
Once image ts =
    (j k : ℕ) → j < k → k < ts.elements.count → kind_of image ts j ≡ kind_of image ts k → index_of image ts j ≡ index_of image ts k → ⊥

-- each element's first row is at most its last, and at most the next element's first
abbrev pub Ordered : List ℕ → Tables → Type 0
Ordered image ts =
    ((k : ℕ) → k < ts.elements.count → first_row image ts k ≤ last_row image ts k)
    × ((k : ℕ) → suc k < ts.elements.count → first_row image ts k ≤ first_row image ts (suc k))

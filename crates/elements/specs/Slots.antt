-- For the proofs alone: how the code finds each thing's listing in one walk. A word for each thing, `maxThings` of each kind, holds the number of the
-- element which lists it and 1, or 0.
use Rattle.std.specs.Prelude.{ℕ, zero, suc, ◌+◌, ◌*◌, ◌<◌, ◌≡◌, List, get_or, Option, Some, None}
use Rattle.ground.specs.Judged.{first_bad}
use Rattle.layout.specs.declared.Tables.{Tables}
use Rattle.layout.specs.Layout.{element_kinds, max_things}
use Rattle.elements.specs.Elements.{kind_of, index_of, lister, twice_judged}

abbrev pub slot_count : ℕ
slot_count = element_kinds * max_things

abbrev pub slot_of : ℕ → ℕ → ℕ
slot_of kind index = max_things * kind + index

abbrev pub element_slot : List ℕ → Tables → ℕ → ℕ
element_slot image ts k = slot_of (kind_of image ts k) (index_of image ts k)

-- what a slot's word says
abbrev pub slot_listing : ℕ → Option ℕ
slot_listing zero = None
slot_listing (suc k) = Some k

-- What codes 2 and 4 say of the elements: each names a thing of one of three kinds, each of which has only so many.
pub record ElementsGood (image : List ℕ) (ts : Tables) : Type 0 where
  pub kind : (k : ℕ) → k < ts.elements.count → kind_of image ts k < element_kinds
  pub index : (k : ℕ) → k < ts.elements.count → index_of image ts k < max_things

-- each slot says which of the first so many elements lists its thing
abbrev pub Held : List ℕ → Tables → List ℕ → ℕ → Type 0
Held image ts slots count =
    (kind index : ℕ) → kind < element_kinds → index < max_things →
    slot_listing (get_or slots (slot_of kind index) 0) ≡ lister image ts kind index count

-- what the walk finds, and leaves in the slots where it finds nothing
pub record Listed (image : List ℕ) (ts : Tables) (slots : List ℕ) (first : Option ℕ) : Type 0 where
  pub twice : first ≡ first_bad (twice_judged image ts)
  pub held : first ≡ None → Held image ts slots ts.elements.count

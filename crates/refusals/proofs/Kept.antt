-- What it means that no rule of a list is broken, rule by rule, and what the walk over the list of elements may take for granted.
use native.Mathlib.Omega.{arith}
use Prim.Native.Nat.{ℕ, ◌≤◌}
use mathlib.Core.List.{List}
use mathlib.Core.Path.{◌≡◌, sym}
use Rattle.std.specs.Prelude.{Option, None}
use Rattle.ground.specs.Judged.{first_bad}
use Rattle.glyph.specs.Width.{width_of}
use Rattle.glyph.specs.Ranges.{opening}
use Rattle.glyph.proofs.Theorems.{right_widths}
use Rattle.layout.specs.declared.Tables.{Tables}
use Rattle.layout.specs.Layout.{max_things, max_elements, element_kind, element_size}
use Rattle.layout.specs.Inside.{Inside}
use Rattle.layout.specs.Small.{AllSmall}
use Rattle.layout.specs.Tables.{field, tables_of, wanted_length}
use Rattle.layout.proofs.Inside.{all_inside}
use Rattle.image.specs.declared.ElementKind.{ElementKind}
use Rattle.image.specs.declared.ElementKind.TheVariants as kind
use Rattle.image.specs.Records.{element_kind_of, thing_table}
use Rattle.header.specs.Header.{header_judged, HeaderGood}
use Rattle.header.proofs.Theorems.{header_iff}
use Rattle.records.proofs.Theorems.{thing_count_lem}
use Rattle.fields.specs.Tables.{records_judged}
use Rattle.fields.specs.Good.{RecordsGood}
use Rattle.fields.proofs.Theorems.{records_iff}
use Rattle.elements.specs.Elements.{twice_judged, order_judged}
use Rattle.elements.specs.Slots.{ElementsGood, Listed}
use Rattle.things.specs.Things.{ranges_of}
use Rattle.controls.specs.Controls.{controls_judged}
use Rattle.corners.specs.Corners.{corners_judged}
use Rattle.listing.specs.Listing.{listed_judged}
use Rattle.listing.specs.Computed.{Ready}
use Rattle.refusals.specs.FirstBroken.{Passed, first_broken}
use Rattle.refusals.specs.Rules.{too_short, over_limit, wrong_length, bad_field, bad_range, control_character, corner_below_zero, listed_twice, out_of_order, not_listed, too_many_runs}
use Rattle.refusals.specs.Rules.{short_judged, length_judged, ranges_judged, runs_judged, content_rules, form_rules, touch_rules, listing_rules}
use Rattle.refusals.proofs.FirstBroken.{none_left, kept_first, first_kept}
use Rattle.refusals.proofs.Accepted.{length_iff, ranges_kept}

-- codes 1 to 6 and 13 find nothing
pub record FormKept (image : List ℕ) : Type 0 where
  pub short : first_bad (short_judged image) ≡ None
  pub header : first_bad (header_judged image) ≡ None
  pub wholes : first_bad (length_judged image) ≡ None
  pub fields : first_bad (records_judged image (tables_of image)) ≡ None
  pub ranges : first_bad (ranges_judged image (tables_of image)) ≡ None
  pub controls : first_bad (controls_judged image (tables_of image).glyphs) ≡ None
  pub corners : first_bad (corners_judged image (tables_of image)) ≡ None

-- codes 7 to 10 find nothing
pub record ListingKept (image : List ℕ) (ts : Tables) : Type 0 where
  pub twice : first_bad (twice_judged image ts) ≡ None
  pub order : first_bad (order_judged image ts) ≡ None
  pub listed : first_bad (listed_judged image ts) ≡ None
  pub runs : first_bad (runs_judged image ts) ≡ None

module _ (image : List ℕ) where
  pub form_kept : first_broken (form_rules image) ≡ Passed → FormKept image
  unfolding form_rules content_rules
  form_kept e =
      let a = kept_first too_short (short_judged image) _ e in
      let b = kept_first over_limit (header_judged image) _ a.1 in
      let c = kept_first wrong_length (length_judged image) _ b.1 in
      let d = kept_first bad_field (records_judged image (tables_of image)) _ c.1 in
      let f = kept_first bad_range (ranges_judged image (tables_of image)) _ d.1 in
      let g = kept_first control_character (controls_judged image (tables_of image).glyphs) _ f.1 in
      let h = kept_first corner_below_zero (corners_judged image (tables_of image)) _ g.1 in
      record { short = a.0; header = b.0; wholes = c.0; fields = d.0; ranges = f.0; controls = g.0; corners = h.0 }

  pub kept_form : FormKept image → first_broken (form_rules image) ≡ Passed
  unfolding form_rules content_rules
  kept_form k =
      first_kept too_short _ _ k.short
      (first_kept over_limit _ _ k.header
      (first_kept wrong_length _ _ k.wholes
      (first_kept bad_field _ _ k.fields
      (first_kept bad_range _ _ k.ranges
      (first_kept control_character _ _ k.controls
      (first_kept corner_below_zero _ _ k.corners (sym none_left)))))))

module _ (image : List ℕ) (ts : Tables) where
  pub listing_kept : first_broken (listing_rules image ts) ≡ Passed → ListingKept image ts
  unfolding listing_rules touch_rules
  listing_kept e =
      let a = kept_first listed_twice (twice_judged image ts) _ e in
      let b = kept_first out_of_order (order_judged image ts) _ a.1 in
      let c = kept_first not_listed (listed_judged image ts) _ b.1 in
      let d = kept_first too_many_runs (runs_judged image ts) _ c.1 in
      record { twice = a.0; order = b.0; listed = c.0; runs = d.0 }

  pub kept_listing : ListingKept image ts → first_broken (listing_rules image ts) ≡ Passed
  unfolding listing_rules touch_rules
  kept_listing k =
      first_kept listed_twice _ _ k.twice
      (first_kept out_of_order _ _ k.order
      (first_kept not_listed _ _ k.listed (first_kept too_many_runs _ _ k.runs (sym none_left))))

-- The counts of an image whose header is good.
module _ (image : List ℕ) (good : HeaderGood image) where
  pub things_few : (kind : ElementKind) → (thing_table kind (tables_of image)).count ≤ max_things
  unfolding tables_of
  things_few kind.Node = good.nodes
  things_few kind.Edge = good.edges
  things_few kind.Subgraph = good.subgraphs

  elements_few : (tables_of image).elements.count ≤ max_elements
  unfolding tables_of
  elements_few = good.elements

  -- and of the elements, where the records are good too
  elements_good : RecordsGood image (tables_of image) → ElementsGood image (tables_of image)
  elements_good records =
      let ts = tables_of image in
      record {
        kind = λ k h. omega (arith, (records.elements k h).kind);
        index = λ k h.
            let kind = element_kind_of (field image ts.elements k element_kind) in
            omega (arith, (records.elements k h).index, thing_count_lem kind ts, things_few kind);
      }

-- What the walks over the list need, where the form has passed.
module _ (image : List ℕ) (ts : Tables) (t : ts ≡ tables_of image) (passed : first_broken (form_rules image) ≡ Passed) where
  good_header : HeaderGood image
  good_header = (header_iff image).0 (form_kept image passed).header

  pub few_elements : ts.elements.count ≤ max_elements
  few_elements = rw t (elements_few image good_header)

  pub good_elements : ElementsGood image ts
  good_elements = rw t (elements_good image good_header ((records_iff image (tables_of image)).0 (form_kept image passed).fields))

  pub elements_inside : AllSmall ts → Inside image element_size ts.elements
  unfolding tables_of wanted_length
  elements_inside small =
      (all_inside image ts (wanted_length image) t small (rw t) ((length_iff image).0 (form_kept image passed).wholes)).elements

  pub ready : (slots : List ℕ) (twice : Option ℕ) → AllSmall ts → Listed image ts slots twice → twice ≡ None → Ready image ts slots
  ready slots twice small listed none = record {
    small = small;
    nodes = rw t (things_few image good_header kind.Node);
    edges = rw t (things_few image good_header kind.Edge);
    subgraphs = rw t (things_few image good_header kind.Subgraph);
    held = listed.held none;
    bracket =
        let width : width_of (ranges_of image ts) 0x5B ≡ 1 =
        (right_widths (ranges_of image ts) (ranges_kept image ts (rw t (form_kept image passed).ranges))).fixed 0x5B opening in
        omega arith;
  }

-- Code 9 finds nothing exactly where an element lists each thing with each sheet row that it touches.
use native.Mathlib.Omega.{arith}
use Prim.Native.Nat.{ℕ, ◌<◌}
use mathlib.Core.Bool.{true, not, ◌||◌}
use mathlib.Core.List.{List}
use mathlib.Core.Logic.{◌↔◌}
use mathlib.Core.Path.{◌≡◌, refl, sym, ◌∙◌}
use lib.Dec.{leb}
use borrow.Author.Tests.{le-leb, leb-true}
use Rattle.std.specs.Prelude.{Option, Some, None}
use Rattle.ground.specs.Judged.{first_bad}
use Rattle.ground.proofs.Each.{by_bool, and_left, and_right, and_both, every_number, number_every}
use Rattle.ground.proofs.First.{or_none_both}
use Rattle.ground.proofs.Order.{by_three}
use Rattle.layout.specs.declared.Tables.{Tables}
use Rattle.layout.specs.Layout.{header_height}
use Rattle.layout.specs.Tables.{word}
use Rattle.image.specs.declared.ElementKind.{ElementKind}
use Rattle.image.specs.declared.ElementKind.TheVariants as kind
use Rattle.image.specs.Records.{element_kind_number, thing_table}
use Rattle.rows.proofs.Windows.{clash}
use Rattle.elements.specs.Elements.{kind_of, index_of, first_row, listing, Once}
use Rattle.elements.proofs.Records.{records_good_iff}
use Rattle.elements.proofs.Theorems.{listing_at, listing_none}
use Rattle.things.specs.Things.{thing_touches}
use Rattle.listing.proofs.Laws.{first_in_turn}
use Rattle.listing.specs.Listing.{holds_row, lists_row, well_listed, things_judged, listed_judged, Lists, AllListed}

-- Where no two elements name the same thing, a thing has one listing.
one_listing :
    (image : List ℕ) (ts : Tables) → Once image ts → (i j : ℕ) → i < ts.elements.count → j < ts.elements.count →
    kind_of image ts i ≡ kind_of image ts j → index_of image ts i ≡ index_of image ts j → i ≡ j
one_listing image ts once i j p q e f =
    by_three i j (λ o. absurd (once i j o q e f)) (λ o. absurd (once j i o p (sym e) (sym f))) (λ o. o)

-- The listing of a thing holds a row exactly where an element lists the thing with it.
module _ (image : List ℕ) (ts : Tables) (kind : ElementKind) (k y : ℕ) where
  held_lists : (l : Option ℕ) → listing image ts (element_kind_number kind) k ≡ l → holds_row image ts l y ≡ true → Lists image ts kind k y
  held_lists None e h = clash h refl
  held_lists (Some j) e h =
      let at = listing_at image ts (element_kind_number kind) k j e in
      record {
        element = j;
        there = at.0;
        kinds = at.1;
        index = at.2;
        from = leb-true _ _ (and_left (leb (first_row image ts j) y) _ h);
        to = leb-true _ _ (and_right (leb (first_row image ts j) y) _ h);
      }

  lists_held : (l : Option ℕ) → Once image ts → listing image ts (element_kind_number kind) k ≡ l → Lists image ts kind k y → holds_row image ts l y ≡ true
  lists_held None once e x = absurd (listing_none image ts (element_kind_number kind) k e x.element x.there x.kinds x.index)
  lists_held (Some j) once e x =
      let at = listing_at image ts (element_kind_number kind) k j e in
      let same = one_listing image ts once x.element j x.there at.0 (x.kinds ∙ sym at.1) (x.index ∙ sym at.2) in
      and_both (le-leb _ _ (rw same at x.from)) (le-leb _ _ (rw same at x.to))

module _ (image : List ℕ) (ts : Tables) where
  -- nothing is found among things of one kind, and of each kind

  kind_iff : (kind : ElementKind) → (first_bad (things_judged kind image ts) ≡ None) ↔ ((k : ℕ) → k < (thing_table kind ts).count → well_listed kind image ts k ≡ true)
  unfolding things_judged
  kind_iff kind = records_good_iff (thing_table kind ts) (well_listed kind image ts)

  by_kind : (P : ElementKind → Type 0) → P kind.Node → P kind.Edge → P kind.Subgraph → (kind : ElementKind) → P kind
  by_kind P a b c kind.Node = a
  by_kind P a b c kind.Edge = b
  by_kind P a b c kind.Subgraph = c

  kinds_iff : (first_bad (listed_judged image ts) ≡ None) ↔ ((kind : ElementKind) → first_bad (things_judged kind image ts) ≡ None)
  kinds_iff = (
    (λ h.
        let a = or_none_both _ _ (sym (first_in_turn image ts) ∙ h) in
        let b = or_none_both _ _ a.1 in
        by_kind (λ kind. first_bad (things_judged kind image ts) ≡ None) a.0 b.0 b.1),
    (λ h. first_in_turn image ts ∙ rw (h kind.Node, h kind.Edge) (h kind.Subgraph)),
  )

  -- Where no two elements name the same thing, code 9 finds nothing exactly where each thing is listed with each sheet row that it touches.
  pub listed_iff : Once image ts → (first_bad (listed_judged image ts) ≡ None) ↔ AllListed image ts
  unfolding well_listed
  listed_iff once = (
    (λ h kind k p y q t.
        held_lists image ts kind k y (listing image ts (element_kind_number kind) k) refl
        (rw t at (every_number (λ y. not (thing_touches kind image ts k y) || lists_row image ts kind k y) 0 (word image header_height)
        ((kind_iff kind).0 (kinds_iff.0 h kind) k p) y (omega arith) (omega arith)))),
    (λ all. kinds_iff.1
        (λ kind. (kind_iff kind).1
        (λ k p. number_every (λ y. not (thing_touches kind image ts k y) || lists_row image ts kind k y) 0 (word image header_height)
        (λ y i j. by_bool (thing_touches kind image ts k y)
        (λ t. rw t (lists_held image ts kind k y (listing image ts (element_kind_number kind) k) once refl (all kind k p y (omega arith) t)))
        (λ t. rw t))))),
  )

-- Where an owner is told, its label holds the glyph at that position, and no label before it holds it; where none is told, no label does.
use native.Mathlib.Omega.{arith}
use Rattle.std.specs.Prelude.{Option, Some, None}
use Rattle.std.specs.Option.{option_or}
use Prim.Native.Nat.{ℕ, ◌+◌, ◌-◌, ◌<◌}
use mathlib.Core.Bool.{Bool, true, false}
use mathlib.Core.List.{List}
use mathlib.Core.Path.{◌≡◌, refl}
use lib.Dec.{leb}
use borrow.Author.Tests.{leb-true, ltb-true, le-leb, lt-ltb}
use Rattle.std.specs.Prelude.{Option, Some, None}
use Rattle.std.specs.Bool.{then_some}
use Rattle.ground.proofs.Each.{and_left, and_right, and_both, by_bool}
use Rattle.ground.proofs.First.{found_none, first_none, first_at}
use Rattle.layout.specs.declared.Tables.{Tables}
use Rattle.layout.specs.Layout.{edge_flags, label_present}
use Rattle.layout.specs.Tables.{flag, field}
use Rattle.image.specs.declared.Span.{Span}
use Rattle.image.specs.declared.ElementKind.{ElementKind}
use Rattle.image.specs.declared.ElementKind.TheVariants as kind
use Rattle.image.specs.Records.{element_kind_number, thing_table, edge_at, edge_label_of}
use Rattle.glyph_owner.specs.declared.GlyphOwner.{GlyphOwner}
use Rattle.glyph_owner.specs.Owner.{edge_span, label_of, holds_glyph, has_glyph, holder_of, owner_at, owner_of}

-- a label has the glyph at this position: "label start, label count"
pub record Has (label : Span) (glyph position : ℕ) : Type 0 where
  pub at : glyph ≡ label.start + position
  pub within : position < label.count

-- it has it at none
abbrev pub Lacks : Span → ℕ → Type 0
Lacks label glyph = (position : ℕ) → Has label glyph position → ⊥

holds_has : (label : Span) (glyph : ℕ) → holds_glyph label glyph ≡ true → Has label glyph (glyph - label.start)
holds_has label glyph h =
    let low = leb-true label.start glyph (and_left (leb label.start glyph) _ h) in
    let high = ltb-true glyph (label.start + label.count) (and_right (leb label.start glyph) _ h) in
    record { at = omega arith; within = omega arith }

has_holds : (label : Span) (glyph position : ℕ) → Has label glyph position → holds_glyph label glyph ≡ true
has_holds label glyph position h = and_both (le-leb label.start glyph (omega arith)) (lt-ltb glyph (label.start + label.count) (omega arith))

holds_lacks : (label : Span) (glyph : ℕ) → holds_glyph label glyph ≡ false → Lacks label glyph
holds_lacks label glyph h position p =
    let t = has_holds label glyph position p in let z : ◌≡◌ {A = ℕ} 0 1 = cc in omega arith

found_there : (test : Bool) (k p : ℕ) → then_some test k ≡ Some p → (test ≡ true) × (k ≡ p)
found_there true k p h = (refl, cc)
found_there false k p h = let z : ◌≡◌ {A = ℕ} 0 1 = cc in absurd (omega arith)

module _ (image : List ℕ) (ts : Tables) (glyph : ℕ) where
  -- no label of a thing of this kind holds it
  abbrev pub NoneOf : ElementKind → Type 0
  NoneOf own = (k : ℕ) → k < (thing_table own ts).count → Lacks (label_of own image ts k) glyph

  -- the label of thing `index` of a kind has it at this position, and no label before it has it: "nodes, edges, subgraphs in turn"
  pub record Owned (own : ElementKind) (index position : ℕ) : Type 0 where
    pub there : index < (thing_table own ts).count
    pub has : Has (label_of own image ts index) glyph position
    pub first : (k : ℕ) → k < index → Lacks (label_of own image ts k) glyph
    pub earlier : (other : ElementKind) → element_kind_number other < element_kind_number own → NoneOf other

  -- what an answer says
  abbrev Told : Option GlyphOwner → Type 0
  Told None = (own : ElementKind) → NoneOf own
  Told (Some owner) = Owned owner.kind owner.index owner.position

  none_of : (own : ElementKind) → holder_of own image ts glyph ≡ None → NoneOf own
  unfolding holder_of
  none_of own h k p =
      holds_lacks (label_of own image ts k) glyph
      (found_none (has_glyph own image ts glyph k) k
      (first_none (λ j. then_some (has_glyph own image ts glyph j) j) 0 (thing_table own ts).count h k (omega arith) (omega arith)))

  one_of :
      (own : ElementKind) (k : ℕ) → holder_of own image ts glyph ≡ Some k →
      ((other : ElementKind) → element_kind_number other < element_kind_number own → NoneOf other) →
      Owned own k (glyph - (label_of own image ts k).start)
  unfolding holder_of
  one_of own k h earlier =
      let at = first_at (λ j. then_some (has_glyph own image ts glyph j) j) 0 (thing_table own ts).count k h in
      let here = found_there (has_glyph own image ts glyph at.0) at.0 k at.3 in
      record {
        there = omega (arith, at.2, here.1);
        has = holds_has (label_of own image ts k) glyph (rw here.1 at here.0);
        first = λ j p.
            holds_lacks (label_of own image ts j) glyph
            (found_none (has_glyph own image ts glyph j) j (at.4 j (omega arith) (omega (arith, here.1))));
        earlier = earlier;
      }

  told :
      (node edge subgraph : Option ℕ) → holder_of kind.Node image ts glyph ≡ node → holder_of kind.Edge image ts glyph ≡ edge →
      holder_of kind.Subgraph image ts glyph ≡ subgraph →
      Told (option_or (owner_at kind.Node image ts glyph node) (option_or (owner_at kind.Edge image ts glyph edge) (owner_at kind.Subgraph image ts glyph subgraph)))
  unfolding owner_at
  told (Some k) edge subgraph n e s = one_of kind.Node k n (λ other p. absurd (omega arith))
  told None (Some k) subgraph n e s = one_of kind.Edge k e before
    where
      before : (other : ElementKind) → element_kind_number other < 1 → NoneOf other
      before kind.Node p = none_of kind.Node n
      before kind.Edge p = absurd (omega arith)
      before kind.Subgraph p = absurd (omega arith)
  told None None (Some k) n e s = one_of kind.Subgraph k s before
    where
      before : (other : ElementKind) → element_kind_number other < 2 → NoneOf other
      before kind.Node p = none_of kind.Node n
      before kind.Edge p = none_of kind.Edge e
      before kind.Subgraph p = absurd (omega arith)
  told None None None n e s = every
    where
      every : (own : ElementKind) → NoneOf own
      every kind.Node = none_of kind.Node n
      every kind.Edge = none_of kind.Edge e
      every kind.Subgraph = none_of kind.Subgraph s

  all_told : Told (owner_of image ts glyph)
  unfolding owner_of
  all_told = told _ _ _ refl refl refl

  -- Where an owner is told, the glyph is its own, at that position of its label, and no label before it holds it.
  pub owner_told : (own : ElementKind) (index position : ℕ) → owner_of image ts glyph ≡ Some (record { kind = own; index = index; position = position }) → Owned own index position
  owner_told own index position e = rw e at all_told

  -- Where none is told, no label of a node, an edge or a subgraph holds it.
  pub none_told : owner_of image ts glyph ≡ None → (own : ElementKind) → NoneOf own
  none_told e = rw e at all_told

-- An edge whose label holds a glyph has its label present.
pub has_present :
    (image : List ℕ) (ts : Tables) (glyph k position : ℕ) →
    Has (label_of kind.Edge image ts k) glyph position →
    flag (field image ts.edges k edge_flags) label_present ≡ true
unfolding label_of edge_span edge_at edge_label_of
has_present image ts glyph k position h =
    by_bool (flag (field image ts.edges k edge_flags) label_present) (λ t. t) (λ t. absurd (omega (arith, rw t at h.within)))

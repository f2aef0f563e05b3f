-- Laws over plain values, which the functions' proofs cite: a thing's label, the search for the first label that holds a glyph, and the kinds in turn.
use Rattle.std.specs.Prelude.{Option, Some, None}
use Rattle.std.specs.Option.{option_or}
use Prim.Native.Nat.{ℕ, ◌+◌, ◌-◌, ◌≤◌, ◌<◌}
use mathlib.Core.Bool.{Bool, true, false}
use mathlib.Core.List.{List}
use mathlib.Core.Path.{◌≡◌, sym, ◌∙◌, ap}
use Rattle.layout.specs.declared.Tables.{Tables}
use Rattle.layout.specs.Tables.{tables_of}
use Rattle.image.specs.declared.Span.{Span}
use Rattle.image.specs.declared.Node.{Node}
use Rattle.image.specs.declared.Subgraph.{Subgraph}
use Rattle.image.specs.declared.ElementKind.{ElementKind}
use Rattle.image.specs.declared.ElementKind.TheVariants as kind
use Rattle.image.specs.Records.{node_at, edge_at, subgraph_at, thing_table}
use Rattle.finding.proofs.Search.{found_to, search_whole, search_hit, search_on, search_done}
use Rattle.glyph_owner.specs.declared.GlyphOwner.{GlyphOwner}
use Rattle.glyph_owner.specs.Owner.{edge_span, label_of, holds_glyph, has_glyph, holder_of, owner_at, owner_in, owner_of}

-- The label of a thing, by its kind.
module _ (own : ElementKind) (image : List ℕ) (ts : Tables) (k : ℕ) where
  pub of_node : (node : Node) → own ≡ kind.Node → node ≡ node_at image ts.nodes k → node.label ≡ label_of own image ts k
  unfolding label_of
  of_node node t e = rw (t, e)

  pub of_edge : (span : Span) → own ≡ kind.Edge → span ≡ edge_span (edge_at image ts.edges k).label → span ≡ label_of own image ts k
  unfolding label_of
  of_edge span t e = rw (t, e)

  pub of_subgraph : (subgraph : Subgraph) → own ≡ kind.Subgraph → subgraph ≡ subgraph_at image ts.subgraphs k → subgraph.label ≡ label_of own image ts k
  unfolding label_of
  of_subgraph subgraph t e = rw (t, e)

-- The search through the things of a kind, turn by turn.
module _ (kind : ElementKind) (image : List ℕ) (ts : Tables) (glyph : ℕ) where
  abbrev pub Looked : ℕ → Type 0
  Looked k = found_to (has_glyph kind image ts glyph) (thing_table kind ts).count k ≡ holder_of kind image ts glyph

  pub look_whole : Looked 0
  unfolding holder_of
  look_whole = search_whole (has_glyph kind image ts glyph) (thing_table kind ts).count

  module _ (k count : ℕ) (left : Looked k) (n : count ≡ (thing_table kind ts).count) where
    module _ (held : Bool) (label : Span) (h : k < count) (l : label ≡ label_of kind image ts k) (e : held ≡ holds_glyph label glyph) where
      here : held ≡ has_glyph kind image ts glyph k
      here = e ∙ ap (λ s. holds_glyph s glyph) l

      pub look_hit :
          (start position : ℕ) → held ≡ true → start ≡ label.start → position ≡ glyph - start →
          ◌≡◌ {A = Option GlyphOwner} (Some (record { kind = kind; index = k; position = position })) (owner_in kind image ts glyph)
      unfolding owner_at
      look_hit start position z s p =
          rw (p, s, l, ← search_hit (has_glyph kind image ts glyph) (thing_table kind ts).count _ k left (rw n at h) (sym here ∙ z))

      pub look_on : held ≡ false → Looked (k + 1)
      look_on z = search_on (has_glyph kind image ts glyph) (thing_table kind ts).count _ k left (rw n at h) (sym here ∙ z)

    pub look_done : count ≤ k → None ≡ owner_in kind image ts glyph
    unfolding owner_at
    look_done h = rw (← search_done (has_glyph kind image ts glyph) (thing_table kind ts).count _ k left (rw n at h))

-- nodes, edges, subgraphs in turn
pub in_turn :
    (image : List ℕ) (ts : Tables) (glyph : ℕ) (by_node by_edge by_subgraph later r : Option GlyphOwner) →
    ts ≡ tables_of image →
    by_node ≡ owner_in kind.Node image ts glyph →
    by_edge ≡ owner_in kind.Edge image ts glyph →
    by_subgraph ≡ owner_in kind.Subgraph image ts glyph →
    later ≡ option_or by_edge by_subgraph →
    r ≡ option_or by_node later →
    r ≡ owner_of image (tables_of image) glyph
unfolding owner_of
in_turn image ts glyph by_node by_edge by_subgraph later r t a b c d e = rw (e, d, a, b, c, t)

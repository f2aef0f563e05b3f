-- Whose label a glyph belongs to: "node, 9: .. label start, label count", and so an edge and a subgraph.
use Rattle.std.specs.Prelude.{ℕ, ◌+◌, ◌-◌, Bool, ◌&&◌, List, leb, ltb, Option, Some, None}
use Rattle.std.specs.Option.{unwrap_or, option_or}
use Rattle.std.specs.Bool.{then_some}
use Rattle.ground.specs.First.{first_from}
use Rattle.layout.specs.declared.Tables.{Tables}
use Rattle.image.specs.declared.Span.{Span}
use Rattle.image.specs.declared.ElementKind.{ElementKind}
use Rattle.image.specs.declared.ElementKind.TheVariants as kind
use Rattle.image.specs.Records.{node_at, edge_at, subgraph_at, thing_table}
use Rattle.glyph_owner.specs.declared.GlyphOwner.{GlyphOwner}

-- "label present 1 (else start and count 0)"
unfoldable pub edge_span : Option Span → Span
edge_span label = unwrap_or label (record { start = 0; count = 0 })

-- the label of thing k of a kind
unfoldable pub label_of : ElementKind → List ℕ → Tables → ℕ → Span
label_of kind.Node image ts k = (node_at image ts.nodes k).label
label_of kind.Edge image ts k = edge_span (edge_at image ts.edges k).label
label_of kind.Subgraph image ts k = (subgraph_at image ts.subgraphs k).label

-- a label holds this glyph of the table
abbrev pub holds_glyph : Span → ℕ → Bool
holds_glyph label glyph = leb label.start glyph && ltb glyph (label.start + label.count)

-- thing k of a kind has it in its label
abbrev pub has_glyph : ElementKind → List ℕ → Tables → ℕ → ℕ → Bool
has_glyph kind image ts glyph k = holds_glyph (label_of kind image ts k) glyph

-- the first thing of a kind that does
unfoldable pub holder_of : ElementKind → List ℕ → Tables → ℕ → Option ℕ
holder_of kind image ts glyph = first_from (λ k. then_some (has_glyph kind image ts glyph k) k) 0 (thing_table kind ts).count

-- that thing as the owner, with the glyph's place in its label
unfoldable pub owner_at : ElementKind → List ℕ → Tables → ℕ → Option ℕ → Option GlyphOwner
owner_at kind image ts glyph None = None
owner_at kind image ts glyph (Some k) = Some (record { kind = kind; index = k; position = glyph - (label_of kind image ts k).start })

abbrev pub owner_in : ElementKind → List ℕ → Tables → ℕ → Option GlyphOwner
owner_in kind image ts glyph = owner_at kind image ts glyph (holder_of kind image ts glyph)

-- "nodes, edges, subgraphs in turn"
unfoldable pub owner_of : List ℕ → Tables → ℕ → Option GlyphOwner
owner_of image ts glyph = option_or (owner_in kind.Node image ts glyph) (option_or (owner_in kind.Edge image ts glyph) (owner_in kind.Subgraph image ts glyph))

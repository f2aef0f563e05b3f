-- `bad_in_first` finds the first word that breaks its rule in the first four tables.
use borrow.Author.Rules.{rules}
use Rattle.layout.specs.declared.RecordKind.TheVariants as kind
use Rattle.records.specs.Records.{record_rules}
use Rattle.fields.specs.Tables.{kind_judged}
use Rattle.fields.proofs.Laws.{in_table, in_four}
use Rattle.fields.proofs.bad_in_first.Goals as goal

pub returns : goal.returns
returns c =
    let image = c.args.image.now in
    let ts = c.args.ts in
    in_four (kind_judged image ts) kind.Node kind.Edge kind.Subgraph kind.PlacedLabel _ _ _ _ _ _ _ c.or-3.ensures c.or-2.ensures c.or.ensures
    (in_table image ts.nodes (record_rules kind.Node ts) _ _ c.first_found-in_nodes.ensures (λ k answer h e. search rules))
    (in_table image ts.edges (record_rules kind.Edge ts) _ _ c.first_found-in_edges.ensures (λ k answer h e. search rules))
    (in_table image ts.subgraphs (record_rules kind.Subgraph ts) _ _ c.first_found-in_subgraphs.ensures (λ k answer h e. search rules))
    (in_table image ts.labels (record_rules kind.PlacedLabel ts) _ _ c.first_found-in_labels.ensures (λ k answer h e. search rules))

-- `bad_in_last` finds the first word that breaks its rule in the last four tables.
use borrow.Author.Rules.{rules}
use Rattle.layout.specs.declared.RecordKind.TheVariants as kind
use Rattle.records.specs.Records.{record_rules}
use Rattle.fields.specs.Tables.{kind_judged}
use Rattle.fields.proofs.Laws.{in_table, in_four}
use Rattle.fields.proofs.bad_in_last.Goals as goal

pub returns : goal.returns
returns c =
    let image = c.args.image.now in
    let ts = c.args.ts in
    in_four (kind_judged image ts) kind.Element kind.Point kind.Glyph kind.Range _ _ _ _ _ _ _ c.or-3.ensures c.or-2.ensures c.or.ensures
    (in_table image ts.elements (record_rules kind.Element ts) _ _ c.first_found-in_elements.ensures (λ k answer h e. search rules))
    (in_table image ts.points (record_rules kind.Point ts) _ _ c.first_found-in_points.ensures (λ k answer h e. search rules))
    (in_table image ts.glyphs (record_rules kind.Glyph ts) _ _ c.first_found-in_glyphs.ensures (λ k answer h e. search rules))
    (in_table image ts.ranges (record_rules kind.Range ts) _ _ c.first_found-in_ranges.ensures (λ k answer h e. search rules))

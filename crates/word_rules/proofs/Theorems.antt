-- The rules word by word are those of code 4, and the faults of an edge's flags are all that breaks their rule.
use Prim.Native.Nat.{ℕ}
use native.Mathlib.Omega.{arith}
use mathlib.Core.Bool.{Bool, true, false, not, ◌&&◌, ◌||◌}
use mathlib.Core.List.{List, map}
use mathlib.Core.Path.{◌≡◌, refl}
use lib.Dec.{eqb, leb, ltb}
use lib.ListN.{length}
use borrow.Author.Tests.{lt-ltb, le-ltb, le-leb, lt-leb, eq-eqb, ne_eqb}
use Rattle.ground.specs.Each.{numbers}
use Rattle.ground.proofs.Each.{by_bool}
use Rattle.ground.proofs.Order.{by_order}
use Rattle.layout.specs.declared.RecordKind.{RecordKind}
use Rattle.layout.specs.declared.RecordKind.TheVariants as kind
use Rattle.layout.specs.declared.Tables.{Tables}
use Rattle.layout.specs.Layout.{node_flags, self_loop, edge_flags, edge_a, edge_b, edge_c, label_present, element_kind, edge_spare, path_spline}
use Rattle.layout.specs.Layout.{path_corner, path_side_channel, path_multi_segment, path_orthogonal}
use Rattle.layout.specs.Tables.{flag}
use Rattle.image.specs.declared.ElementKind.{ElementKind}
use Rattle.image.specs.declared.ElementKind.TheVariants as thing
use Rattle.image.specs.Records.{element_kind_of}
use Rattle.header.specs.Words.{clear}
use Rattle.edge_rules.specs.declared.PathWords.{PathWords}
use Rattle.edge_rules.specs.Edge.{path_number, weight_number, edge_flags_good, path_words, path_good, edge_rules}
use Rattle.records.specs.Records.{node_rules, subgraph_rules, placed_label_rules, element_rules, point_rules, glyph_rules, range_rules, record_rules, thing_count}
use Rattle.word_rules.specs.declared.PathRules.{PathRules}
use Rattle.word_rules.specs.Rules.{keeps, node_rule, path_rules, edge_rule, subgraph_rule, placed_label_rule, index_rule, element_rule, range_rule, word_rule}
use Rattle.word_rules.specs.Faults.{flag_faults, faulty}

-- a, b and c

abbrev three_kept : PathRules → ℕ → ℕ → ℕ → PathWords
three_kept rules a b c = path_words (keeps rules.a a) (keeps rules.b b) (keeps rules.c c)

path_agrees : (points path a b c : ℕ) → path_good points path a b c ≡ three_kept (path_rules points path b) a b c
unfolding path_good path_rules keeps
path_agrees points path a b c =
    by_bool (eqb path path_corner) (λ e. rw e) (λ e.
    by_bool (eqb path path_side_channel) (λ f. rw (e, f)) (λ f.
    by_bool (eqb path path_multi_segment) (λ g. rw (e, f, g)) (λ g.
    by_bool (eqb path path_orthogonal) (λ h. rw (e, f, g, h)) (λ h. rw (e, f, g, h)))))

-- an element's index
index_agrees : (kd : ElementKind) (n nodes edges subgraphs : ℕ) → ltb n (thing_count nodes edges subgraphs kd) ≡ keeps (index_rule kd nodes edges subgraphs) n
unfolding index_rule keeps
index_agrees thing.Node n nodes edges subgraphs = refl
index_agrees thing.Edge n nodes edges subgraphs = refl
index_agrees thing.Subgraph n nodes edges subgraphs = refl

-- what the rules word by word say of a record's words
abbrev pub each_kept : RecordKind → Tables → (ℕ → ℕ) → ℕ → List Bool
each_kept kd ts w size = map (λ i. keeps (word_rule kd ts w i) (w i)) (numbers 0 size)

-- They are the rules of code 4, for a record of any kind.
pub rules_agree : (kd : RecordKind) (ts : Tables) (w : ℕ → ℕ) → record_rules kd ts w ≡ each_kept kd ts w (length (record_rules kd ts w))
unfolding node_rules edge_rules subgraph_rules placed_label_rules element_rules point_rules glyph_rules range_rules keeps word_rule node_rule edge_rule subgraph_rule placed_label_rule element_rule range_rule numbers
rules_agree kind.Node ts w = by_bool (flag (w node_flags) self_loop) (λ e. rw e) (λ e. rw e)
rules_agree kind.Edge ts w =
    rw (path_agrees ts.points.count (path_number (w edge_flags)) (w edge_a) (w edge_b) (w edge_c))
    (by_bool (flag (w edge_flags) label_present) (λ e. rw e) (λ e. rw e))
rules_agree kind.Subgraph ts w = refl
rules_agree kind.PlacedLabel ts w = refl
rules_agree kind.Element ts w = rw (index_agrees (element_kind_of (w element_kind)) (w 1) ts.nodes.count ts.edges.count ts.subgraphs.count)
rules_agree kind.Point ts w = refl
rules_agree kind.Glyph ts w = refl
rules_agree kind.Range ts w = refl

-- Flags keep their rule exactly when no part of them is at fault.

least : (a b : ℕ) → leb a b ≡ not (ltb b a)
least a b = by_order b a (λ p. rw (lt-ltb b a p, lt-leb a b p)) (λ p. rw (le-ltb b a p, le-leb a b p))

some_weight : (n : ℕ) → ltb 0 n ≡ not (eqb n 0)
some_weight n =
    by_order 0 n (λ p. rw (lt-ltb 0 n p, ne_eqb n 0 (λ e. omega arith))) (λ p. rw (le-ltb 0 n p, eq-eqb n 0 (omega arith)))

none_of : (a b c : Bool) → not a && (not b && c) ≡ not (a || (b || not c))
none_of true b c = refl
none_of false true c = refl
none_of false false true = refl
none_of false false false = refl

pub flags_told : (flags : ℕ) → edge_flags_good flags ≡ not (faulty (flag_faults flags))
flags_told flags =
    rw (least (path_number flags) path_spline, some_weight (weight_number flags))
    (none_of (ltb path_spline (path_number flags)) (eqb (weight_number flags) 0) (clear flags edge_spare))

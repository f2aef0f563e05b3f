-- Which parts of an edge's flags break their rule: "path 3 bits (0 Direct, .., 5 Spline) .. weight 2 (1 Dashed, 2 Light, 3 Double)", "spare bits are 0".
use Rattle.std.specs.Prelude.{ℕ, ◌%◌, Bool, not, ◌||◌, eqb, ltb}
use Rattle.layout.specs.Layout.{path_spline, edge_spare}
use Rattle.edge_rules.specs.Edge.{path_number, weight_number}
use Rattle.word_rules.specs.declared.FlagFaults.{FlagFaults}

abbrev pub flag_faults : ℕ → FlagFaults
flag_faults flags = record {
  path = ltb path_spline (path_number flags);
  weight = eqb (weight_number flags) 0;
  spare = flags % edge_spare;
}

-- some part does
abbrev pub faulty : FlagFaults → Bool
faulty faults = faults.path || (faults.weight || not (eqb faults.spare 0))

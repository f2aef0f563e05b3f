-- The proof table's images and the example of `sheetcells`, by computing.
use mathlib.Core.Path.{refl}
use Rattle.ground.specs.Each.{numbers, each}
use Rattle.ground.specs.Turns.{turns}
use Rattle.cell.specs.OneCell.{pack_arms, pack_marker, pack, read_text, read, stroked, marked, painted_stroke, painted_marker, painted_text}
use Rattle.cell.proofs.Theorems.{proof_table_cell}
use Rattle.glyph.specs.Width.{bisect, width_of}
use Rattle.canvas.specs.Row.{is_wide_lead, is_continuation, empty_continuation, blank_lead, put, stroke_row, marker_row, letter_row, wide_row, text_row}
use Rattle.canvas.proofs.Theorems.{proof_table_row}
use Rattle.layout.specs.Tables.{tables_of}
use Rattle.image.specs.Records.{header_of, node_kind_of, self_loop_of, node_at, path_of, edge_at}
use Rattle.image.specs.Spans.{span_words}
use Rattle.flow.specs.Flow.{along, head_at, start_head, end_head, line_of, corner_bend}
use Rattle.flow.specs.Pieces.{piece_spots}
use Rattle.y_flow.specs.YFlow.{direct_y, cross_run_y, cross_first_y, cross_last_y, trunk_y, own_start_y, tail_y, bent_y, corner_y, straight_line_y, straight_y, corner_row, crossing_y, leg_y}
use Rattle.orthogonal.specs.Points.{path_point}
use Rattle.path.specs.Pieces.{direct_on, corner_on, leg_on, leg_between, leg_at, multi_pieces, pieces_of, edge_spots}
use Rattle.frame.specs.Nodes.{look_of, text_until, look_spots}
use Rattle.window.specs.Writes.{ink_on, ink_cells, row_after, ink_row}
use Rattle.runs.specs.Runs.{covers, over_column, ink_column, flush_cells, flush_row}
use Rattle.runs.specs.Pieces.{piece_runs}
use Rattle.picture.specs.Writes.{edge_writes, runs_of_edge, node_writes}
use Rattle.picture.specs.Picture.{row_painted, picture_cells}
use Rattle.picture.specs.ProofTable.{ProofTable, ExampleA}

pub table : ProofTable
unfolding numbers each turns pack_arms pack_marker pack read stroked marked painted_stroke painted_marker is_wide_lead is_continuation empty_continuation blank_lead put stroke_row marker_row tables_of path_of edge_at span_words along head_at start_head end_head line_of corner_bend piece_spots direct_y cross_run_y cross_first_y cross_last_y trunk_y own_start_y tail_y bent_y corner_y straight_line_y straight_y corner_row crossing_y leg_y path_point direct_on corner_on leg_on leg_between leg_at multi_pieces pieces_of edge_spots ink_on ink_cells row_after ink_row covers over_column ink_column flush_cells flush_row piece_runs edge_writes runs_of_edge row_painted
table = record { cell = proof_table_cell; row = proof_table_row; p7 = refl; p8 = refl; p9 = refl; p10 = refl }

pub example : ExampleA
unfolding numbers each turns pack read_text read painted_text bisect width_of is_wide_lead is_continuation empty_continuation blank_lead put letter_row wide_row text_row tables_of header_of node_kind_of self_loop_of node_at span_words look_of text_until look_spots ink_on ink_cells row_after ink_row covers over_column ink_column flush_cells flush_row node_writes row_painted picture_cells
example = refl

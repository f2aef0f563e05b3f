-- For the proofs alone: the parts by which a record and a span are read.
use Rattle.std.specs.Prelude.{ℕ, ◌+◌, ◌-◌, ◌≤◌, List, ◌≡◌, length, take, drop}
use Rattle.cell.specs.OneCell.{weight_of}
use Rattle.layout.specs.Layout.{flow_x, reversed, start_marker, end_marker, weight_step, weights}
use Rattle.layout.specs.declared.Table.{Table}
use Rattle.layout.specs.Tables.{bits, flag, field}
use Rattle.image.specs.declared.Style.{Style}
use Rattle.image.specs.declared.Span.{Span}
use Rattle.image.specs.declared.Bounds.{Bounds}
use Rattle.image.specs.Records.{axis_of}
use Rattle.image.specs.Spans.{span_words}

unfoldable pub four_at : List ℕ → Table → ℕ → ℕ → ℕ × ℕ × ℕ × ℕ
four_at image table k from =
    (field image table k from, field image table k (from + 1), field image table k (from + 2), field image table k (from + 3))

unfoldable pub style_of : ℕ → Style
style_of flags = record {
  flow_axis = axis_of (flag flags flow_x);
  reversed = flag flags reversed;
  start_marker = flag flags start_marker;
  end_marker = flag flags end_marker;
  weight = weight_of (bits flags weight_step weights);
}

-- the bounds of a span's words in an image of so many words
pub record Bounded (table : Table) (span : Span) (size : ℕ) (bounds : Bounds) : Type 0 where
  pub ordered : bounds.first ≤ bounds.end
  pub inside : bounds.end ≤ size
  pub words :
      (image : List ℕ) → length image ≡ size →
      take (bounds.end - bounds.first) (drop bounds.first image) ≡ span_words image table span

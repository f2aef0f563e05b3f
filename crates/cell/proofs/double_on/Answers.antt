-- `double_on` lays a stroke with a Double arm on text or a marker: an Arrow becomes a stem and merges, all others are replaced.
use Rattle.cell.specs.OneCell.{double_on_marker}
use Rattle.cell.specs.Computed.{double_on}
use Rattle.cell.proofs.Laws.{other_kind, no_marker}
use Rattle.cell.proofs.double_on.Goals as goal

pub returns-in-Arrow : goal.returns-in-Arrow
unfolding double_on double_on_marker
returns-in-Arrow c = rw (c.in-Marker.is, c.in-Arrow.is, c.max.ensures, c.stem.ensures)

pub returns-in_default-kind : goal.returns-in_default-kind
returns-in_default-kind c = other_kind _ _ _ _ _ c.in_default-kind.not-Arrow c.in-Marker.is

pub returns-in_default : goal.returns-in_default
returns-in_default c = no_marker _ _ c.in_default.not-Marker

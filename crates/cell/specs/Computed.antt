-- For the proofs alone: how the code lays a stroke that has a Double arm on what a stroke does not merge with.
use Rattle.cell.specs.declared.Arms.{Arms}
use Rattle.cell.specs.declared.Parts.{Parts}
use Rattle.cell.specs.declared.Parts.TheVariants.{Empty, Text, Continuation, Stroke, Marker}
use Rattle.cell.specs.OneCell.{double_on_marker}

-- all but a marker are replaced; `stroked` asks it of text and markers alone
unfoldable pub double_on : Parts → Arms → Parts
double_on Empty new = Stroke new
double_on (Text ch) new = Stroke new
double_on Continuation new = Stroke new
double_on (Stroke old) new = Stroke new
double_on (Marker kind dir dashed) new = double_on_marker new kind dir

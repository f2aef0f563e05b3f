-- Code 8, half by half: "first row > last row, or first row below the previous element's".
use Rattle.std.specs.Prelude.{ℕ, ◌-◌, ◌&&◌, List, ltb}
use Rattle.layout.specs.declared.Tables.{Tables}
use Rattle.elements.specs.Elements.{first_row, last_row}
use Rattle.finding.specs.declared.OrderFaults.{OrderFaults}

unfoldable pub order_faults : List ℕ → Tables → ℕ → OrderFaults
order_faults image ts k = record {
  before = first_row image ts (k - 1);
  turned = ltb (last_row image ts k) (first_row image ts k);
  early = ltb 0 k && ltb (first_row image ts k) (first_row image ts (k - 1));
}

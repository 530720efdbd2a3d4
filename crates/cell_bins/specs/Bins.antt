-- One bin of a cell.
use Rattle.std.specs.Prelude.{◌≡◌, ℕ, ◌*◌, ◌<◌}
use Rattle.lta_spec.specs.Call.{bin_index}

-- r is the place in a cell's list of the bin that a bank and a data bin name
pub record Numbers (bins bank bin r : ℕ) : Type 0 where
  pub is : r ≡ bin_index bins bank bin
  pub below : r < 2 * bins

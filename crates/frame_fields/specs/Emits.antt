-- What the frame of a row wants of the shape, of its kind, of the names of its bin, of its stamp and of its words.
use Rattle.std.specs.Prelude.{ℕ, ◌<◌, ◌≤◌, ◌≡◌, true, List, length}
use Rattle.lta_spec.specs.Shape.{shape_ok, run_limit, bin_limit}
use Rattle.lta_spec.specs.Size.{row_words}
use Rattle.lta_spec.specs.Frame.{kind_ok}
use Rattle.lta_spec.specs.Row.{ticks_of, edge_of, centre_of, row_ok}
use Rattle.lta_spec.specs.Call.{emitted_fields}
use Rattle.lta_spec.specs.declared.Shape.{Shape}
use Rattle.lta_spec.specs.declared.Fields.{Fields}

pub record Emits (s : Shape) (kind cell bank bin stamp : ℕ) (row : List ℕ) : Type 0 where
  pub shaped : shape_ok s ≡ true
  pub known : kind_ok kind ≡ true
  pub celled : cell < s.cells
  pub banked : bank < 2
  pub binned : bin < s.bins
  pub sized : length row ≡ row_words s.lags
  pub limited : row_ok bin_limit row ≡ true
  pub stamped : stamp ≤ run_limit

-- the fields of the frame of a row
abbrev pub fields_from : Shape → (kind cell bank bin stamp : ℕ) → (row : List ℕ) → Fields
fields_from s kind cell bank bin stamp row =
    emitted_fields s kind cell bank bin stamp (ticks_of row) (edge_of row) (centre_of row)

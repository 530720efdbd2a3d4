-- What a dump or an integration leaves of a cell's words.
use Rattle.std.specs.Prelude.{◌≡◌, List, ℕ}
use Rattle.lta_spec.specs.Place.{Label, Result}
use Rattle.lta_spec.specs.Engine.{Row, Unit}
use Rattle.lta_spec.specs.Memory.{unit_layout}
use Rattle.lta_spec.specs.Answer.{moved_number}
use Rattle.lta_spec.specs.declared.Moved.{Moved}
use Rattle.cell_layout.specs.Lays.{Lays}
use Rattle.cell_layout.specs.Cells.{with_places}

abbrev pub label_of : (command bank bin : ℕ) → Label
label_of command bank bin = record { command = command; bank = bank; bin = bin }

-- the answer m is the number of the result x, and the words l are cell u with the places of x
pub record Leaves (n bins : ℕ) (u : Unit) (x : Result Row) (m : Moved) (l : List ℕ) : Type 0 where
  pub answer : moved_number m ≡ x.answer
  pub words : Lays (unit_layout n bins) l (with_places u x.cell)

-- A cell by its declared types: what the words of a Cell are, and the words of a cell of some shape.
use Rattle.std.specs.Prelude.{◌≡◌, List, ℕ, length}
use Rattle.lta_spec.specs.Size.{cell_words}
use Rattle.lta_spec.specs.Place as P
use Rattle.lta_spec.specs.Engine.{Row, Unit}
use Rattle.cell_layout.specs.declared.cell.Cell.{Cell}
use Rattle.cell_layout.specs.declared.shape.CellShape.{CellShape}
use Rattle.cell_layout.specs.Cells.{unit_of, places_of}

-- what the words of c are
abbrev pub unit_in : Cell → Unit
unit_in c = unit_of c.shape.lags c.shape.bins c.words.now

abbrev pub places_in : Cell → P.Cell Row
places_in c = places_of c.shape.lags c.shape.bins c.words.now

-- the words l are as many as a cell of shape s has
abbrev pub IsCell : CellShape → List ℕ → Type 0
IsCell s l = length l ≡ cell_words s.lags s.bins

-- what they are
abbrev pub unit_by : CellShape → List ℕ → Unit
unit_by s l = unit_of s.lags s.bins l

abbrev pub places_by : CellShape → List ℕ → P.Cell Row
places_by s l = places_of s.lags s.bins l

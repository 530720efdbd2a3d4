-- What a dump that is not refused makes of a cell.
use Rattle.std.specs.Prelude.{List, ℕ}
use Rattle.lta_spec.specs.Place.{Label, Result}
use Rattle.lta_spec.specs.Engine.{Row, Counter, Unit, counted, dump_label, dump_cell}
use Rattle.lta_spec.specs.declared.Moved.{Moved}
use Rattle.cell_layout.specs.Cells.{with_counter}
use Rattle.cell_layout.specs.Moves.{Leaves}

-- the block counter, the label with its block, and the places
abbrev pub counted_by : (blocks command : ℕ) → Unit → Counter
counted_by blocks command u = counted blocks command u.counter

abbrev pub dumped_by : (blocks command bank phase : ℕ) → Unit → Label
dumped_by blocks command bank phase u =
    dump_label blocks command bank phase (counted_by blocks command u).offset

abbrev pub placed_by : (n blocks t command bank phase : ℕ) → Unit → Result Row
placed_by n blocks t command bank phase u = dump_cell n (dumped_by blocks command bank phase u) t u.cell

-- the answer m and the words l that a dump of cell u leaves
abbrev pub Dumped : (n bins blocks t command bank phase : ℕ) → Unit → Moved → List ℕ → Type 0
Dumped n bins blocks t command bank phase u m l =
    Leaves n bins (with_counter u (counted_by blocks command u)) (placed_by n blocks t command bank phase u) m l

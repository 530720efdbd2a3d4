-- What a dump leaves of a cell's block counter.
use Rattle.std.specs.Prelude.{◌≡◌, List, ℕ}
use Rattle.lta_spec.specs.Engine.{Counter, counted}
use Rattle.lta_spec.specs.Memory.{unit_layout}
use Rattle.cell_layout.specs.Lays.{Lays}
use Rattle.cell_layout.specs.Cells.{unit_of, with_counter}

abbrev pub counter_of : (offset code : ℕ) → Counter
counter_of offset code = record { offset = offset; last_code = code }

-- the words m are the cell of words l with its counter moved by the command, and r is the offset of its block
pub record Counts (n bins blocks command : ℕ) (l m : List ℕ) (r : ℕ) : Type 0 where
  pub offset : r ≡ (counted blocks command (unit_of n bins l).counter).offset
  pub words : Lays (unit_layout n bins) m
      (with_counter (unit_of n bins l) (counted blocks command (unit_of n bins l).counter))

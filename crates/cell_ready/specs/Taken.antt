-- What an emission leaves of a cell.
use Rattle.std.specs.Prelude.{ℕ}
use Rattle.lta_spec.specs.Engine.{Unit, empty_bin, lowered}
use Rattle.cell_layout.specs.Cells.{with_places, with_picks}

-- bin k is Free and empty, and there is one Ready bin less
abbrev pub taken : (n k : ℕ) → Unit → Unit
taken n k u = with_picks (with_places u (empty_bin n k u.cell)) (lowered u.picks)

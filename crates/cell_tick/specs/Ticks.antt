-- A cell in a tick: when it may go on, and what it leaves.
use Rattle.std.specs.Prelude.{◌≡◌, Bool, true, cond, List, ℕ}
use Rattle.lta_spec.specs.Place.{holdoff}
use Rattle.lta_spec.specs.Engine.{Unit, has_room, tick_unit}
use Rattle.lta_spec.specs.Damage.{tick_sound}
use Rattle.lta_spec.specs.Memory.{unit_layout}
use Rattle.cell_layout.specs.Lays.{Lays}
use Rattle.cell_layout.specs.Offsets.{open_row_at, loss_row_at}

-- the tests of a tick passed, at whatever t
pub record Sound (n : ℕ) (u : Unit) : Type 0 where
  pub t : ℕ
  pub sound : tick_sound n t u ≡ true

-- the row that a tick is added to: Open's where it has room, else that of loss 6
abbrev pub row_for : (n : ℕ) (room : Bool) → ℕ
row_for n room = cond room open_row_at (loss_row_at n holdoff)

-- r is 1 where the cell is held off and else 0, and the words l are cell u after the tick
pub record Ticked (n bins x y : ℕ) (u : Unit) (r : ℕ) (l : List ℕ) : Type 0 where
  pub held-off : r ≡ cond (has_room n u.cell) 0 1
  pub words : Lays (unit_layout n bins) l (tick_unit n x y u)

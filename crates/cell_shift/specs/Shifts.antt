-- A cell whose registers move.
use Rattle.std.specs.Prelude.{ℕ}
use Rattle.lta_spec.specs.Engine.{Unit, shifted}

-- the registers move, the places stay
abbrev pub moved : (n x y : ℕ) → Unit → Unit
moved n x y u =
    record {
      cell = u.cell;
      counter = u.counter;
      picks = u.picks;
      xs = shifted n x u.xs;
      ys = shifted n y u.ys;
    }

-- When an integration may go on, and what it makes of the Ready number.
use Rattle.std.specs.Prelude.{◌≡◌, true, cond, ℕ}
use Rattle.lta_spec.specs.Place.{Cell}
use Rattle.lta_spec.specs.Engine.{Row, Unit, bin_at, held_bin, is_raising, raised}
use Rattle.lta_spec.specs.Damage.{integrate_unit_sound}
use Rattle.cell_layout.specs.Cells.{with_picks}

-- the tests of an integration passed, at whatever t, and Held is occupied
pub record IntegratesUnit (n bins : ℕ) (u : Unit) : Type 0 where
  pub t : ℕ
  pub sound : integrate_unit_sound n bins t u ≡ true
  pub occupied : u.cell.held.occupied ≡ 1

-- how many Ready bins more there are
abbrev pub more_ready : (n bins : ℕ) → Cell Row → ℕ
more_ready n bins c = cond (is_raising n (bin_at n (held_bin n bins c) c) c) 1 0

-- the cell with the number behind the integration
abbrev pub numbered : (n bins : ℕ) → Unit → Unit
numbered n bins u = with_picks u (raised n bins u.cell u.picks)

-- When an integration may go on.
use Rattle.std.specs.Prelude.{◌≡◌, true, ℕ}
use Rattle.lta_spec.specs.Place.{Cell}
use Rattle.lta_spec.specs.Engine.{Row}
use Rattle.lta_spec.specs.Damage.{integrate_sound}

-- the tests of an integration passed, at whatever t, and Held is occupied
pub record Integrates (n bins : ℕ) (c : Cell Row) : Type 0 where
  pub t : ℕ
  pub sound : integrate_sound n bins t c ≡ true
  pub occupied : c.held.occupied ≡ 1

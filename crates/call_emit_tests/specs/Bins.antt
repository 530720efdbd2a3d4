-- A bin that there is.
use Rattle.std.specs.Prelude.{ℕ, ◌<◌}
use Rattle.lta_spec.specs.declared.Shape.{Shape}

-- 7 does not apply
pub record Named (s : Shape) (bank bin : ℕ) : Type 0 where
  pub banked : bank < 2
  pub numbered : bin < s.bins

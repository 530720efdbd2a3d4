-- The loss that an integration into a bin adds to.
use Rattle.std.specs.Prelude.{Bool, ℕ, eqb}
use Rattle.lta_spec.specs.Place.{Cell, ready}
use Rattle.lta_spec.specs.Engine.{Row, bin_at, is_replacing, is_too_wide}
use Rattle.lta_spec.specs.Damage.{integrate_holds}

-- room in the loss that an integration into bin k adds to
abbrev pub bin_holds : (n k : ℕ) → Cell Row → Bool
bin_holds n k c =
    let b = bin_at n k c in integrate_holds n (eqb b.state ready) (is_replacing n b c) (is_too_wide n b c) b c

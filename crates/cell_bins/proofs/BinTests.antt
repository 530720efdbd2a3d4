-- The place of a bin, and a test as a word.
use mathlib.Core.Path.{◌≡◌, refl}
use mathlib.Core.Bool.{Bool, true, false, cond}
use Prim.Native.Nat.{ℕ, ◌+◌, ◌*◌, ◌<◌, ◌≤◌}
use native.Mathlib.Nat.{mul-le-mul_right}
use native.Mathlib.Omega.{arith}
use mir.Val.{bool_byte}
use Rattle.cell_bins.specs.Bins.{Numbers}

pub numbers : (bank bin bins : ℕ) → bank < 2 → bin < bins → Numbers bins bank bin (bank * bins + bin)
numbers bank bin bins h k =
    let m : bank * bins ≤ 1 * bins = mul-le-mul_right bins (omega arith) in
    record { is = refl; below = omega arith }

pub bit : (t : Bool) → bool_byte t ≡ cond t 1 0
bit true = refl
bit false = refl

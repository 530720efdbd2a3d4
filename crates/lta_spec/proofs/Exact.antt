-- "exactly converted numbers": the float that a lag's sum or a count becomes gives the number back.
use mathlib.Core.Path.{◌≡◌}
use Prim.Native.Nat.{ℕ, ◌<◌}
use native.Mathlib.Omega.{arith}
use lib.Dec.{le→leb, lt→ltb}
use lib.IntN.{ℤ, pos, negsuc}
use lib.Ieee.{binary64, of_int, in_float, to_signed, to_unsigned}
use lib.Ieee.Back.{unsigned_back, positive_back, negative_back}
use mir.Syntax.{w32}
use mir.Val.{SFits}
use Rattle.lta_spec.specs.Bytes.{word_range}

pub sum-exact : (z : ℤ) → SFits w32 z → to_signed 31 (of_int binary64 z) ≡ z
unfolding in_float
sum-exact (pos n) h =
    (positive_back binary64 31 n (le→leb n 9007199254740992 (omega (arith, h.sfits))) h.sfits).1
sum-exact (negsuc n) h =
    (negative_back binary64 31 n (lt→ltb n 9007199254740992 (omega (arith, h.sfits))) h.sfits).1

pub count-exact : (c : ℕ) → c < word_range → to_unsigned 32 (of_int binary64 (pos c)) ≡ c
unfolding in_float
count-exact c h = (unsigned_back binary64 32 c (le→leb c 9007199254740992 (omega arith)) h).1

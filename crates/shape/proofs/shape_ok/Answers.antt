-- `shape::shape_ok` meets its contract: the tests of the definition, with the sum of S and M capped.
use Rattle.std.proofs.Common.{◌≡◌, ℕ, ◌+◌, ◌-◌, ◌^◌, Bool, true, false, min, leb, refl, arith, le-leb, leb-true, leb-false}
use mathlib.Core.Bool.{and_assoc, and-true}
use borrow.Author.Tests.{lt-leb}
use Rattle.lta_spec.specs.Shape.{shape_ok}
use Rattle.shape.proofs.shape_ok.Goals as goal

capped : (n : ℕ) → leb (min n (2 ^ 64 - 1)) 256 ≡ leb n 256
capped n = by-test (leb n 256) refl
  where
    by-test : (t : Bool) → leb n 256 ≡ t → leb (min n (2 ^ 64 - 1)) 256 ≡ t
    by-test true e = le-leb (min n (2 ^ 64 - 1)) 256 (omega (arith, leb-true n 256 e))
    by-test false e = lt-leb (min n (2 ^ 64 - 1)) 256 (omega (arith, leb-false n 256 e))

pub returns : goal.returns
unfolding shape_ok
returns c =
    let s = c.args.s in
    rw (c.lag_count_ok.ensures, c.saturating_add.ensures, capped (s.start + s.blocks)) (simp (and_assoc, and-true))

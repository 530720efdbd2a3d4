-- Bank 0's bins stand before bank 1's.
use Prim.Native.Nat.{◌+◌, ◌*◌}
use native.Mathlib.Omega.{arith}
use Rattle.cell_bins.specs.Bins.{Numbers}
use Rattle.cell_bins.proofs.BinTests.{numbers}
use Rattle.cell_bins.proofs.bin_number.Goals as goal
use Rattle.cell_bins.proofs.bin_number.Goals.{Start}

number : (c : Start) → let a = c.args in
    Numbers a.shape.bins a.bank a.bin (a.bank * a.shape.bins + a.bin)
number c = numbers c.args.bank c.args.bin c.args.shape.bins c.requires.0 c.requires.1

pub overflow_mul-result : goal.overflow_mul-result
overflow_mul-result c = omega (arith, number (goal.at.overflow_mul-result c).Start, c.args.shape.few_bins)

pub overflow_add-result : goal.overflow_add-result
overflow_add-result c = omega (arith, number (goal.at.overflow_add-result c).Start, c.args.shape.few_bins)

pub returns : goal.returns
returns c = number (goal.at.returns c).Start

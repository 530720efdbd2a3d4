-- The run's place, and then the cell's.
use Prim.Native.Nat.{◌-◌}
use native.Mathlib.Omega.{arith}
use lib.ListN.{length, length-set}
use Rattle.call_run.proofs.RunLaws.{shape-ok, length-is}
use Rattle.call_pick.proofs.PickRunLaws.{lays-pointed}
use Rattle.call_pick.proofs.point.Goals as goal

pub invariant_of-run : goal.invariant_of-run
invariant_of-run c =
    let h = c.requires.0.hosted in record { shaped = shape-ok _ _ h; whole = length-is _ _ h }

pub bounds-mem-at : goal.bounds-mem-at
bounds-mem-at c =
    let mem = c.args.mem.now in
    omega (arith, c.cell_start-at.ensures, length-set mem (length mem - 1) c.place_after.result)

pub returns : goal.returns
returns c =
    let a = c.args in
    lays-pointed a.s a.mem.now a.c a.k c.requires.0 c.cell_start-at.ensures.is
    c.place_after.ensures c.place_after-2.ensures

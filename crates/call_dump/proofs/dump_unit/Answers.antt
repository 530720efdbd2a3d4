-- The block counter's step, then a dump by the label with its block.
use native.Mathlib.Omega.{arith}
use Prim.Native.Nat.{◌+◌, ◌*◌, ◌<◌}
use Rattle.cell_layout.proofs.ViewLaws.{fits_by}
use Rattle.cell_block.proofs.CounterLaws.{still-fits}
use Rattle.lta_spec.proofs.Passed.{dump-tested}
use Rattle.call_dump.proofs.Counted.{still-sound, dumped}
use Rattle.call_dump.proofs.dump_unit.Goals as goal
use Rattle.call_dump.proofs.dump_unit.Goals.{After-slice_known-2-1}

-- the data bin is one of few
numbered : (c : After-slice_known-2-1) → let a = c.args in
    a.phase * a.blocks + c.count_block-offset.result < 1000
numbered c =
    omega (arith, c.requires.1.1, c.args.shape.few_bins, c.count_block-offset.ensures.offset)

pub count_block-offset-requires : goal.count_block-offset-requires
count_block-offset-requires c =
    let a = c.args in
    (c.requires.0, (dump-tested a.shape.lags a.shape.bins a.blocks a.t a.command _ c.requires.1.0).0)

pub overflow_mul-bin : goal.overflow_mul-bin
overflow_mul-bin c = omega (arith, numbered (goal.at.overflow_mul-bin c).After-slice_known-2-1)

pub overflow_add-bin : goal.overflow_add-bin
overflow_add-bin c = omega (arith, numbered (goal.at.overflow_add-bin c).After-slice_known-2-1)

pub dump_cell-requires : goal.dump_cell-requires
dump_cell-requires c =
    let a = c.args in
    let k = c.count_block-offset.ensures in (
      (still-fits (fits_by a.shape c.requires.0.0) k).size,
      still-sound (fits_by a.shape c.requires.0.0) k a.t
          (dump-tested a.shape.lags a.shape.bins a.blocks a.t a.command _ c.requires.1.0).1,
    )

pub returns : goal.returns
returns c =
    let a = c.args in
    dumped (fits_by a.shape c.requires.0.0) c.count_block-offset.ensures a.t a.bank
    a.phase _ _ c.dump_cell.ensures

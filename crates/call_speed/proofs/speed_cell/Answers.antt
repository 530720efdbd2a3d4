-- The block counter's step, the frame of Open under its block, and Open emptied.
use mathlib.Core.Path.{ap, ◌∙◌}
use Prim.Native.Nat.{◌+◌, ◌*◌, ◌<◌}
use native.Mathlib.Omega.{arith}
use Rattle.lta_spec.specs.Words.{splice}
use Rattle.lta_spec.specs.Call.{speed}
use Rattle.cell_layout.specs.Cells.{Fits}
use Rattle.cell_layout.proofs.ViewLaws.{fits_by}
use Rattle.cell_block.specs.Counting.{Counts}
use Rattle.call_speed.proofs.SpeedLaws.{counter-sound, open-emits, frame_is, unit-sent}
use Rattle.call_speed.proofs.speed_cell.Goals as goal
use Rattle.call_speed.proofs.speed_cell.Goals.{Start, After-count_block-offset}

-- the words of the cell, and its block counter's step
fits : (c : Start) → Fits c.args.cell.now c.args.s.lags c.args.s.bins
fits c =
    let k = c.requires.alike in rw (k.0, k.1) at (fits_by c.args.shape c.requires.sends.0)

counts : (c : After-count_block-offset) → let a = c.args in
    Counts a.s.lags a.s.bins a.s.blocks speed a.cell.now c.count_block-offset.new.cell c.count_block-offset.result
counts c = let k = c.requires.alike in rw (k.0, k.1) at c.count_block-offset.ensures

-- the data bin is one of few
numbered : (c : After-count_block-offset)
    → let a = c.args in
    a.phase * a.s.blocks + c.count_block-offset.result < 1000
numbered c =
    let f = fits (goal.at.After-count_block-offset c).Start in
    omega (arith, c.requires.sends.1.binned, f.bins, (counts c).offset)

pub count_block-offset-requires : goal.count_block-offset-requires
count_block-offset-requires c =
    let k = c.requires.alike in
    ((c.requires.sends.0, omega arith), rw (k.0, k.1) (counter-sound c.requires.sends.1))

pub overflow_mul-bin : goal.overflow_mul-bin
overflow_mul-bin c = omega (arith, numbered (goal.at.overflow_mul-bin c).After-count_block-offset)

pub overflow_add-bin : goal.overflow_add-bin
overflow_add-bin c = omega (arith, numbered (goal.at.overflow_add-bin c).After-count_block-offset)

pub put_frame-requires : goal.put_frame-requires
put_frame-requires c =
    let at = goal.at.put_frame-requires c in
    let held = rw c.requires.alike.0 at c.held_row-e.ensures.is in
    (open-emits (fits at.Start) c.requires.sends.1 (counts at.After-count_block-offset) held, c.requires.sends.1.room)

pub returns : goal.returns
returns c =
    let at = goal.at.returns c in
    let k = c.requires.alike in
    let f = fits at.Start in
    let n = counts at.After-count_block-offset in
    let held = rw k.0 at c.held_row-e.ensures.is in
    record {
      frame = c.put_frame.ensures ∙ ap (splice c.args.out.now 0) (frame_is f c.requires.sends.1 n held);
      leaves = unit-sent f c.requires.sends.1 n _ (rw (k.0, k.1) at c.send_open.ensures);
    }

-- The frame is written, and the bin freed.
use Rattle.call_run.proofs.RunLaws.{shape-ok, length-is}
use Rattle.call_emit.proofs.emit_bin.Goals as goal

pub invariant_of-run : goal.invariant_of-run
invariant_of-run c =
    let h = c.requires.cell.hosted in record { shaped = shape-ok _ _ h; whole = length-is _ _ h }

pub frame_from-requires : goal.frame_from-requires
frame_from-requires c = c.requires

pub free_bin-requires : goal.free_bin-requires
free_bin-requires c = let q = c.requires in ((q.cell, q.named), q.some)

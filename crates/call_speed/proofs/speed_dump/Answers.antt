-- The words of the cell are lent, and come back with Open emptied.
use Rattle.lta_spec.specs.Step as S
use Rattle.lta_spec.proofs.MemoryLaws.{run-law}
use Rattle.cell_layout.proofs.LaysLaws.{lays-put}
use Rattle.call_run.proofs.RunLaws.{shape-ok, length-is}
use Rattle.call_run.proofs.LoanLaws.{loan-is, loan-unit}
use Rattle.call_speed.proofs.speed_dump.Goals as goal

pub invariant_of-run : goal.invariant_of-run
invariant_of-run c =
    let h = c.requires.cell.hosted in record { shaped = shape-ok _ _ h; whole = length-is _ _ h }

pub cell_start-at-requires : goal.cell_start-at-requires
cell_start-at-requires c = c.requires.cell.there

pub speed_cell-requires : goal.speed_cell-requires
speed_cell-requires c =
    let k = c.cell_shape-shape.ensures in
    let l = loan-is c.requires.cell c.cell_start-at.ensures.is c.cell_words.ensures in
    record { alike = k; sends = (rw (k.0, k.1) l.size, rw (l.unit, c.time-t.ensures) c.requires.sends) }

pub returns : goal.returns
unfolding S.accepted S.dumps_by S.sends S.with_unit
returns c =
    let a = c.args in
    let at = c.cell_start-at.ensures.is in
    let size = c.cell_words.ensures in
    let l = loan-is c.requires.cell at size in record {
      frame = rw l.unit at c.speed_cell.ensures.frame;
      leaves = lays-put (run-law a.s)
          (loan-unit c.requires.cell at size _ _ (rw (l.unit, c.time-t.ensures) at c.speed_cell.ensures.leaves));
    }

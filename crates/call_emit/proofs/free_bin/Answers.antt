-- `call_emit::free_bin` meets its contract.
use mathlib.Core.Path.{ap₂}
use Rattle.cell_layout.proofs.LaysLaws.{lays-to}
use Rattle.cell_ready.specs.Taken.{taken}
use Rattle.call_run.proofs.RunLaws.{shape-ok, length-is}
use Rattle.call_run.proofs.LoanLaws.{loan-is, loan-unit}
use Rattle.call_emit.proofs.free_bin.Goals as goal

pub invariant_of-run : goal.invariant_of-run
invariant_of-run c =
    let h = c.requires.0.0.hosted in record { shaped = shape-ok _ _ h; whole = length-is _ _ h }

pub take_bin-requires : goal.take_bin-requires
take_bin-requires c =
    let k = c.cell_shape-shape.ensures in
    let l = loan-is c.requires.0.0 c.cell_start-at.ensures.is c.cell_words.ensures in
    let below = rw k.1 at c.bin_number-k.ensures.below in
    rw (k.0, k.1) ((l.size, below), rw l.unit c.requires.1)

pub returns : goal.returns
returns c =
    let n = c.args.s.lags in
    let s = c.cell_shape-shape.ensures in
    let at = c.cell_start-at.ensures.is in
    let words = c.cell_words.ensures in
    let k = rw s.1 at c.bin_number-k.ensures.is in
    let unit = (loan-is c.requires.0.0 at words).unit in
    loan-unit c.requires.0.0 at words _ _
    (lays-to (rw (s.0, s.1) at c.take_bin.ensures) (ap₂ (taken n) k unit))

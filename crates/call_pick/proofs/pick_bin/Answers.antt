-- The bin is found, its emission made, and the places moved.
use mathlib.Core.Path.{◌∙◌}
use Rattle.call_run.specs.Runs.{run_of}
use Rattle.call_run.proofs.RunLaws.{shape-ok, length-is}
use Rattle.call_pick_tests.proofs.ReadyTestLaws.{cell_below}
use Rattle.call_pick.proofs.PickRunLaws.{Chosen, chosen-emits, chosen-below, chosen-frame, still-celled}
use Rattle.call_pick.proofs.PickRunLaws.{chosen-leaves}
use Rattle.call_pick.proofs.pick_bin.Goals as goal
use Rattle.call_pick.proofs.pick_bin.Goals.{After-data_bin_of-bin}

-- what is found
chosen : (c : After-data_bin_of-bin) → let a = c.args in
    Chosen a.s a.mem.now c.picked_cell-c.result c.bin_of-k.result c.bank_of-bank.result
    c.data_bin_of-bin.result
chosen c =
    record {
      cell = c.picked_cell-c.ensures;
      place = c.bin_of-k.ensures;
      in_bank = c.bank_of-bank.ensures;
      in_bin = c.data_bin_of-bin.ensures;
    }

pub invariant_of-run : goal.invariant_of-run
invariant_of-run c =
    let h = c.requires.hosted in record { shaped = shape-ok _ _ h; whole = length-is _ _ h }

pub bin_of-k-requires : goal.bin_of-k-requires
bin_of-k-requires c =
    let q = c.requires in
    rw c.picked_cell-c.ensures (cell_below c.args.s (run_of c.args.s c.args.mem.now) q.place, q.turn)

pub emit_bin-requires : goal.emit_bin-requires
emit_bin-requires c =
    chosen-emits c.requires (chosen (goal.at.emit_bin-requires c).After-data_bin_of-bin)

pub point-requires : goal.point-requires
point-requires c =
    let q = c.requires in
    let found = chosen (goal.at.point-requires c).After-data_bin_of-bin in
    (still-celled q found c.emit_bin.ensures.leaves, chosen-below q found)

pub returns : goal.returns
returns c =
    let q = c.requires in
    let found = chosen (goal.at.returns c).After-data_bin_of-bin in
    record {
      frame = c.emit_bin.ensures.frame ∙ chosen-frame q found;
      leaves = chosen-leaves q found c.emit_bin.ensures.leaves c.point.ensures;
    }

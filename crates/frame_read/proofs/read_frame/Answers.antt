-- An accepted frame has its header words behind the mark.
use Rattle.std.proofs.Common.{arith, length-drop}
use Rattle.lta_spec.specs.FrameCalls.{kind_by}
use Rattle.lta_spec.proofs.RoundTrips.{head-least, Accepted, accepted}
use Rattle.std.proofs.lemmas.List.{take_rest}
use Rattle.frame_read.proofs.read_frame.Goals as goal
use Rattle.frame_read.proofs.read_frame.Goals.{In_ok-read_kind}

fine : (c : In_ok-read_kind) → Accepted c.args.n c.args.bytes.now
fine c = let a = c.args in accepted a.n a.bytes.now c.in_ok-read_kind.ensures.ok.0

pub slice_bounds-fields_of-start : goal.slice_bounds-fields_of-start
slice_bounds-fields_of-start c = omega (arith, (fine c).size)

pub slice_bounds-fields_of-count : goal.slice_bounds-fields_of-count
slice_bounds-fields_of-count c = omega (arith, (fine (goal.at.slice_bounds-fields_of-count c).In_ok-read_kind).size)

pub fields_of-requires : goal.fields_of-requires
fields_of-requires c =
    let a = c.args in
    let w = fine (goal.at.fields_of-requires c).In_ok-read_kind in
    rw (take_rest a.bytes.now 2) (simp length-drop (omega (arith, w.size, head-least (kind_by a.n a.bytes.now))))

-- The fields keep to their rules, so that each fits its word.
use mathlib.Core.Path.{refl}
use native.Mathlib.Omega.{arith}
use Rattle.lta_spec.specs.Call.{emitted_fields}
use Rattle.lta_spec.proofs.ShapeLaws.{Shaped, shaped}
use Rattle.lta_spec.proofs.RoundTrips.{Valid, fields-ok}
use Rattle.frame_header.specs.Kind.{kind_number}
use Rattle.frame_fields.specs.Emits.{fields_from}
use Rattle.frame_fields.proofs.Laws.{sent}
use Rattle.frame_fields.proofs.emitted_fields.Goals as goal
use Rattle.frame_fields.proofs.emitted_fields.Goals.{Start}

fine : (c : Start)
    → let a = c.args in Valid (fields_from a.s (kind_number a.kind) a.cell a.bank a.bin a.stamp a.row.now)
fine c =
    let a = c.args in sent a.s (kind_number a.kind) a.cell a.bank a.bin a.stamp a.row.now c.requires

shape : (c : Start) → Shaped c.args.s
shape c = shaped c.args.s c.requires.shaped

pub overflow_cast-ticks : goal.overflow_cast-ticks
unfolding emitted_fields
overflow_cast-ticks c = omega (arith, fine (goal.at.overflow_cast-ticks c).Start)

pub overflow_cast-edge : goal.overflow_cast-edge
unfolding emitted_fields
overflow_cast-edge c = omega (arith, fine (goal.at.overflow_cast-edge c).Start)

pub overflow_cast-centre : goal.overflow_cast-centre
unfolding emitted_fields
overflow_cast-centre c = omega (arith, fine (goal.at.overflow_cast-centre c).Start)

pub block_of-block-requires : goal.block_of-block-requires
unfolding emitted_fields
block_of-block-requires c =
    let s = (goal.at.block_of-block-requires c).Start in ((shape s).some-blocks, (fine s).block)

pub second_of-second-requires : goal.second_of-second-requires
unfolding emitted_fields
second_of-second-requires c =
    let s = (goal.at.second_of-second-requires c).Start in ((shape s).some-rate, (fine s).second)

pub offset_of-offset-requires : goal.offset_of-offset-requires
unfolding emitted_fields
offset_of-offset-requires c =
    let s = (goal.at.offset_of-offset-requires c).Start in ((shape s).some-rate, (fine s).offset)

pub overflow_cast-result : goal.overflow_cast-result
unfolding emitted_fields
overflow_cast-result c = omega (arith, fine (goal.at.overflow_cast-result c).Start)

pub overflow_cast-result-2 : goal.overflow_cast-result-2
unfolding emitted_fields
overflow_cast-result-2 c = omega (arith, fine (goal.at.overflow_cast-result-2 c).Start)

pub returns : goal.returns
unfolding emitted_fields
returns c =
    rw (c.into.ensures, c.block_of-block.ensures, c.second_of-second.ensures, c.offset_of-offset.ensures)
    (refl, fields-ok _ (fine (goal.at.returns c).Start))

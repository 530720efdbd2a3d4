use Rattle.std.proofs.Common.{◌+◌, get_or, add-one, arith}
use lib.Bits.{bit_or}
use Rattle.lta_spec.specs.Words.{part}
use Rattle.lta_spec.proofs.WordLaws.{part-zero}
use Rattle.words.specs.Moves.{at_most}
use Rattle.words.proofs.PartTests.{every-part-next, bits-next}
use Rattle.words.proofs.bits_of.Goals as goal

pub loop-i-init : goal.loop-i-init
loop-i-init c = rw part-zero

pub loop-i-preserved : goal.loop-i-preserved
loop-i-preserved c =
    let w = c.loop-i in
    let a = c.args in
    let s = a.s.now in
    let x = get_or s (a.at + w.i) 0 in
    let more = every-part-next (at_most (bit_or w.bits x)) s a.at w.i (omega arith) in
    rw (add-one, more) (bits-next w.bits x (part a.at w.i s) w.invariant)

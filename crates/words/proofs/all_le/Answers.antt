use Rattle.std.proofs.Common.{◌+◌, get_or, ◌∙◌, add-one, arith}
use Rattle.lta_spec.proofs.WordLaws.{part-zero}
use Rattle.words.specs.Moves.{at_most}
use Rattle.words.proofs.PartTests.{every-part-next, wide-next}
use Rattle.words.proofs.all_le.Goals as goal

pub loop-i-init : goal.loop-i-init
loop-i-init c = rw part-zero

pub loop-i-preserved : goal.loop-i-preserved
loop-i-preserved c =
    let w = c.loop-i in
    let a = c.args in
    let s = a.s.now in
    let x = get_or s (a.at + w.i) 0 in
    wide-next w.bits x a.b (omega (arith, c.type_inv.s (a.at + w.i))) (omega (arith, c.requires))
    ∙ rw (w.invariant, add-one, every-part-next (at_most a.b) s a.at w.i (omega arith))

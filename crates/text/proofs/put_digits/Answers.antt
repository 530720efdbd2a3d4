use native.Mathlib.Omega.{arith}
use Rattle.text.proofs.TextLaws.{none-put, one-room, digit-put, last-put}
use Rattle.text.proofs.put_digits.Goals as goal

pub loop-rest-init : goal.loop-rest-init
loop-rest-init c = none-put _ _ _

pub overflow_sub-at : goal.overflow_sub-at
overflow_sub-at c = one-room _ _ _ _ _ _ c.loop-rest.invariant c.requires.0

pub bounds-out-at : goal.bounds-out-at
bounds-out-at c =
    let put = c.loop-rest.invariant in
    omega (arith, one-room _ _ _ _ _ _ put c.requires.0, put.ends, c.loop-rest.auto.out, c.requires.1)

pub loop-rest-preserved : goal.loop-rest-preserved
loop-rest-preserved c = digit-put _ _ _ _ _ _ c.loop-rest.invariant c.requires.0 (omega arith)

pub overflow_sub-at-2 : goal.overflow_sub-at-2
overflow_sub-at-2 c = one-room _ _ _ _ _ _ c.loop-rest.invariant c.requires.0

pub bounds-out-at-2 : goal.bounds-out-at-2
bounds-out-at-2 c =
    let put = c.loop-rest.invariant in
    omega (arith, one-room _ _ _ _ _ _ put c.requires.0, put.ends, c.loop-rest.auto.out, c.requires.1)

pub returns : goal.returns
returns c =
    let put = last-put _ _ _ _ _ _ c.loop-rest.invariant c.requires.0 (omega arith) in
    record { starts = put.0; leaves = put.1 }

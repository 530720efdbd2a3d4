use mathlib.Core.Path.{◌≡◌, refl, sym, ap, ◌∙◌, subst}
use Prim.Native.Nat.{◌+◌, ◌-◌, ◌<◌, ◌≤◌}
use native.Mathlib.Nat.{sub-zero}
use native.Mathlib.Omega.{arith}
use borrow.Author.Tests.{lt-ltb, le-ltb}
use Rattle.lta_spec.specs.Engine.{after, seek}
use Rattle.lta_spec.specs.Step.{picked_cell}
use Rattle.lta_spec.proofs.PickLaws.{after-below, seek-here, seek-on, seek-end}
use Rattle.call_pick_tests.proofs.ReadyTestLaws.{ready_in}
use Rattle.call_pick_tests.proofs.picked_cell.Goals as goal

pub loop-init : goal.loop-init
unfolding picked_cell
loop-init c = rw (c.next-c.ensures, sub-zero) (c.requires, refl)

pub returns-then-ready_number-gt0 : goal.returns-then-ready_number-gt0
returns-then-ready_number-gt0 c =
    let r = c.args.run in
    let all = r.shape.cells in
    let here = subst (λ k. 0 < k) c.ready_number.ensures c.if-ready_number-gt0.true in
    sym (seek-here (ready_in r.shape r.mem.now) all (all - c.loop.counter) c.loop.c (omega (arith, c.loop-test.true))
    (lt-ltb 0 _ here))
    ∙ c.loop.invariant.1

pub loop-preserved : goal.loop-preserved
loop-preserved c =
    let r = c.args.run in
    let f = ready_in r.shape r.mem.now in
    let all = r.shape.cells in
    let k = c.loop.c in
    let left = all - c.loop.counter in
    let none = subst (λ k. k ≤ 0) c.ready_number.ensures c.if-ready_number-gt0.false in
    let less : all - (c.loop.counter + 1) ≡ left - 1 = omega arith in
    rw c.place_after-c.ensures (
      after-below all k c.loop.invariant.0,
      ap (λ m. seek f all m (after all k)) less
          ∙ sym (seek-on f all left k (omega (arith, c.loop-test.true)) (le-ltb 0 _ none)) ∙ c.loop.invariant.1,
    )

pub returns : goal.returns
returns c =
    let r = c.args.run in
    let all = r.shape.cells in
    sym (seek-end (ready_in r.shape r.mem.now) all (all - c.loop.counter) c.loop.c (omega (arith, c.loop-test.false)))
    ∙ c.loop.invariant.1

use mathlib.Core.Path.{◌≡◌, refl, sym, ap, ◌∙◌}
use Prim.Native.Nat.{◌+◌, ◌-◌}
use native.Mathlib.Nat.{sub-zero}
use native.Mathlib.Omega.{arith}
use borrow.Author.Tests.{eq-eqb, ne_eqb}
use Rattle.lta_spec.specs.Place.{ready}
use Rattle.lta_spec.specs.Engine.{after, seek, picked_bin}
use Rattle.lta_spec.proofs.PickLaws.{after-below, seek-here, seek-on, seek-end}
use Rattle.cell_layout.proofs.ViewLaws.{fits_in}
use Rattle.cell_picks.proofs.PickCellLaws.{ready_in, place_is}
use Rattle.cell_picks.proofs.picked_bin.Goals as goal

pub loop-init : goal.loop-init
unfolding picked_bin
loop-init c =
    let f = fits_in c.args.cell in
    rw (place_is f, c.all_bins-all.ensures, sub-zero) (c.requires, refl)

pub returns-then-bin_state-eq-READY : goal.returns-then-bin_state-eq-READY
returns-then-bin_state-eq-READY c =
    let all = c.all_bins-all.result in
    let here = sym c.bin_state.ensures ∙ c.if-bin_state-eq-READY.true in
    sym (seek-here (ready_in c.args.cell) all (all - c.loop.counter) c.loop.k (omega (arith, c.loop-test.true))
    (eq-eqb _ ready here))
    ∙ c.loop.invariant.1

pub loop-preserved : goal.loop-preserved
loop-preserved c =
    let f = ready_in c.args.cell in
    let all = c.all_bins-all.result in
    let k = c.loop.k in
    let left = all - c.loop.counter in
    let other = ne_eqb _ ready (λ is. c.if-bin_state-eq-READY.false (c.bin_state.ensures ∙ is)) in
    let less : all - (c.loop.counter + 1) ≡ left - 1 = omega arith in
    rw c.place_after-k.ensures (
      after-below all k c.loop.invariant.0,
      ap (λ m. seek f all m (after all k)) less
          ∙ sym (seek-on f all left k (omega (arith, c.loop-test.true)) other) ∙ c.loop.invariant.1,
    )

pub returns : goal.returns
returns c =
    let all = c.all_bins-all.result in
    sym (seek-end (ready_in c.args.cell) all (all - c.loop.counter) c.loop.k (omega (arith, c.loop-test.false)))
    ∙ c.loop.invariant.1

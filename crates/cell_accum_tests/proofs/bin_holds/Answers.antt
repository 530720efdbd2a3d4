-- The ways of an integration, and the loss that each adds to.
use mathlib.Core.Path.{◌≡◌, sym, ◌∙◌}
use mathlib.Core.Bool.{false}
use Rattle.lta_spec.specs.Place.{ready}
use Rattle.lta_spec.specs.Engine.{bin_at, is_replacing, is_too_wide}
use Rattle.cell_layout.specs.Views.{places_in}
use Rattle.cell_layout.proofs.ViewLaws.{fits_in}
use Rattle.cell_parts.proofs.PartLaws.{held-ticks}
use Rattle.cell_bins.proofs.BinLaws.{state-is, bin-ticks}
use Rattle.cell_accum_tests.proofs.WayLaws.{replacing-is, wide_is}
use Rattle.cell_accum_tests.proofs.IntegrateTests.{holds-full, holds-replaced, holds-wide, holds-joins}
use Rattle.cell_accum_tests.proofs.bin_holds.Goals as goal
use Rattle.cell_accum_tests.proofs.bin_holds.Goals.{After-too_wide, Else-replaces, Else-state-eq-READY}

-- what is known past each test
not-ready : (c : Else-state-eq-READY) → let a = c.args in
    (bin_at a.cell.shape.lags a.k (places_in a.cell)).state ≡ ready → ⊥
not-ready c =
    λ x. (rw c.bin_start-at.ensures.is at c.if-state-eq-READY.false)
    (state-is (fits_in c.args.cell) c.args.k c.requires ∙ x)

kept : (c : Else-replaces) → let a = c.args in
    let n = a.cell.shape.lags in
    let w = places_in a.cell in
    is_replacing n (bin_at n a.k w) w ≡ false
kept c =
    sym (replacing-is (fits_in c.args.cell) c.args.k c.requires)
    ∙ (rw c.bin_start-at.ensures.is at c.if-replaces.false)

wide : (c : After-too_wide) → let a = c.args in
    let n = a.cell.shape.lags in
    let w = places_in a.cell in
    c.too_wide.result ≡ is_too_wide n (bin_at n a.k w) w
wide c =
    c.too_wide.ensures
    ∙ rw (c.bin_start-at.ensures.is, c.held_row.ensures.is)
    (wide_is (fits_in c.args.cell) c.args.k c.requires)

pub returns-then-state-eq-READY : goal.returns-then-state-eq-READY
returns-then-state-eq-READY c =
    let a = c.args in
    let f = fits_in a.cell in
    rw (c.loss_holds.ensures, c.held_row.ensures.is, held-ticks f)
    (holds-full a.cell.shape.lags a.k (places_in a.cell)
    (sym (state-is f a.k c.requires) ∙ (rw c.bin_start-at.ensures.is at c.if-state-eq-READY.true)))

pub returns-then-replaces : goal.returns-then-replaces
returns-then-replaces c =
    let a = c.args in
    let f = fits_in a.cell in
    let j = c.requires in
    rw (c.loss_holds-then-replaces.ensures, c.bin_start-at.ensures.is, bin-ticks f a.k j)
    (holds-replaced a.cell.shape.lags a.k (places_in a.cell)
    (not-ready (goal.at.returns-then-replaces c).Else-state-eq-READY)
    (sym (replacing-is f a.k j) ∙ (rw c.bin_start-at.ensures.is at c.if-replaces.true)))

pub returns-then-too_wide : goal.returns-then-too_wide
returns-then-too_wide c =
    let place = goal.at.returns-then-too_wide c in
    let a = c.args in
    rw (c.loss_holds-then-too_wide.ensures, c.held_row.ensures.is, held-ticks (fits_in a.cell))
    (holds-wide a.cell.shape.lags a.k (places_in a.cell) (not-ready place.Else-state-eq-READY)
    (kept place.Else-replaces) (sym (wide place.After-too_wide) ∙ c.if-too_wide.true))

pub returns-else-too_wide : goal.returns-else-too_wide
returns-else-too_wide c =
    let place = goal.at.returns-else-too_wide c in
    let a = c.args in
    holds-joins a.cell.shape.lags a.k (places_in a.cell) (not-ready place.Else-state-eq-READY)
    (kept place.Else-replaces) (sym (wide place.After-too_wide) ∙ c.if-too_wide.false)

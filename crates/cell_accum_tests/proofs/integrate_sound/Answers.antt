-- The tests of an integration in their order: Held and the losses, the flag, the label, the bin, the room.
use mathlib.Core.Path.{◌≡◌, sym, ◌∙◌}
use mathlib.Core.Bool.{true, ◌&&◌}
use Rattle.lta_spec.specs.Damage.{held_ok, losses_ok}
use Rattle.cell_layout.specs.Views.{places_in}
use Rattle.cell_layout.proofs.ViewLaws.{fits_in}
use Rattle.cell_parts.proofs.PartLaws.{occupied-is}
use Rattle.cell_accum_tests.proofs.WayLaws.{label-within, number_is}
use Rattle.cell_accum_tests.proofs.IntegrateTests.{parts-bad, held-free, label-bad, bin-bad, bin-good}
use Rattle.cell_accum_tests.proofs.integrate_sound.Goals as goal
use Rattle.cell_accum_tests.proofs.integrate_sound.Goals.{Else-cell-ne1, Else-not-parts}

-- what is known past each test
parts : (c : Else-not-parts) → let w = places_in c.args.cell in
    held_ok c.args.t w.held && losses_ok w.losses ≡ true
parts c = rw (c.held_ok.ensures, c.losses_ok.ensures) at c.if-not-parts.false

occupied : (c : Else-cell-ne1) → (places_in c.args.cell).held.occupied ≡ 1
occupied c = sym (occupied-is (fits_in c.args.cell)) ∙ c.if-cell-ne1.false

pub returns-then-not-parts : goal.returns-then-not-parts
returns-then-not-parts c =
    let a = c.args in
    let s = a.cell.shape in
    parts-bad s.lags s.bins a.t (places_in a.cell)
    (rw (c.held_ok.ensures, c.losses_ok.ensures) at c.if-not-parts.true)

pub returns-then-cell-ne1 : goal.returns-then-cell-ne1
returns-then-cell-ne1 c =
    let place = goal.at.returns-then-cell-ne1 c in
    let a = c.args in
    let s = a.cell.shape in
    held-free s.lags s.bins a.t (places_in a.cell) (parts place.Else-not-parts)
    (λ o. c.if-cell-ne1.true (occupied-is (fits_in a.cell) ∙ o))

pub returns-then-not-label_ok : goal.returns-then-not-label_ok
returns-then-not-label_ok c =
    let place = goal.at.returns-then-not-label_ok c in
    let a = c.args in
    let s = a.cell.shape in
    label-bad s.lags s.bins a.t (places_in a.cell) (parts place.Else-not-parts) (occupied place.Else-cell-ne1)
    (sym c.if-not-label_ok.ensures)

pub bin_number-k-requires : goal.bin_number-k-requires
bin_number-k-requires c = label-within (fits_in c.args.cell) (sym c.if-not-label_ok.ensures)

pub returns-then-bin_ok : goal.returns-then-bin_ok
returns-then-bin_ok c =
    let place = goal.at.returns-then-bin_ok c in
    let a = c.args in
    let s = a.cell.shape in
    c.bin_holds.ensures
    ∙ bin-good s.lags s.bins a.t (places_in a.cell) (parts place.Else-not-parts) (occupied place.Else-cell-ne1)
    (sym c.if-not-label_ok.ensures) _ (number_is (fits_in a.cell) _ c.bin_number-k.ensures) (sym c.if-bin_ok.ensures)

pub returns-else-bin_ok : goal.returns-else-bin_ok
returns-else-bin_ok c =
    let place = goal.at.returns-else-bin_ok c in
    let a = c.args in
    let s = a.cell.shape in
    c.if-bin_ok.false
    ∙ bin-bad s.lags s.bins a.t (places_in a.cell) (parts place.Else-not-parts) (occupied place.Else-cell-ne1)
    (sym c.if-not-label_ok.ensures) _ (number_is (fits_in a.cell) _ c.bin_number-k.ensures) (sym c.if-bin_ok.ensures)

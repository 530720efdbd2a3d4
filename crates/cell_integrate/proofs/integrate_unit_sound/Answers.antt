-- The tests in their order: those of the cell's places, the flag, the number.
use mathlib.Core.Path.{◌≡◌, sym, ap, ◌∙◌}
use Prim.Native.Nat.{◌*◌}
use lib.Dec.{leb}
use Rattle.cell_layout.specs.Views.{unit_in, places_in}
use Rattle.cell_layout.proofs.ViewLaws.{fits_in}
use Rattle.cell_parts.proofs.PartLaws.{occupied-is}
use Rattle.cell_accum_tests.proofs.WayLaws.{label-within, number_is}
use Rattle.cell_accum.proofs.IntegrateLaws.{integrate-facts}
use Rattle.cell_ready.proofs.NumberLaws as ready
use Rattle.cell_integrate.proofs.RaiseLaws.{cell-bad, number-alone, number-tested}
use Rattle.cell_integrate.proofs.integrate_unit_sound.Goals as goal
use Rattle.cell_integrate.proofs.integrate_unit_sound.Goals.{Else-cell-ne1}

occupied : (c : Else-cell-ne1) → (places_in c.args.cell).held.occupied ≡ 1
occupied c = sym (occupied-is (fits_in c.args.cell)) ∙ c.if-cell-ne1.false

pub returns-then-not-integrate_sound : goal.returns-then-not-integrate_sound
returns-then-not-integrate_sound c =
    let s = c.args.cell.shape in
    cell-bad s.lags s.bins c.args.t (unit_in c.args.cell) (sym c.if-not-integrate_sound.ensures)

pub returns-then-cell-ne1 : goal.returns-then-cell-ne1
returns-then-cell-ne1 c =
    let s = c.args.cell.shape in
    let f = fits_in c.args.cell in
    rw c.all_bins.ensures
    (ap (λ k. leb k (2 * s.bins)) (ready.number_is f)
    ∙ number-alone s.lags s.bins c.args.t (unit_in c.args.cell) (sym c.if-not-integrate_sound.ensures)
    (λ o. c.if-cell-ne1.true (occupied-is f ∙ o)))

pub bin_number-k-requires : goal.bin_number-k-requires
bin_number-k-requires c =
    let s = c.args.cell.shape in
    let facts = integrate-facts s.lags s.bins (places_in c.args.cell)
    (record {
      t = c.args.t;
      sound = sym c.if-not-integrate_sound.ensures;
      occupied = occupied (goal.at.bin_number-k-requires c).Else-cell-ne1;
    }) in
    label-within (fits_in c.args.cell) facts.label

pub returns : goal.returns
returns c =
    let s = c.args.cell.shape in
    c.number_fits.ensures
    ∙ number-tested s.lags s.bins c.args.t (unit_in c.args.cell) (sym c.if-not-integrate_sound.ensures)
    (occupied (goal.at.returns c).Else-cell-ne1) _
    (number_is (fits_in c.args.cell) _ c.bin_number-k.ensures)

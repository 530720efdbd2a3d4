-- The number goes by the command and by the state of the bin that Held's label names.
use mathlib.Core.Path.{refl, ◌∙◌}
use Rattle.cell_layout.proofs.ViewLaws.{fits_in}
use Rattle.cell_accum_tests.proofs.WayLaws.{label-within, number_is}
use Rattle.cell_bins.proofs.BinTests.{bit}
use Rattle.cell_integrate.proofs.RaiseLaws.{raising-is}
use Rattle.cell_integrate.proofs.raises.Goals as goal

pub bin_number-k-requires : goal.bin_number-k-requires
bin_number-k-requires c = label-within (fits_in c.args.cell) c.requires

pub returns : goal.returns
returns c =
    let f = fits_in c.args.cell in
    let k = c.bin_number-k.ensures in
    c.from.ensures ∙ bit _ ∙ rw c.bin_start.ensures.is (raising-is f _ k.below (number_is f _ k) _ refl)

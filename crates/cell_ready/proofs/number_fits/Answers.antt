-- The number against the bins, and against the state of bin k.
use Rattle.lta_spec.specs.Damage.{number_fits}
use Rattle.cell_layout.proofs.ViewLaws.{fits_in}
use Rattle.cell_bins.proofs.BinLaws.{state-is}
use Rattle.cell_ready.proofs.NumberLaws.{number_is}
use Rattle.cell_ready.proofs.number_fits.Goals as goal

pub returns : goal.returns
unfolding number_fits
returns c =
    let f = fits_in c.args.cell in
    rw (
      c.wrong_number-wrong.ensures,
      c.bin_start.ensures.is,
      c.all_bins-all.ensures,
      number_is f,
      state-is f c.args.k c.requires,
    )

-- The word of a bin's state.
use Rattle.cell_layout.proofs.ViewLaws.{fits_in}
use Rattle.cell_bins.proofs.BinLaws.{state-is}
use Rattle.cell_picks.proofs.bin_state.Goals as goal

pub returns : goal.returns
returns c = rw c.bin_start.ensures.is (state-is (fits_in c.args.cell) c.args.k c.requires)

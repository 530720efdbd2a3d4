-- The label's test, by its words.
use Rattle.cell_layout.proofs.ViewLaws.{fits_in}
use Rattle.cell_held.proofs.HeldTests.{label-test}
use Rattle.cell_held.proofs.label_ok.Goals as goal

pub returns : goal.returns
returns c = label-test (fits_in c.args.cell)

-- The counter's test, by its words.
use Rattle.cell_layout.proofs.ViewLaws.{fits_in}
use Rattle.cell_block.proofs.CounterLaws.{counter-test}
use Rattle.cell_block.proofs.counter_ok.Goals as goal

pub returns : goal.returns
returns c = counter-test (fits_in c.args.cell) c.args.blocks

-- Open, Held, its label and the losses, each by its own test.
use Rattle.lta_spec.specs.Damage.{dump_parts}
use Rattle.cell_tests.proofs.dump_parts.Goals as goal

pub returns : goal.returns
unfolding dump_parts
returns c = rw (c.open_ok.ensures, c.held_ok.ensures, c.label_ok.ensures, c.losses_ok.ensures)

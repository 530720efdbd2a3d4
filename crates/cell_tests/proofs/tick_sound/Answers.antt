-- Registers, Open, losses, and room where the tick is held off, each by its own test.
use Rattle.cell_layout.proofs.ViewLaws.{fits_in}
use Rattle.cell_tests.proofs.TickTests.{tick-test}
use Rattle.cell_tests.proofs.tick_sound.Goals as goal

pub returns : goal.returns
returns c =
    rw (
      c.entries_ok-xs.ensures,
      c.entries_ok-ys.ensures,
      c.open_ok-opened.ensures,
      c.losses_ok-losses.ensures,
      c.loss_holds-spare.ensures,
      c.x_register.ensures.is,
      c.y_register.ensures.is,
      c.depth.ensures,
      c.depth-2.ensures,
    ) (tick-test (fits_in c.args.cell) c.args.t)

-- Each loss first; then the six together.
use mathlib.Core.Path.{sym}
use Rattle.lta_spec.specs.Damage.{page_sound}
use Rattle.cell_page.proofs.page_sound.Goals as goal

pub returns-then-losses_ok : goal.returns-then-losses_ok
unfolding page_sound
returns-then-losses_ok c = rw (sym c.if-losses_ok.ensures, c.ticks_together.ensures)

pub returns-else-losses_ok : goal.returns-else-losses_ok
unfolding page_sound
returns-else-losses_ok c = rw (sym c.if-losses_ok.ensures, c.if-losses_ok.false)

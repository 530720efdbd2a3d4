-- The tests of a dump in their order: the parts, then the room in the loss that it adds to.
use mathlib.Core.Path.{sym, ◌∙◌}
use Rattle.cell_layout.specs.Views.{places_in}
use Rattle.cell_layout.proofs.ViewLaws.{fits_in}
use Rattle.cell_parts.proofs.PartLaws.{occupied-is, open-ticks}
use Rattle.cell_tests.proofs.DumpTests.{unsound, sound_none, sound-ordered, sound-overrun, sound-held}
use Rattle.cell_tests.proofs.dump_sound.Goals as goal

pub returns-then-not-dump_parts : goal.returns-then-not-dump_parts
returns-then-not-dump_parts c =
    let s = c.args.cell.shape in
    unsound s.lags s.bins c.args.t c.args.command (places_in c.args.cell) (sym c.if-not-dump_parts.ensures)

pub returns-then-loses_none : goal.returns-then-loses_none
returns-then-loses_none c =
    let s = c.args.cell.shape in
    sound_none s.lags s.bins c.args.t c.args.command (places_in c.args.cell) (sym c.if-not-dump_parts.ensures)
    (sym c.if-loses_none.ensures)

pub returns-then-command-eq-DISCARD : goal.returns-then-command-eq-DISCARD
returns-then-command-eq-DISCARD c =
    let s = c.args.cell.shape in
    rw (c.loss_holds.ensures, open-ticks (fits_in c.args.cell))
    (sound-ordered s.lags s.bins c.args.t c.args.command (places_in c.args.cell) (sym c.if-not-dump_parts.ensures)
    (sym c.if-loses_none.ensures) c.if-command-eq-DISCARD.true)

pub returns-then-cell-eq1 : goal.returns-then-cell-eq1
returns-then-cell-eq1 c =
    let s = c.args.cell.shape in
    let f = fits_in c.args.cell in
    rw (c.loss_holds-then-cell-eq1.ensures, open-ticks f)
    (sound-overrun s.lags s.bins c.args.t c.args.command (places_in c.args.cell) (sym c.if-not-dump_parts.ensures)
    (sym c.if-loses_none.ensures) c.if-command-eq-DISCARD.false (sym (occupied-is f) ∙ c.if-cell-eq1.true))

pub returns-else-cell-eq1 : goal.returns-else-cell-eq1
returns-else-cell-eq1 c =
    let s = c.args.cell.shape in
    sound-held s.lags s.bins c.args.t c.args.command (places_in c.args.cell) (sym c.if-not-dump_parts.ensures)
    (sym c.if-loses_none.ensures) c.if-command-eq-DISCARD.false
    (λ o. c.if-cell-eq1.false (occupied-is (fits_in c.args.cell) ∙ o))

-- The ways of a dump: 111, 100, an overrun, and Open to Held.
use mathlib.Core.Path.{◌≡◌, refl, sym, ◌∙◌}
use mathlib.Core.Bool.{true, false}
use Prim.Native.Nat.{ℕ, ◌<◌}
use native.Mathlib.Omega.{arith}
use lib.Dec.{eqb}
use borrow.Author.Tests.{ne_eqb}
use Rattle.lta_spec.specs.Shape.{open_limit}
use Rattle.lta_spec.specs.Place.{loss_count}
use Rattle.lta_spec.specs.Engine.{loss_at}
use Rattle.lta_spec.specs.Damage.{dump_parts}
use Rattle.cell_layout.specs.Cells.{Small}
use Rattle.cell_layout.specs.Views.{IsCell, places_by}
use Rattle.cell_layout.proofs.ViewLaws.{fits_by}
use Rattle.cell_layout.proofs.CellLaws.{laid}
use Rattle.cell_layout.proofs.RowLaws.{small_row}
use Rattle.cell_layout.specs.Moves.{label_of}
use Rattle.cell_parts.proofs.PartLaws.{occupied-is, loss-small}
use Rattle.cell_dump.proofs.DumpLaws.{dump-facts, sound-parts, dump-idle, dump-ordered, dump-overrun, dump-held}
use Rattle.cell_dump.proofs.dump_cell.Goals as goal
use Rattle.cell_dump.proofs.dump_cell.Goals.{Else-cell-eq1, Start}

parts : (c : Start) → let s = c.args.shape in
    dump_parts s.bins c.args.t (places_by s c.args.cell.now) ≡ true
parts c =
    let s = c.args.shape in
    sound-parts s.lags s.bins c.args.t c.args.command (places_by s c.args.cell.now) c.requires.1

-- Open's row and a loss's are small
may-lose : (c : Start) (i : ℕ) (h : i < loss_count) → let s = c.args.shape in
    let w = places_by s c.args.cell.now in
    (IsCell s c.args.cell.now × (i < loss_count))
    × (Small w.opened.members × Small (loss_at s.lags i w.losses))
may-lose c i h =
    let s = c.args.shape in
    let w = places_by s c.args.cell.now in
    let d = dump-facts s.bins c.args.t w (parts c) in (
      (c.requires.0, h),
      (
        small_row open_limit w.opened.members d.opened (omega arith),
        loss-small (fits_by s c.requires.0) i h d.losses,
      ),
    )

unoccupied : (c : Else-cell-eq1) → eqb (places_by c.args.shape c.args.cell.now).held.occupied 1 ≡ false
unoccupied c = ne_eqb _ 1 (λ o. c.if-cell-eq1.false (occupied-is (fits_by c.args.shape c.requires.0) ∙ o))

pub returns-then-command-eq-IDLE : goal.returns-then-command-eq-IDLE
returns-then-command-eq-IDLE c =
    let a = c.args in
    let w = places_by a.shape a.cell.now in
    rw (dump-idle a.shape.lags (label_of a.command a.bank a.bin) a.t w c.if-command-eq-IDLE.true)
    (record { answer = refl; words = laid (fits_by a.shape c.requires.0) })

pub lose_open-requires : goal.lose_open-requires
lose_open-requires c = may-lose (goal.at.lose_open-requires c).Start _ (omega arith)

pub returns-then-command-eq-DISCARD : goal.returns-then-command-eq-DISCARD
returns-then-command-eq-DISCARD c =
    let a = c.args in
    let w = places_by a.shape a.cell.now in
    rw (dump-ordered a.shape.lags (label_of a.command a.bank a.bin) a.t w c.if-command-eq-IDLE.false
    c.if-command-eq-DISCARD.true)
    (record { answer = refl; words = c.lose_open.ensures })

pub lose_open-requires-then-cell-eq1 : goal.lose_open-requires-then-cell-eq1
lose_open-requires-then-cell-eq1 c = may-lose (goal.at.lose_open-requires-then-cell-eq1 c).Start _ (omega arith)

pub returns-then-cell-eq1 : goal.returns-then-cell-eq1
returns-then-cell-eq1 c =
    let a = c.args in
    let w = places_by a.shape a.cell.now in
    rw
    (dump-overrun a.shape.lags (label_of a.command a.bank a.bin) a.t w c.if-command-eq-IDLE.false
    c.if-command-eq-DISCARD.false
    (sym (occupied-is (fits_by a.shape c.requires.0)) ∙ c.if-cell-eq1.true))
    (record { answer = refl; words = c.lose_open-then-cell-eq1.ensures })

pub hold_open-requires : goal.hold_open-requires
hold_open-requires c =
    let at = goal.at.hold_open-requires c in
    ((c.requires.0, unoccupied at.Else-cell-eq1), parts at.Start)

pub returns-else-cell-eq1 : goal.returns-else-cell-eq1
returns-else-cell-eq1 c =
    let a = c.args in
    let w = places_by a.shape a.cell.now in
    rw (dump-held a.shape.lags (label_of a.command a.bank a.bin) a.t w c.if-command-eq-IDLE.false
    c.if-command-eq-DISCARD.false (unoccupied (goal.at.returns-else-cell-eq1 c).Else-cell-eq1))
    (record { answer = refl; words = c.hold_open.ensures })

-- 111, and the step of any other command.
use native.Mathlib.Omega.{arith}
use native.Mathlib.Numerals.{add-one}
use lib.ListN.{set}
use mathlib.Core.Path.{sym, ap, ◌∙◌, subst}
use Prim.Native.Nat.{suc}
use Rattle.cell_layout.specs.Offsets.{block_at, last_command_at}
use Rattle.cell_layout.proofs.ViewLaws.{fits_by}
use Rattle.cell_block.specs.Counting.{Counts}
use Rattle.cell_block.proofs.CounterLaws.{kept_small, within, idle-counts, counts}
use Rattle.cell_block.proofs.count_block.Goals as goal

pub returns-then-command-eq-IDLE : goal.returns-then-command-eq-IDLE
returns-then-command-eq-IDLE c =
    idle-counts (fits_by c.args.shape c.requires.0.0) c.args.blocks c.args.command c.if-command-eq-IDLE.true

pub offset_after-next-requires : goal.offset_after-next-requires
offset_after-next-requires c =
    within (fits_by c.args.shape c.requires.0.0) c.args.blocks c.args.command c.requires.1

pub overflow_add-cell : goal.overflow_add-cell
overflow_add-cell c =
    omega (arith, c.requires.0.1, c.kept_as.ensures, kept_small c.args.command)

pub returns : goal.returns
returns c =
    let a = c.args in
    let o = c.offset_after-next in
    let words = set a.cell.now block_at o.result in
    subst
    (λ v. Counts a.shape.lags a.shape.bins a.blocks a.command a.cell.now (set words last_command_at v) o.result)
    (sym (add-one c.kept_as.result ∙ ap suc c.kept_as.ensures))
    (counts (fits_by c.args.shape c.requires.0.0) a.blocks a.command o.result c.if-command-eq-IDLE.false o.ensures)

-- `call_emit::frame_from` meets its contract.
use mathlib.Core.Path.{ap, ◌∙◌}
use Rattle.lta_spec.specs.Words.{splice}
use Rattle.call_run.proofs.ViewLaws.{cell-part}
use Rattle.call_emit.proofs.EmitLaws.{BinAt, emits-bin, frame_is}
use Rattle.call_emit.proofs.frame_from.Goals as goal
use Rattle.call_emit.proofs.frame_from.Goals.{After-row_words}

-- where the bin stands
found : (c : After-row_words) → let a = c.args in
    BinAt a.run.shape a.bank a.bin c.bin_number.result c.bin_start-at.result c.row_words.result
found c =
    let p = c.cell_at-part.ensures in
    let k = c.bin_number.ensures in
    record {
      number = rw p.bins at k.is;
      below = rw p.bins at k.below;
      start = rw p.lags at c.bin_start-at.ensures.is;
      width = rw p.lags at c.row_words.ensures;
    }

pub put_frame-requires : goal.put_frame-requires
put_frame-requires c = (
  emits-bin c.requires (cell-part c.cell_at-part.ensures) (found (goal.at.put_frame-requires c).After-row_words),
  c.requires.room,
)

pub returns : goal.returns
returns c =
    c.put_frame.ensures
    ∙ ap (splice c.args.out.now 0)
    (frame_is c.requires (cell-part c.cell_at-part.ensures) (found (goal.at.returns c).After-row_words))

-- The search in the words of the cell.
use mathlib.Core.Path.{ap, ap₂, ◌∙◌}
use Rattle.lta_spec.specs.Engine.{picked_bin}
use Rattle.cell_layout.specs.Views.{unit_in}
use Rattle.call_pick.proofs.bin_of.Goals as goal

pub returns : goal.returns
returns c =
    let s = c.args.run.shape in
    let p = c.cell_at.ensures in
    c.picked_bin.ensures
    ∙ ap₂ (λ n b. picked_bin n b (unit_in c.cell_at.result)) p.lags p.bins
    ∙ ap (picked_bin s.lags s.bins) p.unit

use mathlib.Core.Path.{ap, ◌∙◌}
use native.Mathlib.Omega.{arith}
use Rattle.lta_spec.specs.Damage.{pick_sound}
use Rattle.cell_layout.specs.Views.{unit_in}
use Rattle.call_run.proofs.CellsLaws.{cells-next, cells-all}
use Rattle.call_run.proofs.ViewLaws.{hosted_in}
use Rattle.call_pick_tests.proofs.cells_sound.Goals as goal

pub loop-c-preserved : goal.loop-c-preserved
loop-c-preserved c =
    let r = c.args.run in
    let p = c.cell_at.ensures in
    cells-next _ _ (hosted_in r) (pick_sound r.shape.bins c.args.t) c.loop-c.c (omega arith) p c.loop-c.invariant
    (c.pick_sound-ok.ensures ∙ ap (λ b. pick_sound b c.args.t (unit_in c.cell_at.result)) p.bins)

pub returns : goal.returns
returns c = cells-all _ _ (hosted_in c.args.run) _ c.loop-c.c (omega arith) c.loop-c.invariant

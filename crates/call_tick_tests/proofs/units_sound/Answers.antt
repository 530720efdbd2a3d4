use mathlib.Core.Path.{ap, ◌∙◌}
use native.Mathlib.Omega.{arith}
use Rattle.lta_spec.specs.Damage.{tick_sound}
use Rattle.cell_layout.specs.Views.{unit_in}
use Rattle.call_run.proofs.CellsLaws.{cells-next, cells-all}
use Rattle.call_run.proofs.ViewLaws.{hosted_in}
use Rattle.call_tick_tests.proofs.units_sound.Goals as goal

pub loop-c-preserved : goal.loop-c-preserved
loop-c-preserved c =
    let r = c.args.run in
    let p = c.cell_at.result in
    let here = c.tick_sound-sound.ensures ∙ ap (λ n. tick_sound n c.args.t (unit_in p)) c.cell_at.ensures.lags in
    cells-next _ _ (hosted_in r) (tick_sound r.shape.lags c.args.t) c.loop-c.c (omega arith) c.cell_at.ensures
    c.loop-c.invariant here

pub returns : goal.returns
returns c =
    let r = c.args.run in
    cells-all _ _ (hosted_in r) (tick_sound r.shape.lags c.args.t) c.loop-c.c (omega arith) c.loop-c.invariant

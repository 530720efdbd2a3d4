use native.Mathlib.Omega.{arith}
use Rattle.call_run.proofs.CellsLaws.{cells-next, cells-all}
use Rattle.call_run.proofs.ViewLaws.{hosted_in}
use Rattle.call_page.proofs.ledgers_sound.Goals as goal

pub loop-c-preserved : goal.loop-c-preserved
loop-c-preserved c =
    cells-next _ _ (hosted_in c.args.run) _ c.loop-c.c c.loop-c-test.true c.cell_at.ensures c.loop-c.invariant
    c.page_sound-sound.ensures

pub returns : goal.returns
returns c = cells-all _ _ (hosted_in c.args.run) _ c.loop-c.c (omega arith) c.loop-c.invariant

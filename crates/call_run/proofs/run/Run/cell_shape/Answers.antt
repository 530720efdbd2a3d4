-- `call_run::run::Run::cell_shape` meets its contract.
use native.Mathlib.Omega.{arith}
use Rattle.call_run.proofs.RunLaws.{shape_is}
use Rattle.call_run.proofs.ViewLaws.{hosted_in}
use Rattle.call_run.proofs.run.Run.cell_shape.Goals as goal

pub invariant_of-result : goal.invariant_of-result
invariant_of-result c =
    let k = shape_is _ _ (hosted_in c.args.self) in
    record { few_lags = omega (arith, k.lags); few_bins = omega (arith, k.bins) }

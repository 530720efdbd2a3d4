-- `call_run::run::Run::of` meets its contract.
use mathlib.Core.Path.{sym, ◌∙◌}
use Rattle.call_run.proofs.RunLaws.{shape-ok, length-is}
use Rattle.call_run.proofs.run.Run.of.Goals as goal

pub invariant_of-result : goal.invariant_of-result
invariant_of-result c =
    let h = sym c.host_verdict.ensures ∙ c.in_ok-host_verdict.was in
    record {
      shaped = shape-ok c.args.shape c.args.mem.now h;
      whole = length-is c.args.shape c.args.mem.now h;
    }

-- `call_setup::setup` meets its contract.
use mathlib.Core.Path.{sym, ap, ◌∙◌}
use lib.ListN.{length}
use Rattle.lta_spec.specs.Words.{zeros}
use Rattle.lta_spec.proofs.WordLaws.{splice-whole, length-zeros}
use Rattle.cell_layout.proofs.Blank.{start-blank}
use Rattle.call_run.proofs.RunLaws.{length-is}
use Rattle.call_setup.proofs.setup.Goals as goal

pub returns-clause-leaves : goal.returns-clause-leaves
returns-clause-leaves c =
    let a = c.args in
    let mem = a.mem.now in
    let is-hosted = sym c.host_verdict.ensures ∙ c.in_ok-host_verdict.was in
    let all = splice-whole mem (zeros (length mem)) (length-zeros (length mem)) in
    let fresh = ap zeros (length-is a.s mem is-hosted) ∙ sym (start-blank a.s) in
    rw is-hosted (c.clear.ensures ∙ all ∙ fresh)

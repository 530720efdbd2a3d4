-- `call_run::run::Run::cell_start` meets its contract.
use Prim.Native.Nat.{◌*◌, ◌≤◌}
use native.Mathlib.Omega.{arith}
use Rattle.call_run.proofs.RunLaws.{starts, small}
use Rattle.call_run.proofs.ViewLaws.{celled_in}
use Rattle.call_run.proofs.run.Run.cell_start.Goals as goal
use Rattle.call_run.proofs.run.Run.cell_start.Goals.{After-cell_words}

-- the words before cell c
few : (c : After-cell_words) → let a = c.args in a.c * c.cell_words.result ≤ 9600000
few c = rw c.cell_words.ensures (omega (arith, small (celled_in c.args.self c.requires)))

pub overflow_mul-result : goal.overflow_mul-result
overflow_mul-result c = omega (arith, few (goal.at.overflow_mul-result c).After-cell_words)

pub overflow_add-result : goal.overflow_add-result
overflow_add-result c = omega (arith, few (goal.at.overflow_add-result c).After-cell_words)

pub returns : goal.returns
returns c = rw c.cell_words.ensures (starts (celled_in c.args.self c.requires))

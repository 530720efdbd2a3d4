-- `call_run::run::Run::next` meets its contract.
use native.Mathlib.Omega.{arith}
use Rattle.call_run.proofs.RunLaws.{some_words, next-is}
use Rattle.call_run.proofs.ViewLaws.{hosted_in}
use Rattle.call_run.proofs.run.Run.next.Goals as goal

pub overflow_sub-result : goal.overflow_sub-result
overflow_sub-result c = omega (arith, some_words _ _ (hosted_in c.args.self))

pub bounds-self-self : goal.bounds-self-self
bounds-self-self c = omega (arith, some_words _ _ (hosted_in c.args.self))

pub returns : goal.returns
returns c = next-is _ _ (hosted_in c.args.self)

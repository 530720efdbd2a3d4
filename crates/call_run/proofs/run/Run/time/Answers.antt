-- `call_run::run::Run::time` meets its contract.
use Rattle.call_run.proofs.RunLaws.{some_words, time-is}
use Rattle.call_run.proofs.ViewLaws.{hosted_in}
use Rattle.call_run.proofs.run.Run.time.Goals as goal

pub bounds-self-0 : goal.bounds-self-0
bounds-self-0 c = some_words _ _ (hosted_in c.args.self)

pub returns : goal.returns
returns c = time-is _ _ (hosted_in c.args.self)

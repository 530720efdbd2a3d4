-- `call_run::run::Run::cell_words` meets its contract.
use Rattle.call_run.proofs.RunLaws.{shape_is}
use Rattle.call_run.proofs.ViewLaws.{hosted_in}
use Rattle.call_run.proofs.run.Run.cell_words.Goals as goal

pub cell_words-requires : goal.cell_words-requires
cell_words-requires c = let k = shape_is _ _ (hosted_in c.args.self) in (k.lags, k.bins)

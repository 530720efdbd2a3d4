-- `call_run::run::Run::cell_at` meets its contract: the words are the cell's.
use Rattle.lta_spec.specs.Size.{cell_words}
use Rattle.lta_spec.proofs.WordLaws.{lent}
use Rattle.cell_layout.specs.Offsets.{cell_at}
use Rattle.call_run.proofs.RunLaws as run
use Rattle.call_run.proofs.ViewLaws.{celled_in}
use Rattle.call_run.proofs.run.Run.cell_at.Goals as goal

pub returns : goal.returns
returns c =
    let r = c.args.self in
    let k = c.cell_shape in
    record {
      lags = k.ensures.0;
      bins = k.ensures.1;
      unit = rw (
        c.cell_words.ensures,
        c.cell_start-at.ensures.is,
        k.ensures.0,
        k.ensures.1,
        lent r.mem.now (cell_at r.shape.lags r.shape.bins c.args.c) (cell_words r.shape.lags r.shape.bins),
      )
          (run.cell-unit (celled_in r c.requires));
    }

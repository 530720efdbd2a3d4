-- A word below 512 is one that is at most 511.
use Rattle.std.proofs.Common.{sym, ◌∙◌}
use lib.Dec.{leb-suc-suc}
use Rattle.lta_spec.specs.Words.{part}
use Rattle.lta_spec.specs.Row.{entry_ok}
use Rattle.words.specs.Moves.{at_most}
use Rattle.words.proofs.PartTests.{every-same}
use Rattle.words.proofs.entries_ok.Goals as goal

pub returns : goal.returns
returns c =
    let a = c.args in
    c.within.ensures
    ∙ sym (every-same entry_ok (at_most 511) (λ x. leb-suc-suc x 511) (part a.at a.n a.s.now))

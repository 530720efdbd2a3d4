-- Bits that are at most b have every word at most b.
use Rattle.std.proofs.Common.{sym, ◌∙◌, le-leb}
use Rattle.lta_spec.specs.Words.{part}
use Rattle.words.proofs.PartTests.{every-wider}
use Rattle.words.proofs.within.Goals as goal

pub returns-then-bits_of-b : goal.returns-then-bits_of-b
returns-then-bits_of-b c =
    let r = c.bits_of in
    let b = c.args.b in
    le-leb r.result b c.if-bits_of-b.true
    ∙ sym (every-wider r.result b c.if-bits_of-b.true (part c.args.at c.args.n c.args.s.now) r.ensures)

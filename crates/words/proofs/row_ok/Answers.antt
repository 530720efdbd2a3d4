-- The row's test, by the words of the slice.
use Rattle.std.proofs.Common.{◌≡◌, sym, ◌∙◌, le-leb}
use borrow.Author.Tests.{lt-leb}
use Rattle.lta_spec.specs.Words.{part}
use Rattle.lta_spec.specs.Size.{row_words}
use Rattle.lta_spec.specs.Row.{row_ok}
use Rattle.words.proofs.PartTests.{row_tests, row_ok-at}
use Rattle.words.proofs.row_ok.Goals as goal
use Rattle.words.proofs.row_ok.Goals.{Start}

law : (c : Start)
    → row_ok c.args.limit (part c.args.at (row_words c.args.n) c.args.s.now)
    ≡ row_tests c.args.s.now c.args.at c.args.n c.args.limit
law c = row_ok-at c.args.s.now c.args.at c.args.n c.args.limit c.requires.0

pub returns-then-ticks-limit : goal.returns-then-ticks-limit
returns-then-ticks-limit c =
    sym (law (goal.at.returns-then-ticks-limit c).Start
    ∙ rw (le-leb _ _ c.if-ticks-limit.true, c.within.ensures))

pub returns-else-ticks-limit : goal.returns-else-ticks-limit
returns-else-ticks-limit c =
    sym (law (goal.at.returns-else-ticks-limit c).Start ∙ rw (lt-leb _ _ c.if-ticks-limit.false))

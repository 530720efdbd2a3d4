-- Two letters, and no kind by them.
use mathlib.Core.Path.{sym, ap, ◌∙◌}
use Rattle.std.specs.Option.{is_some}
use Rattle.script_bytes.proofs.HeadLaws.{unknown-letters}
use Rattle.script_bytes.proofs.unknown_mark.Goals as goal

pub returns-then-b-ge2 : goal.returns-then-b-ge2
returns-then-b-ge2 c =
    unknown-letters c.args.b.now c.is_none.result (ap is_some (sym c.kind_in.ensures) ∙ c.is_none.ensures)
    c.if-b-ge2.true

-- Two letters say it, where they stand there.
use mathlib.Core.Path.{sym, ap, ◌∙◌}
use Rattle.std.specs.Result.{result_ok}
use Rattle.script_bytes.proofs.HeadLaws.{kind-lettered, kind-alone}
use Rattle.script_bytes.proofs.kind_in.Goals as goal

pub returns-in_default : goal.returns-in_default
returns-in_default c = sym (kind-alone c.args.b.now c.in_default.len_below)

pub returns : goal.returns
returns c =
    c.ok.ensures.value
    ∙ (ap result_ok c.try_from.ensures ∙ sym (kind-lettered c.args.b.now c.in-len2-up.len_at_least))

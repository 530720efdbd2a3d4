-- Nothing, a record that is whole, or a cut one.
use mathlib.Core.Path.{sym, ap, ◌∙◌}
use borrow.Author.Tests.{eqb-true, eqb-false}
use Rattle.script_records.specs.declared.Next.TheVariants as next
use Rattle.script_bytes.proofs.HeadLaws.{nothing, next-whole, next-cut, next-unknown}
use Rattle.script_bytes.proofs.next_in.Goals as goal

pub returns-then-is_empty : goal.returns-then-is_empty
returns-then-is_empty c = sym (nothing c.args.b.now (eqb-true _ 0 (sym c.if-is_empty.ensures)))

pub returns-else-is_empty : goal.returns-else-is_empty
returns-else-is_empty c =
    sym (next-unknown c.args.b.now (eqb-false _ 0 (sym c.if-is_empty.ensures))
    (sym c.kind_in.ensures ∙ c.in_default.is))

pub returns-then-size-b : goal.returns-then-size-b
returns-then-size-b c =
    let whole = rw c.size.ensures at c.if-size-b.true in
    ap next.Record c.record_in.ensures
    ∙ sym (next-whole c.args.b.now c.in-Some.kind (sym c.kind_in.ensures ∙ c.in-Some.is) whole)

pub returns-else-size-b : goal.returns-else-size-b
returns-else-size-b c =
    let short = rw c.size.ensures at c.if-size-b.false in
    sym (next-cut c.args.b.now c.in-Some.kind (sym c.kind_in.ensures ∙ c.in-Some.is) short)

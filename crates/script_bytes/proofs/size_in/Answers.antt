-- As many as the kind has, and 2 where there is none.
use mathlib.Core.Path.{◌≡◌, ap, ◌∙◌, sym}
use Prim.Native.Nat.{ℕ}
use Rattle.std.specs.Prelude.{Option, Some, None, MatchOption}
use Rattle.script_records.specs.Records.{size_of_kind}
use Rattle.script_records.specs.declared.Kind.{Kind}
use Rattle.script_bytes.proofs.HeadLaws.{size_where, size-where}
use Rattle.script_bytes.proofs.size_in.Goals as goal

size-from : (kind : Option Kind) (n : ℕ) → MatchOption kind (n ≡ 2) (λ k. n ≡ size_of_kind k) → n ≡ size_where kind
size-from None n h = h
size-from (Some k) n h = h

pub returns : goal.returns
returns c =
    size-from c.kind_in.result c.map_or.result c.map_or.ensures
    ∙ (ap size_where c.kind_in.ensures ∙ sym (size-where c.args.b.now))

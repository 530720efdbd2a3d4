-- One byte is stored.
use mathlib.Core.Path.{sym, ap, ◌∙◌}
use mathlib.Core.List.{[]}
use native.Mathlib.Omega.{arith}
use lib.ListN.{set}
use Rattle.lta_spec.specs.Words.{splice}
use Rattle.lta_spec.proofs.WordLaws.{splice-nil, set-splice-next}
use Rattle.text.proofs.put_byte.Goals as goal

pub returns-clause-leaves : goal.returns-clause-leaves
returns-clause-leaves c =
    let a = c.args in
    let l = a.out.now in
    ap (λ z. set z a.at a.b) (sym (splice-nil l a.at))
    ∙ ap (λ k. set (splice l a.at []) k a.b) (omega arith)
    ∙ set-splice-next l a.at [] a.b

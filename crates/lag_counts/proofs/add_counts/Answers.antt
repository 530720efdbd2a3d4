-- Each sum is of a word as it was.
use Rattle.std.proofs.Common.{◌≡◌, ℕ, ◌+◌, List, get_or, set, ◌∙◌, arith}
use lib.Seq.{get_or-set_other}
use Rattle.lag_counts.proofs.Added.{counts-added}
use Rattle.lag_counts.proofs.add_counts.Goals as goal

pub returns : goal.returns
returns c =
    let a = c.args in
    let l = a.s.now in
    let one : List ℕ = set l a.to (get_or l a.to 0 + 1) in
    let two : List ℕ = set one (a.to + 1) (get_or l (a.to + 1) 0 + a.edge) in
    let edge : get_or one (a.to + 1) 0 ≡ get_or l (a.to + 1) 0 =
    get_or-set_other l a.to (a.to + 1) _ 0 (λ e. omega arith) in
    let centre : get_or two (a.to + 2) 0 ≡ get_or l (a.to + 2) 0 =
    get_or-set_other one (a.to + 1) (a.to + 2) _ 0 (λ e. omega arith)
    ∙ get_or-set_other l a.to (a.to + 2) _ 0 (λ e. omega arith) in
    rw (edge, centre) (counts-added l a.to 1 a.edge a.centre c.requires.0)

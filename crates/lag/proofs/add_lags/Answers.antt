-- The terms stand in the first words of `terms`, and the sums of the row are lent.
use Rattle.std.proofs.Common.{◌≡◌, ℕ, ◌+◌, ◌*◌, ◌<◌, List, length, get_or, ap, ◌∙◌, arith}
use Rattle.lta_spec.specs.Words.{part, splice}
use Rattle.lta_spec.proofs.WordLaws.{lent, returned, length_part, get_d_part}
use Rattle.lag_terms.specs.Terms.{lag_terms}
use Rattle.lag_terms.proofs.TermLaws.{length-lag_terms}
use Rattle.lag.proofs.Loops.{get_d_front, terms-added}
use Rattle.lag.proofs.add_lags.Goals as goal
use Rattle.lag.proofs.add_lags.Goals.{After-put_lags}

-- what the lags add
abbrev terms : (c : After-put_lags) → List ℕ
terms c = lag_terms c.args.xs.now c.args.ys.now (c.args.h + 1) c.args.h

many : (c : After-put_lags) → length (terms c) ≡ 4 * c.args.h
many c = length-lag_terms c.args.xs.now c.args.ys.now (c.args.h + 1) c.args.h

written : (c : After-put_lags) (i : ℕ) → i < 4 * c.args.h → get_or c.put_lags.new.terms i 0 ≡ get_or (terms c) i 0
written c i h =
    ap (λ (ws : List ℕ). get_or ws i 0) c.put_lags.ensures
    ∙ get_d_front c.args.terms.now (terms c) i (omega (arith, many c)) (omega (arith, many c, c.requires))

pub add_terms-requires : goal.add_terms-requires
add_terms-requires c =
    let a = c.args in
    let l = a.s.now in
    let at : ℕ = a.to + 3 in
    let n : ℕ = 4 * a.h in
    let p = c.requires in
    let e : length (part at n l) ≡ n = length_part l at n p.4 in
    let w = written (goal.at.add_terms-requires c).After-put_lags in
    rw (lent l at n) (
      omega (arith, e, c.put_lags.auto),
      (λ i h.
          let k : i < n = omega (arith, e) in rw (get_d_part l at n i k, w i k) (p.5 i k)),
    )

pub returns : goal.returns
returns c =
    let a = c.args in
    let l = a.s.now in
    let at : ℕ = a.to + 3 in
    let n : ℕ = 4 * a.h in
    let p = c.requires in
    let before = (goal.at.returns c).After-put_lags in
    let ts : List ℕ = terms before in
    let zs : List ℕ = c.add_terms.new.row in
    let kept = c.add_terms.auto.row in
    let long : length zs ≡ n = kept ∙ ap length (lent l at n) ∙ length_part l at n p.4 in
    returned l at n zs p.4 long
    ∙ ap (splice l at)
    (terms-added l at n ts c.put_lags.new.terms zs p.4 (many before) (lent l at n) kept (written before)
    c.add_terms.ensures)

use Rattle.std.proofs.Common.{◌≡◌, ℕ, suc, ◌+◌, ◌*◌, List, ◌++◌, length, set, sym, ap, ◌∙◌, add-one, arith, length-append}
use Rattle.lta_spec.proofs.WordLaws.{splice-nil}
use Rattle.signal.specs.Signal.{turn_i, turn_q}
use Rattle.lag_terms.specs.Terms.{lag_pair, lag_term, lag_terms}
use Rattle.lag_terms.proofs.TermLaws.{length-lag_terms, pair-next}
use Rattle.lag_terms.proofs.put_lags.Goals as goal

pub loop-j-init : goal.loop-j-init
loop-j-init c = sym (splice-nil _ _)

pub loop-j-preserved : goal.loop-j-preserved
loop-j-preserved c =
    let a = c.args in
    let j = c.loop-j.j in
    let xs = a.xs.now in
    let ys = a.ys.now in
    let m = a.h + 1 in
    let vs : List ℕ = lag_terms xs ys m j in
    let ws : List ℕ = vs ++ lag_pair xs ys m j j in
    let lv : length vs ≡ 4 * j = length-lag_terms xs ys m j in
    let lw : length ws ≡ 4 * j + 2 = simp length-append (omega arith) in
    let term = lag_term xs ys m in
    rw (c.put_lag-in-loop-j.ensures, c.put_lag.ensures, c.loop-j.invariant, add-one j)
    (ap (λ (r : List ℕ). set (set r (4 * j + 2) (term (suc j) j turn_i)) (4 * j + 2 + 1) (term (suc j) j turn_q))
    (pair-next a.terms.now vs (4 * j) (term j j turn_i) (term j j turn_q) lv)
    ∙ pair-next a.terms.now ws (4 * j + 2) (term (suc j) j turn_i) (term (suc j) j turn_q) lw)

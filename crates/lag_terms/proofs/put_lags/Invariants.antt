-- The loop's invariant: the terms of lags 0 to 2j - 1 are written.
use Rattle.std.proofs.Common.{◌≡◌, ◌+◌}
use Rattle.lta_spec.specs.Words.{splice}
use Rattle.lag_terms.specs.Terms.{lag_terms}
use Rattle.lag_terms.proofs.put_lags.Given as goal

abbrev pub invariant-loop-j : goal.invariant-loop-j
invariant-loop-j l = l.terms ≡ splice l.initial.terms 0 (lag_terms l.xs l.ys (l.h + 1) l.j)

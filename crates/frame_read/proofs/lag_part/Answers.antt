-- The part is lent from its place.
use native.Mathlib.Omega.{arith}
use Prim.Native.Nat.{◌+◌, ◌≤◌}
use lib.ListN.{length}
use Rattle.lta_spec.proofs.WordLaws.{lent}
use Rattle.lta_spec.proofs.RoundTrips.{lag-inside}
use Rattle.frame_read.proofs.lag_part.Goals as goal
use Rattle.frame_read.proofs.lag_part.Goals.{After-lag_span-p}

inside : (c : After-lag_span-p)
    → c.lag_span-p.result.at + c.lag_span-p.result.length ≤ length c.args.bytes.now
inside c =
    let a = c.args in rw c.lag_span-p.ensures (lag-inside a.n a.bytes.now).inside

pub overflow_add-result : goal.overflow_add-result
overflow_add-result c = omega (arith, inside (goal.at.overflow_add-result c).After-lag_span-p)

pub slice_bounds-result-end : goal.slice_bounds-result-end
slice_bounds-result-end c = omega (arith, inside (goal.at.slice_bounds-result-end c).After-lag_span-p)

pub returns : goal.returns
returns c =
    let p = c.lag_span-p in
    rw (← p.ensures) (lent c.args.bytes.now p.result.at p.result.length)

-- The verdict is the reader's, and then the test of the lag; an accepted frame has the lag.
use Rattle.std.proofs.Common.{◌≡◌, true, ltb, sym, arith, length-drop, rules}
use borrow.Author.Tests.{ltb-true}
use Rattle.lta_spec.proofs.TestLaws.{pass}
use Rattle.lta_spec.proofs.RoundTrips.{Accepted, accepted}
use Rattle.std.proofs.lemmas.List.{take_rest}
use Rattle.frame_normal.proofs.Laws.{refused_first, tested_then}
use Rattle.frame_normal.proofs.normalised_lag.Goals as goal
use Rattle.frame_normal.proofs.normalised_lag.Goals.{In_ok-kind, In_ok-unless}

fine : (c : In_ok-kind) → Accepted c.args.n c.args.bytes.now
fine c = accepted c.args.n c.args.bytes.now c.in_ok-kind.ensures.ok.0

pub slice_bounds-lag_of-start : goal.slice_bounds-lag_of-start
slice_bounds-lag_of-start c = omega (arith, (fine (goal.at.slice_bounds-lag_of-start c).In_ok-kind).size)

pub slice_bounds-lag_of-count : goal.slice_bounds-lag_of-count
slice_bounds-lag_of-count c = omega (arith, (fine (goal.at.slice_bounds-lag_of-count c).In_ok-kind).size)

passed : (c : In_ok-unless) → ltb c.args.k c.args.n ≡ true
passed c = (pass _ _ _ (sym c.in_ok-unless.ensures)).0

pub lag_of-requires : goal.lag_of-requires
lag_of-requires c =
    let a = c.args in
    let w = fine (goal.at.lag_of-requires c).In_ok-kind in
    let early = ltb-true a.k a.n (passed (goal.at.lag_of-requires c).In_ok-unless) in
    rw (take_rest a.bytes.now 2, c.in_ok-kind.ensures.ok.1) (simp length-drop (omega (arith, w.size)))

pub returns-in_err-kind : goal.returns-in_err-kind
returns-in_err-kind c =
    let a = c.args in rw (refused_first a.n a.bytes.now a.k _ c.in_err-kind.ensures.err) (search rules)

pub returns : goal.returns
returns c =
    let a = c.args in
    let kind = c.in_ok-kind.ensures.ok in
    rw (tested_then a.n a.bytes.now a.k kind.0, passed (goal.at.returns c).In_ok-unless)
    (rw (take_rest a.bytes.now 2, kind.1) at c.lag_of.ensures)

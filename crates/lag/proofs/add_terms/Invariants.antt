-- The loop's invariant: the first i terms are added, and the words behind are as they were.
use Rattle.std.proofs.Common.{◌≡◌, ℕ, ◌+◌, ◌<◌, ◌≤◌, get_or}
use Rattle.lag.proofs.add_terms.Given as goal

abbrev pub invariant-loop-i : goal.invariant-loop-i
invariant-loop-i l =
    record {
      added : (k : ℕ) → k < l.i → get_or l.row k 0 ≡ get_or l.initial.row k 0 + get_or l.terms k 0;
      ahead : (k : ℕ) → l.i ≤ k → get_or l.row k 0 ≡ get_or l.initial.row k 0;
    }

-- The loop's invariant: the first j words of each array are written.
use Rattle.std.proofs.Common.{◌≡◌, ℕ, ◌-◌, ◌<◌, get_or}
use Rattle.lag_registers.specs.Registers.{low_word}
use Rattle.lag_registers.proofs.gather.Given as goal

abbrev pub invariant-loop-j : goal.invariant-loop-j
invariant-loop-j l =
    record {
      newest_first : (k : ℕ) → k < l.j → get_or l.xs k 0 ≡ low_word l.x k;
      oldest_first : (k : ℕ) → k < l.j → get_or l.ys k 0 ≡ low_word l.y (l.m - 1 - k);
    }

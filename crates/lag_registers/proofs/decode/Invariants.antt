-- The loop's invariant: the first j entries are decoded, and those ahead are as they were.
use Rattle.std.proofs.Common.{◌≡◌, ℕ, ◌<◌, ◌≤◌, get_or}
use Rattle.lag_registers.specs.Registers.{word, Decodes}
use Rattle.lag_registers.proofs.decode.Given as goal

abbrev pub invariant-loop-j : goal.invariant-loop-j
invariant-loop-j l =
    record {
      decoded : Decodes (word l.initial.ws) l.m l.j l.ws;
      ahead : (i : ℕ) → l.j ≤ i → i < l.m → get_or l.ws i 0 ≡ get_or l.initial.ws i 0;
    }

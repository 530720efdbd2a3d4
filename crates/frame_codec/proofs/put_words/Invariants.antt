-- The loop has put the words of the first i values.
use Rattle.std.proofs.Common.{◌≡◌, ℕ, ◌*◌, map, length, take}
use Rattle.lta_spec.specs.Words.{splice}
use Rattle.lta_spec.specs.Bytes.{bytes_of}
use Rattle.frame_codec.specs.Makes.{Makes}
use Rattle.frame_codec.proofs.put_words.Given as goal

abbrev pub invariant-loop-i : goal.invariant-loop-i
invariant-loop-i g l =
    record {
      long : length l.s ≡ length l.initial.s;
      put : (f : _ → ℕ) → Makes (goal.F-post g l.word) f l.values
          → l.s ≡ splice l.initial.s (4 * l.k) (bytes_of (take l.i (map f l.values)));
    }

-- Why a script may be read in blocks, each behind what the blocks before it left. proofs/Blocks.antt proves it.
use Rattle.std.specs.Prelude.{ℕ, ◌<◌, ◌≡◌, true, false, List, ◌++◌, length}
use Rattle.script_bytes.specs.Bytes.{unknown_mark, none, behind, records_in}

pub record InBlocks : Type 0 where
  -- the records of bytes a and then b are those of a, and behind them those of what a leaves and then b
  pub joins : (a b : List ℕ) → records_in (a ++ b) ≡ behind (records_in a).list (records_in ((records_in a).left ++ b))
  -- behind an unknown mark no record stands, whatever follows
  pub stops : (a b : List ℕ) → unknown_mark a ≡ true → records_in (a ++ b) ≡ none (a ++ b)
  -- what is left else is the front of a record, shorter than the longest, so a block of 7 bytes has room for more
  pub short : (a : List ℕ) → unknown_mark (records_in a).left ≡ false → length (records_in a).left < 7

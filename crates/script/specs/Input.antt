-- What reading a script block by block says of the block and of work memory.
use Rattle.std.specs.Prelude.{ℕ, ◌≡◌, List}
use Rattle.script_bytes.specs.Bytes.{records_in}
use Rattle.script_block.specs.Block.{Left, end_number}
use Rattle.script.specs.Run.{script_leaves}

-- A reader may promise nothing of the bytes that come, so this speaks of some input: work memory is as its records
-- leave it, and the block starts with what is left of it
pub record ReadOn (before after : List ℕ) (kept : ℕ) (block : List ℕ) : Type 0 where
  pub input : List ℕ
  pub leaves : after ≡ script_leaves input before
  pub left : Left input kept block

-- the same at the END line, with the number for what is left
pub record Ended (before after : List ℕ) (number : ℕ) : Type 0 where
  pub input : List ℕ
  pub leaves : after ≡ script_leaves input before
  pub ends : number ≡ end_number (records_in input).left

-- A block of a script's bytes: what is read into it, what stays at its front, and what its END line says.
use Rattle.std.specs.Prelude.{ℕ, ◌≤◌, ◌≡◌, cond, List, eqb, length, take}
use Rattle.lta_spec.specs.Refusals.{refusal_number}
use Rattle.lta_spec.specs.declared.Refusal.TheVariants.{BadRecord}
use Rattle.script_bytes.specs.Bytes.{records_in}

-- a block that was read into behind its first bytes has n bytes, and those first ones as they were
pub record Filled (kept : ℕ) (before : List ℕ) (n : ℕ) (after : List ℕ) : Type 0 where
  pub more : kept ≤ n
  pub inside : n ≤ length after
  pub same : take kept after ≡ take kept before

-- the first bytes of a block are what some bytes leave
pub record Left (bytes : List ℕ) (kept : ℕ) (block : List ℕ) : Type 0 where
  pub inside : kept ≤ length block
  pub is : take kept block ≡ (records_in bytes).left

-- "Last line: END and 0 or 17", by what is left of the input
abbrev pub end_number : (left : List ℕ) → ℕ
end_number left = cond (eqb (length left) 0) 0 (refusal_number BadRecord)

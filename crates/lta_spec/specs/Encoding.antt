-- The clauses of 11 that work memory has in encoded form, tied to document 01's words. proofs/Encoding.antt proves it.
use Rattle.std.specs.Prelude.{ℕ, ◌*◌, ◌^◌, ◌<◌, ◌≡◌, true}
use Rattle.lta_spec.specs.Shape.{bin_limit, run_limit, peak}
use Rattle.lta_spec.specs.Frame.{within}
use Rattle.lta_spec.specs.Row.{unbiased, sum_ok, entry_word, entry_ok}

-- a sampler byte and its validity bit that are stored as a word
pub record Gives (w : ℕ) : Type 0 where
  pub byte : ℕ
  pub bit : ℕ
  pub small : byte < 256
  pub either : bit < 2
  pub stored : entry_word byte bit ≡ w

pub record Encoding : Type 0 where
  -- "a sum passes 98 × ticks in size", by request 2026-06 128 × ticks: a stored sum is allowed exactly when its sum
  -- does not
  pub sums : (ticks stored : ℕ) → sum_ok ticks stored ≡ within (128 * ticks) (unbiased ticks stored)
  -- "no frame's sum passes 32 bits", with its sign; and a loss's stored sum fits a word
  pub frame-sums : peak * bin_limit < 2 ^ 31
  pub loss-sums : 2 * peak * run_limit < 2 ^ 64
  -- "a shift register entry is one that no sampler byte gives": a word is allowed exactly when some byte and validity
  -- bit give it
  pub entries : (w : ℕ) → entry_ok w ≡ true → Gives w
  pub bytes : (w : ℕ) → Gives w → entry_ok w ≡ true

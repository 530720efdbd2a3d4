-- The text of a script in a lent buffer: its lines, and the END line behind them.
use Prim.Native.Nat.{ℕ, ◌+◌, ◌≤◌, ◌<◌}
use mathlib.Core.Path.{◌≡◌, refl, ap, ◌∙◌}
use mathlib.Core.Bool.{Bool, true, false, cond}
use mathlib.Core.List.{List}
use native.Mathlib.Omega.{arith}
use lib.Dec.{eqb, leb}
use lib.ListN.{length, length-append}
use Rattle.lta_spec.specs.Words.{splice}
use Rattle.std.specs.Prelude.{Ok, Err}
use Rattle.lta_spec.specs.Refusals.{Verdict}
use Rattle.lta_spec.specs.Answer.{refusal}
use Rattle.lta_spec.specs.Answer.Answer.{number}
use Rattle.lta_spec.specs.declared.Refusal.{Refusal}
use Rattle.lta_spec.specs.declared.Refusal.TheVariants.{ShortBuffer}
use Rattle.lta_spec.proofs.WordLaws.{splice-behind}
use Rattle.script_bytes.specs.Bytes.{records_in}
use Rattle.script_block.specs.Block.{end_number}
use Rattle.script_lines.specs.Lines.{end_line}
use Rattle.script_lines.proofs.LengthLaws.{end-most}
use Rattle.script.specs.Run.{script_leaves}
use Rattle.script.specs.Text.{script_lines, script_text, text_room, script_step, Inside}

-- the END line has at most 7 bytes
small_by : (none : Bool) → cond none 0 17 < 100
small_by true = omega arith
small_by false = omega arith

pub end_short : (left : List ℕ) {n : ℕ} → n ≡ end_number left → length (end_line n) ≤ 7
end_short left e = rw e (end-most (end_number left) (small_by (eqb (length left) 0)))

-- the test on the room fails
pub short : (room : Bool) (e : Refusal) → cond {A = Verdict} room (Ok tt) (Err ShortBuffer) ≡ Err e
    → (room ≡ false) × (ShortBuffer ≡ e)
short true e h = let never : ◌≡◌ {A = ℕ} 0 1 = cc in absurd (omega arith)
short false e h = let same : ShortBuffer ≡ e = cc in (refl, same)

-- a length that is answered, and a refusal
pub length-inside : (n : ℕ) (out : List ℕ) → n ≤ length out → Inside (number n) out
length-inside n out h k e = let same : n ≡ k = cc in omega arith

pub refused-inside : (out : List ℕ) → Inside (refusal ShortBuffer) out
refused-inside out k e = let never : ◌≡◌ {A = ℕ} 0 1 = cc in absurd (omega arith)

module _ (bytes out mem : List ℕ) where
  -- too little room: nothing changes
  module _ (short : leb (text_room (length bytes)) (length out) ≡ false) where
    pub refused-text : (refusal ShortBuffer ≡ (script_step bytes out mem).answer)
        × ((out ≡ (script_step bytes out mem).out) × (mem ≡ (script_step bytes out mem).mem))
    unfolding script_step
    refused-text = rw short (refl, (refl, refl))

  -- the lines were put, and behind them the END line
  module _ (room : leb (text_room (length bytes)) (length out) ≡ true) {after lines put : List ℕ} {len n end : ℕ}
      (leaves : after ≡ script_leaves bytes mem) (counts : len ≡ length (script_lines bytes mem))
      (prints : lines ≡ splice out 0 (script_lines bytes mem)) (ends : n ≡ end_number (records_in bytes).left)
      (behind : end ≡ len + length (end_line n)) (is : put ≡ splice lines len (end_line n)) where
    last : List ℕ
    last = end_line (end_number (records_in bytes).left)

    text-put : put ≡ splice out 0 (script_text bytes mem)
    unfolding script_text last
    text-put =
        splice-behind out 0 (script_lines bytes mem) last prints (omega (arith, counts))
        (is ∙ ap (λ n. splice lines len (end_line n)) ends)

    text-length : end ≡ length (script_text bytes mem)
    unfolding script_text last
    text-length =
        behind
        ∙ (ap (λ n. len + length (end_line n)) ends
        ∙ omega (arith, counts, length-append (script_lines bytes mem) last))

    pub accepted-text : (number end ≡ (script_step bytes out mem).answer)
        × ((put ≡ (script_step bytes out mem).out) × (after ≡ (script_step bytes out mem).mem))
    unfolding script_step
    accepted-text = rw room (ap number text-length, (text-put, leaves))

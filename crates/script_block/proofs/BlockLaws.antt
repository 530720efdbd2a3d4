-- What is left of a block's bytes, once it stands at the front.
use Prim.Native.Nat.{ℕ, ◌+◌, ◌-◌, ◌≤◌}
use mathlib.Core.Path.{◌≡◌, sym, ap, ◌∙◌}
use mathlib.Core.List.{List, ◌++◌}
use native.Mathlib.Nat.{zero-add}
use native.Mathlib.Omega.{arith}
use lib.ListN.{length, take, drop, length-drop}
use lib.Seq.{length-take-le, take-add, drop_at}
use Rattle.std.specs.List.{copy_within}
use Rattle.std.proofs.lemmas.List.Edits.{take-paste}
use Rattle.script_bytes.specs.Bytes.{records_in, stops_at}
use Rattle.script_bytes.proofs.ListLaws.{rest}
use Rattle.script_block.specs.Block.{Left}

-- bytes moved to the front
front-moved : (block : List ℕ) (at n : ℕ) → n ≤ length block
    → take (n - at) (copy_within block at n 0) ≡ take (n - at) (drop at block)
front-moved block at n inside =
    let m = n - at in
    let front = take-paste block 0 (drop at block) m (omega arith) (omega (arith, length-drop at block)) in
    rw (zero-add m) (rw zero-add at front)

-- the first n bytes of a block, their records run, and what is left of them at the front
module _ (block : List ℕ) (n : ℕ) (inside : n ≤ length block) where
  abbrev bytes : List ℕ
  bytes = take n block

  counted : length bytes ≡ n
  counted = length-take-le n block inside

  stops-inside : stops_at bytes ≤ n
  stops-inside = omega (arith, counted)

  pub left-moved : (at : ℕ) → at ≡ stops_at bytes → {after : List ℕ} → length after ≡ length block
      → after ≡ copy_within block at n 0 → Left bytes (n - at) after
  left-moved at stops same moved =
      let all : at + (n - at) ≡ n = omega (arith, stops-inside) in
      let room : at ≤ length block = omega (arith, stops-inside) in
      let split : bytes ≡ take at block ++ take (n - at) (drop at block) =
      ap (λ k. take k block) (sym all) ∙ take-add at (n - at) block in
      let behind : drop at bytes ≡ take (n - at) (drop at block) =
      ap (drop at) split ∙ drop_at (take at block) (take (n - at) (drop at block)) at (length-take-le at block room) in
      let left : (records_in bytes).left ≡ drop at bytes =
      (rest bytes).is ∙ ap (λ k. drop k bytes) (sym stops) in
      record {
        inside = omega (arith, inside, same);
        is = ap (take (n - at)) moved ∙ (front-moved block at n inside ∙ (sym behind ∙ sym left));
      }

-- An accepted emission, and the words of its bin as the frame's writer takes them.
use Rattle.std.specs.Prelude.{Ok}
use mathlib.Core.Path.{◌≡◌, refl, sym, ap, ap₂, ◌∙◌}
use mathlib.Core.List.{List}
use Prim.Native.Nat.{ℕ, ◌+◌, ◌*◌, ◌-◌, ◌<◌}
use native.Mathlib.Omega.{arith}
use lib.ListN.{length, get_or, take, drop}
use Rattle.lta_spec.specs.Shape.{bin_limit}
use Rattle.lta_spec.specs.Size.{row_words}
use Rattle.lta_spec.specs.Place.{Stamped}
use Rattle.lta_spec.specs.Frame.{accumulated}
use Rattle.lta_spec.specs.Call.{bin_index}
use Rattle.lta_spec.specs.Call.Call.{emit}
use Rattle.lta_spec.specs.Engine.{Row, stamped, bin_at}
use Rattle.lta_spec.specs.Damage as D
use Rattle.lta_spec.specs.Step as S
use Rattle.lta_spec.specs.declared.Shape.{Shape}
use Rattle.lta_spec.proofs.TestLaws.{and_both}
use Rattle.lta_spec.proofs.Passed.{emit-passed}
use Rattle.lta_spec.proofs.WordLaws.{lent}
use Rattle.cell_layout.specs.Offsets.{state_at, bin_row_at}
use Rattle.cell_layout.specs.Cells.{Fits, places_of}
use Rattle.cell_layout.proofs.LaysLaws.{word_of, row_of, row-length}
use Rattle.cell_layout.proofs.CellLaws.{laid}
use Rattle.cell_layout.proofs.Fields as F
use Rattle.frame_fields.specs.Emits.{Emits}
use Rattle.frame_fields.proofs.Laws.{content-emits}
use Rattle.call_run.specs.Runs.{run_of}
use Rattle.call_run.proofs.RunLaws.{shape-ok, shape_is}
use Rattle.call_run.proofs.StepLaws.{cell-shown}
use Rattle.call_run.proofs.ViewLaws.{CellPart}
use Rattle.call_emit.specs.Emission.{EmitsFrom, frame_at}

-- what the tests of an emission showed
pub emits : (s : Shape) (mem : List ℕ) (c bank bin : ℕ) (out : List ℕ)
    → (Ok tt) ≡ S.verdict s mem (emit c bank bin out) → EmitsFrom s mem c bank bin out
unfolding run_of S.verdict
emits s mem c bank bin out e =
    let p = emit-passed s mem c bank bin out (sym e) in
    record {
      cell = (cell-shown s mem c _ e).0;
      named = record { banked = p.in_banks; numbered = p.in_bins };
      limited = p.time;
      sound = p.sound;
      some = p.some;
      room = p.room;
    }

-- the place k of a bin in its cell's list, where its words start, and how many its row has
pub record BinAt (s : Shape) (bank bin k at w : ℕ) : Type 0 where
  pub number : k ≡ bin_index s.bins bank bin
  pub below : k < 2 * s.bins
  pub start : at ≡ state_at s.lags k
  pub width : w ≡ row_words s.lags

-- the stamp and the row of the bin, as code has them from the cell's words
module _ {s : Shape} {mem : List ℕ} {c bank bin : ℕ} {out : List ℕ} (q : EmitsFrom s mem c bank bin out)
    {cell : List ℕ} (p : CellPart s mem c cell) {k at w : ℕ} (b : BinAt s bank bin k at w) where
  abbrev n : ℕ
  n = s.lags

  fits : Fits cell n s.bins
  fits = let h = shape_is s mem q.cell.hosted in record { size = p.size; lags = h.lags; bins = h.bins }

  abbrev content : Stamped Row
  content = (bin_at n (bin_index s.bins bank bin) (S.cell_at s c (run_of s mem))).content

  abbrev lent_stamp : ℕ
  lent_stamp = get_or cell (at + 1) 0

  abbrev lent_row : List ℕ
  lent_row = take (at + 2 + w - (at + 2)) (drop (at + 2) cell)

  same : (bin_at n k (places_of n s.bins cell)).content ≡ content
  same =
      ap (λ u. (bin_at n k u.cell).content) p.unit
      ∙ ap (λ i. (bin_at n i (S.cell_at s c (run_of s mem))).content) b.number

  stamp-is : lent_stamp ≡ content.stamp
  stamp-is =
      rw b.start (word_of (laid fits) (F.bin_stamp n s.bins k b.below)) ∙ ap (λ (x : Stamped Row). x.stamp) same

  row_is : lent_row ≡ content.members
  row_is =
      rw (b.start, b.width, lent cell (bin_row_at n k) (row_words n))
      (row_of (laid fits) (F.bin_row n s.bins k b.below))
      ∙ ap (λ (x : Stamped Row). x.members) same

  pub emits-bin : Emits s accumulated c bank bin lent_stamp lent_row
  unfolding D.emit_sound
  emits-bin =
      let size : length content.members ≡ row_words n =
      ap (λ (x : Stamped Row). length x.members) (sym same)
      ∙ row-length (laid fits) (F.bin_row n s.bins k b.below) in
      rw (stamp-is, row_is)
      (content-emits s accumulated c bank bin bin_limit (run_of s mem).t content (shape-ok s mem q.cell.hosted)
      refl q.cell.there q.named.banked q.named.numbered size (omega arith) q.limited
      (and_both (D.content_ok bin_limit (run_of s mem).t content) _ q.sound).0)

  pub frame_is : S.row_frame s accumulated c bank bin (stamped lent_row lent_stamp)
      ≡ frame_at s c bank bin (run_of s mem)
  frame_is = ap₂ (λ x y. S.row_frame s accumulated c bank bin (stamped x y)) row_is stamp-is

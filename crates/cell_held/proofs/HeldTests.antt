-- The tests of refusal 11 on Held and its label, by the words.
use mathlib.Core.Path.{◌≡◌}
use mathlib.Core.Bool.{◌&&◌, ◌||◌}
use mathlib.Core.List.{List}
use Prim.Native.Nat.{ℕ}
use lib.Dec.{leb, ltb, eqb}
use lib.ListN.{get_or}
use Rattle.lta_spec.specs.Words.{part}
use Rattle.lta_spec.specs.Shape.{open_limit}
use Rattle.lta_spec.specs.Size.{row_words}
use Rattle.lta_spec.specs.Call.{last}
use Rattle.lta_spec.specs.Row.{row_ok}
use Rattle.lta_spec.specs.Damage.{held_ok, label_ok}
use Rattle.cell_layout.specs.Offsets.{occupied_at, command_at, bank_at, data_bin_at, held_stamp_at, held_row_at}
use Rattle.cell_layout.specs.Cells.{Fits, places_of}
use Rattle.cell_layout.proofs.LaysLaws.{word_of, row_of}
use Rattle.cell_layout.proofs.Fields as F
use Rattle.cell_layout.proofs.CellLaws.{laid}
use Rattle.cell_parts.proofs.PartLaws.{held-ticks, occupied-is}

module _ {l : List ℕ} {n bins : ℕ} (f : Fits l n bins) where
  pub held_test : (t : ℕ)
      → (row_ok open_limit (part (held_row_at n) (row_words n) l) && leb (get_or l held_stamp_at 0) t)
      && (leb (get_or l occupied_at 0) 1 && (leb 1 (get_or l occupied_at 0) || eqb (get_or l (held_row_at n) 0) 0))
      ≡ held_ok t (places_of n bins l).held
  held_test t =
      rw (held-ticks f, row_of (laid f) (F.held_row n bins), word_of (laid f) (F.held_stamp n bins), occupied-is f)

  pub label-test : leb (get_or l command_at 0) last
      && (ltb (get_or l bank_at 0) 2 && ltb (get_or l data_bin_at 0) bins)
      ≡ label_ok bins (places_of n bins l).held.label
  label-test =
      rw
      (word_of (laid f) (F.command n bins), word_of (laid f) (F.bank n bins), word_of (laid f) (F.data_bin n bins))

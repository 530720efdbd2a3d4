-- The tests of a tick, by the words.
use mathlib.Core.Path.{◌≡◌}
use mathlib.Core.Bool.{◌&&◌, ◌||◌}
use mathlib.Core.List.{List}
use Prim.Native.Nat.{ℕ}
use lib.Dec.{ltb}
use lib.ListN.{get_or}
use Rattle.lta_spec.specs.Words.{part, every}
use Rattle.lta_spec.specs.Shape.{open_limit}
use Rattle.lta_spec.specs.Size.{depth}
use Rattle.lta_spec.specs.Place.{holdoff}
use Rattle.lta_spec.specs.Row.{entry_ok}
use Rattle.lta_spec.specs.Engine as E
use Rattle.lta_spec.specs.Damage as D
use Rattle.cell_layout.specs.Offsets.{open_row_at, xs_at, ys_at}
use Rattle.cell_layout.specs.Cells.{Fits, unit_of, places_of}
use Rattle.cell_layout.proofs.LaysLaws.{row_of}
use Rattle.cell_layout.proofs.Fields as F
use Rattle.cell_layout.proofs.CellLaws.{laid}
use Rattle.cell_parts.proofs.PartLaws.{open-ticks}

module _ {l : List ℕ} {n bins : ℕ} (f : Fits l n bins) where
  pub tick-test : (t : ℕ)
      → (every entry_ok (part (xs_at n) (depth n) l) && every entry_ok (part (ys_at n) (depth n) l))
      && (D.open_ok t (places_of n bins l)
      && (D.losses_ok (places_of n bins l).losses
      && (ltb (get_or l open_row_at 0) open_limit || D.loss_holds n holdoff 1 (places_of n bins l))))
      ≡ D.tick_sound n t (unit_of n bins l)
  unfolding D.tick_sound E.has_room
  tick-test t = rw (row_of (laid f) (F.xs n bins), row_of (laid f) (F.ys n bins), open-ticks f)

-- The words of a bin: stores and moves in a cell with bin k in view, and the tests of a bin.
use mathlib.Core.Path.{◌≡◌}
use mathlib.Core.Bool.{◌&&◌, ◌||◌}
use mathlib.Core.List.{List}
use Prim.Native.Nat.{ℕ, ◌*◌, ◌<◌}
use native.Mathlib.Omega.{arith}
use lib.Dec.{leb, eqb}
use lib.ListN.{length, get_or, set}
use lib.Seq.{get_or-set_same, set-set, set-get_or}
use Rattle.lta_spec.specs.Words.{part, splice, sums}
use Rattle.lta_spec.specs.Shape.{bin_limit}
use Rattle.lta_spec.specs.Size.{row_words}
use Rattle.lta_spec.specs.Place.{Held, Bin, loss_count, free, ready}
use Rattle.lta_spec.specs.Row.{ticks_of, empty_row, row_ok}
use Rattle.lta_spec.specs.Engine as E
use Rattle.lta_spec.specs.Engine.{Row, Unit, stamped, free_bin, lose, bin_at}
use Rattle.lta_spec.specs.Damage.{emit_sound}
use Rattle.lta_spec.specs.Memory.{unit_layout}
use Rattle.lta_spec.proofs.WordLaws.{length-zeros}
use Rattle.words.specs.Moves.{folded}
use Rattle.cell_layout.specs.Lays.{Lays}
use Rattle.cell_layout.specs.Offsets.{held_row_at, loss_row_at, state_at, stamp_at, bin_row_at}
use Rattle.cell_layout.specs.Cells.{Fits, unit_of, places_of, with_places}
use Rattle.cell_layout.proofs.LaysLaws.{word_of, row_of, row_first, lays-set, lays-row, lays-move}
use Rattle.cell_layout.proofs.Fields as F
use Rattle.cell_layout.proofs.CellLaws.{laid, lists}

-- a cell with Held, the losses and bin k as given
abbrev pub with' : Unit → (h : Held Row) (ls : List Row) (k : ℕ) (b : Bin Row) → Unit
with' u h ls k b =
    with_places u
    (record { opened = u.cell.opened; held = h; bins = set u.cell.bins k b; losses = ls })

abbrev pub held' : Held Row → Row → Held Row
held' h r = record { occupied = h.occupied; label = h.label; content = stamped r h.content.stamp }

-- stores and moves on a cell in that form
module _ (n bins k : ℕ) (j : k < 2 * bins) (u : Unit) (long : k < length u.cell.bins) where
  pub lays-start : {l : List ℕ} → Lays (unit_layout n bins) l u
      → Lays (unit_layout n bins) l (with' u u.cell.held u.cell.losses k (bin_at n k u.cell))
  unfolding bin_at
  lays-start s = rw (set-get_or u.cell.bins k (free_bin n)) s

  module _ {l : List ℕ} {h : Held Row} {ls : List Row} (b : Bin Row)
      (s : Lays (unit_layout n bins) l (with' u h ls k b))
    where
      pub same : bin_at n k (with' u h ls k b).cell ≡ b
      unfolding bin_at
      same = get_or-set_same u.cell.bins k b (free_bin n) long

      pub lays-state : (v : ℕ)
          → Lays (unit_layout n bins) (set l (state_at n k) v)
          (with' u h ls k (record { state = v; content = b.content }))
      lays-state v = rw (same, set-set u.cell.bins k b _) at (lays-set s (F.bin_state n bins k j) v)

      pub lays-stamp : (v : ℕ)
          → Lays (unit_layout n bins) (set l (stamp_at n k) v)
          (with' u h ls k (record { state = b.state; content = stamped b.content.members v }))
      lays-stamp v = rw (same, set-set u.cell.bins k b _) at (lays-set s (F.bin_stamp n bins k j) v)

      pub lays-row' : (r : Row) → length r ≡ row_words n
          → Lays (unit_layout n bins) (splice l (bin_row_at n k) r)
          (with' u h ls k (record { state = b.state; content = stamped r b.content.stamp }))
      lays-row' r e = rw (same, set-set u.cell.bins k b _) at (lays-row s (F.bin_row n bins k j) r e)

      -- the bin's row to loss i, and Held's to the bin
      pub lays-drop : (i : ℕ) → i < loss_count
          → Lays (unit_layout n bins) (folded l (bin_row_at n k) (loss_row_at n i) (row_words n))
          (with' u h (lose n i b.content.members ls) k
          (record { state = b.state; content = stamped (empty_row n) b.content.stamp }))
      unfolding lose bin_at
      lays-drop i g =
          rw (same, set-set u.cell.bins k b _) at (lays-move s (F.bin_row n bins k j) (F.loss n bins i g))

      pub lays-join : Lays (unit_layout n bins) (folded l (held_row_at n) (bin_row_at n k) (row_words n))
          (with' u (held' h (empty_row n)) ls k
          (record {
            state = b.state;
            content = stamped (sums b.content.members h.content.members) b.content.stamp;
          }))
      lays-join = rw (same, set-set u.cell.bins k b _) at (lays-move s (F.held_row n bins) (F.bin_row n bins k j))

-- bin k of a slice that fits
module _ {l : List ℕ} {n bins : ℕ} (f : Fits l n bins) (k : ℕ) (j : k < 2 * bins) where
  pub bins-long : k < length (places_of n bins l).bins
  bins-long = omega (arith, (lists f).bins.0)

  abbrev pub start : Lays (unit_layout n bins) l
      (with' (unit_of n bins l) (places_of n bins l).held (places_of n bins l).losses k
      (bin_at n k (places_of n bins l)))
  start = lays-start n bins k j (unit_of n bins l) bins-long (laid f)

  -- the words of the bin
  pub state-is : get_or l (state_at n k) 0 ≡ (bin_at n k (places_of n bins l)).state
  state-is = word_of (laid f) (F.bin_state n bins k j)

  pub stamp-is : get_or l (stamp_at n k) 0 ≡ (bin_at n k (places_of n bins l)).content.stamp
  stamp-is = word_of (laid f) (F.bin_stamp n bins k j)

  pub bin-ticks : get_or l (bin_row_at n k) 0 ≡ ticks_of (bin_at n k (places_of n bins l)).content.members
  bin-ticks = row_first (laid f) (F.bin_row n bins k j) (omega arith)

  pub bin-test : (t : ℕ)
      → (row_ok bin_limit (part (bin_row_at n k) (row_words n) l) && leb (get_or l (stamp_at n k) 0) t)
      && (leb (get_or l (state_at n k) 0) ready
      && (leb 1 (get_or l (state_at n k) 0) || eqb (get_or l (bin_row_at n k) 0) 0))
      ≡ emit_sound n t k (places_of n bins l)
  unfolding emit_sound
  bin-test t = rw (bin-ticks, row_of (laid f) (F.bin_row n bins k j), stamp-is, state-is)

  pub lays-empty-bin : Lays (unit_layout n bins) (set (splice l (bin_row_at n k) (empty_row n)) (state_at n k) free)
      (with_places (unit_of n bins l) (E.empty_bin n k (places_of n bins l)))
  unfolding E.empty_bin
  lays-empty-bin =
      let u = unit_of n bins l in
      let a = lays-row' n bins k j u bins-long _ start (empty_row n) (length-zeros (row_words n)) in
      lays-state n bins k j u bins-long _ a free

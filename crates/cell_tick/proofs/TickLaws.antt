-- The words after a tick are the cell after a tick.
use mathlib.Core.Path.{◌≡◌, sym, ap, ◌∙◌}
use mathlib.Core.Bool.{Bool, true, false, not}
use mathlib.Core.List.{List, map}
use Prim.Native.Nat.{ℕ, ◌+◌, ◌*◌, ◌<◌, ◌≤◌, ◌^◌}
use native.Mathlib.Omega.{arith}
use lib.Dec.{eqb, ltb}
use lib.ListN.{length, get_or}
use mir.Val.{bool_byte}
use borrow.Author.Tests.{ne_eqb, lt-ltb, le-ltb}
use Rattle.lta_spec.specs.Words.{part, splice, sums}
use Rattle.lta_spec.specs.Shape.{open_limit, peak}
use Rattle.lta_spec.specs.Size.{row_words, depth}
use Rattle.lta_spec.specs.Place.{holdoff}
use Rattle.lta_spec.specs.Tick.{Entry}
use Rattle.lta_spec.specs.Row.{row_ok, tick_row, from_word}
use Rattle.lta_spec.specs.Layout.{block}
use Rattle.lta_spec.specs.Engine as E
use Rattle.lta_spec.specs.Engine.{Unit, loss_at}
use Rattle.lta_spec.specs.Damage as D
use Rattle.lta_spec.specs.Memory.{unit_layout}
use Rattle.lta_spec.proofs.WordLaws.{length-sums}
use Rattle.lta_spec.proofs.TestLaws.{and_both}
use Rattle.lta_spec.proofs.LayoutLaws.{Long}
use Rattle.lag.proofs.RowLaws.{length-lag_row}
use Rattle.cell_layout.specs.Lays.{Lays}
use Rattle.cell_layout.specs.Offsets.{open_row_at, loss_row_at, xs_at, ys_at}
use Rattle.cell_layout.specs.Cells.{Fits, Small, unit_of, places_of}
use Rattle.cell_layout.proofs.Field.{Field}
use Rattle.cell_layout.proofs.LaysLaws.{row_of, row_in, row_word, row-length, lays-row}
use Rattle.cell_layout.proofs.Fields as F
use Rattle.cell_layout.proofs.RowLaws.{small_row}
use Rattle.cell_parts.proofs.PartLaws.{open-ticks, loss-small}
use Rattle.cell_shift.specs.Shifts.{moved}
use Rattle.cell_tick.specs.Ticks.{Sound, row_for, Ticked}

-- what the words of a cell and its tests say of a tick
module _ {l : List ℕ} {n bins : ℕ} (f : Fits l n bins) where
  -- where a tick goes, by the word of Open's ticks
  room-is : E.has_room n (places_of n bins l) ≡ ltb (get_or l open_row_at 0) open_limit
  unfolding E.has_room
  room-is = ap (λ a. ltb a open_limit) (sym (open-ticks f))

  pub goes-open : get_or l open_row_at 0 < open_limit → open_row_at ≡ row_for n (E.has_room n (places_of n bins l))
  goes-open h = sym (rw (room-is, lt-ltb _ _ h))

  pub goes-held-off : open_limit ≤ get_or l open_row_at 0
      → loss_row_at n holdoff ≡ row_for n (E.has_room n (places_of n bins l))
  goes-held-off h = sym (rw (room-is, le-ltb _ _ h))

  -- Open and loss 6 are small
  module _ (s : Sound n (unit_of n bins l)) where
    pub tick-open-small : Small (places_of n bins l).opened.members
    unfolding D.tick_sound
    tick-open-small =
        let c = places_of n bins l in
        let a = and_both (D.registers_ok (unit_of n bins l)) _ s.sound in
        let b = and_both (D.open_ok s.t c) _ a.1 in
        small_row open_limit c.opened.members
        (and_both (row_ok open_limit c.opened.members) _ b.0).0 (omega arith)

    pub tick-loss-small : Small (loss_at n holdoff (places_of n bins l).losses)
    unfolding D.tick_sound
    tick-loss-small =
        let c = places_of n bins l in
        let a = and_both (D.registers_ok (unit_of n bins l)) _ s.sound in
        let b = and_both (D.open_ok s.t c) _ a.1 in
        loss-small f holdoff (omega arith) (and_both (D.losses_ok c.losses) _ b.1).0

length-tick_row : (n : ℕ) (xs ys : List Entry) → length (tick_row n xs ys) ≡ row_words n
unfolding tick_row
length-tick_row n xs ys = omega (arith, length-lag_row n xs ys n 0)

-- the words after what the tick of the registers adds was added to the row at `to`
abbrev pub added_at : (l : List ℕ) (n to : ℕ) → List ℕ
added_at l n to =
    splice l to
    (sums (part to (row_words n) l)
    (tick_row n (map from_word (part (xs_at n) (depth n) l)) (map from_word (part (ys_at n) (depth n) l))))

module _ (n bins : ℕ) {l : List ℕ} {u : Unit} (s : Lays (unit_layout n bins) l u) where
  pub lays-add : {at : ℕ} {view : Unit → List ℕ} {over : Unit → List ℕ → Unit}
      → Field (unit_layout n bins) (block (row_words n)) (Long (row_words n)) at view over
      → Lays (unit_layout n bins) (added_at l n at)
      (over u (sums (view u) (tick_row n (map from_word u.xs) (map from_word u.ys))))
  lays-add {view = view} k =
      let e = row-length s k in
      let r = tick_row n (map from_word u.xs) (map from_word u.ys) in
      rw (row_of s k, row_of s (F.xs n bins), row_of s (F.ys n bins))
      (lays-row s k (sums (view u) r)
      (length-sums (view u) r (e ∙ sym (length-tick_row n (map from_word u.xs) (map from_word u.ys))) ∙ e))

-- the two rows of a tick: u is the cell as the tick finds it, and l its words after the registers moved
module _ (n bins x y : ℕ) (u : Unit) {l : List ℕ} (s : Lays (unit_layout n bins) l (moved n x y u)) where
  pub row_within : (b : Bool) → row_for n b + row_words n ≤ length l
  row_within true = row_in s (F.open_row n bins)
  row_within false = row_in s (F.loss n bins holdoff (omega arith))

  pub row_room : (b : Bool) → Small u.cell.opened.members → Small (loss_at n holdoff u.cell.losses) → (i : ℕ)
      → i < row_words n → get_or l (row_for n b + i) 0 + 2 * peak < 2 ^ 64
  row_room true p q i h = omega (arith, row_word s (F.open_row n bins) i h, p i)
  row_room false p q i h = omega (arith, row_word s (F.loss n bins holdoff (omega arith)) i h, q i)

  -- a tick that is added to its row, and whether that is not Open's
  pub ticks : (b : Bool) → E.has_room n u.cell ≡ b
      → Ticked n bins x y u (bool_byte (not (eqb (row_for n b) open_row_at))) (added_at l n (row_for n b))
  unfolding E.tick_unit E.tick_by E.lose
  ticks true e = record { held-off = sym (rw e); words = rw e (lays-add n bins s (F.open_row n bins)) }
  ticks false e =
      let apart : eqb (loss_row_at n holdoff) open_row_at ≡ false =
      ne_eqb (loss_row_at n holdoff) open_row_at (λ q. omega arith) in
      record {
        held-off = rw (apart, e);
        words = rw e (lays-add n bins s (F.loss n bins holdoff (omega arith)));
      }

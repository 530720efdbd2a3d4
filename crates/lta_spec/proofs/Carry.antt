-- Each rule of the engine's cell is the machine's, carried over by the rows of its sets.
use Prim.Native.Nat.{ℕ, zero, suc, ◌+◌}
use mathlib.Core.Path.{◌≡◌, refl, sym, ap, ◌∙◌}
use mathlib.Core.Bool.{Bool, true, false, ◌&&◌}
use mathlib.Core.List.{List, [], ◌∷◌, ◌++◌, map}
use lib.Dec.{ltb, eqb}
use lib.ListN.{get_or, set, length, get_or-map}
use Rattle.lta_spec.specs.Shape.{bin_limit}
use Rattle.lta_spec.specs.Tick.{Sample}
use Rattle.lta_spec.specs.Place.{Label, Stamped, Bin, Cell, Result, filling, ready}
use Rattle.lta_spec.specs.Call.{save, discard, idle, bin_index}
use Rattle.lta_spec.specs.Machine as M
use Rattle.lta_spec.specs.Machine.{Ticks}
use Rattle.lta_spec.specs.Engine as E
use Rattle.lta_spec.specs.Engine.{Row}
use Rattle.lta_spec.proofs.RowLaws.{numbers, numbers-join, numbers-size}

-- every place's contents through f
unfoldable pub map_stamped : (Ticks → Row) → Stamped Ticks → Stamped Row
map_stamped f p = record { members = f p.members; stamp = p.stamp }

unfoldable pub map_bin : (Ticks → Row) → Bin Ticks → Bin Row
map_bin f b = record { state = b.state; content = map_stamped f b.content }

unfoldable pub map_cell : (Ticks → Row) → Cell Ticks → Cell Row
map_cell f c =
    record {
      opened = map_stamped f c.opened;
      held = record { occupied = c.held.occupied; label = c.held.label; content = map_stamped f c.held.content };
      bins = map (map_bin f) c.bins;
      losses = map f c.losses;
    }

unfoldable pub map_result : (Ticks → Row) → Result Ticks → Result Row
map_result f r = record { answer = r.answer; cell = map_cell f r.cell }

pub map-set : {A B : Type 0} (f : A → B) (l : List A) (i : ℕ) (a : A) → map f (set l i a) ≡ set (map f l) i (f a)
map-set f [] i a = refl
map-set f (x ∷ xs) zero a = refl
map-set f (x ∷ xs) (suc i) a = ap (λ r. f x ∷ r) (map-set f xs i a)

module _ (n : ℕ) (xs ys : List Sample) where
  -- the row of a set under the bytes xs and ys
  abbrev pub row : Ticks → Row
  row = numbers n xs ys

  pub lose-carry : (k : ℕ) (s : Ticks) (ls : List Ticks) → map row (M.lose k s ls) ≡ E.lose n k (row s) (map row ls)
  unfolding M.lose E.lose
  lose-carry k s ls =
      rw (map-set row ls k (get_or ls k [] ++ s), numbers-join n xs ys (get_or ls k []) s, get_or-map row ls k [])

  pub room-carry : (c : Cell Ticks) → E.has_room n (map_cell row c) ≡ M.has_room c
  unfolding E.has_room M.has_room map_cell map_stamped
  room-carry c = simp numbers-size

  pub forecast-carry : (c : Cell Ticks) → E.forecast_of (map_cell row c) ≡ M.forecast_of c
  unfolding E.forecast_of M.forecast_of map_cell map_stamped
  forecast-carry c = simp numbers-size

  tick_by-carry : (b : Bool) (t : ℕ) (c : Cell Ticks)
      → map_cell row (M.tick_by b t c) ≡ E.tick_by n b (row (t ∷ [])) (map_cell row c)
  unfolding M.tick_by E.tick_by map_cell map_stamped
  tick_by-carry true t c = rw (numbers-join n xs ys c.opened.members (t ∷ []))
  tick_by-carry false t c = rw (lose-carry _ (t ∷ []) c.losses)

  pub tick-carry : (t : ℕ) (c : Cell Ticks)
      → map_cell row (M.tick_cell t c) ≡ E.tick_by n (E.has_room n (map_cell row c)) (row (t ∷ [])) (map_cell row c)
  unfolding M.tick_cell
  tick-carry t c =
      tick_by-carry (M.has_room c) t c
      ∙ ap (λ b. E.tick_by n b (row (t ∷ [])) (map_cell row c)) (sym (room-carry c))

  dump_by-carry : (x y z : Bool) (l : Label) (t : ℕ) (c : Cell Ticks)
      → map_result row (M.dump_by x y z l t c) ≡ E.dump_by n x y z l t (map_cell row c)
  unfolding M.dump_by E.dump_by M.lose_open E.lose_open M.hold_open E.hold_open map_result map_cell map_stamped
  dump_by-carry true y z l t c = refl
  dump_by-carry false true z l t c = rw (lose-carry _ c.opened.members c.losses)
  dump_by-carry false false true l t c = rw (lose-carry _ c.opened.members c.losses)
  dump_by-carry false false false l t c = refl

  pub dump-carry : (l : Label) (t : ℕ) (c : Cell Ticks)
      → map_result row (M.dump_cell l t c) ≡ E.dump_cell n l t (map_cell row c)
  unfolding M.dump_cell E.dump_cell map_cell
  dump-carry l t c =
      dump_by-carry (eqb l.command idle) (eqb l.command discard) (eqb c.held.occupied 1) l t c

  pub send-carry : (t : ℕ) (c : Cell Ticks) → map_cell row (M.send_open t c) ≡ E.send_open n t (map_cell row c)
  unfolding M.send_open E.send_open map_cell map_stamped
  send-carry t c = refl

  pub bin-carry : (k : ℕ) (c : Cell Ticks) → E.bin_at n k (map_cell row c) ≡ map_bin row (M.bin_at k c)
  unfolding E.bin_at M.bin_at map_cell map_bin map_stamped
  bin-carry k c = get_or-map (map_bin row) c.bins k M.free_bin

  state-same : (b : Bool) → M.state_after b ≡ E.state_after n b
  unfolding M.state_after E.state_after
  state-same true = refl
  state-same false = refl

  stamp-same : (b : Bool) (x y : ℕ) → M.stamp_after b x y ≡ E.stamp_after n b x y
  unfolding M.stamp_after E.stamp_after
  stamp-same true x y = refl
  stamp-same false x y = refl

  integrate_by-carry : (r s w : Bool) (k : ℕ) (b : Bin Ticks) (c : Cell Ticks)
      → map_result row (M.integrate_by r s w k b c) ≡ E.integrate_by n r s w k (map_bin row b) (map_cell row c)
  unfolding M.integrate_by E.integrate_by map_result map_bin map_cell map_stamped M.release E.release
  integrate_by-carry true s w k b c = simp (map-set, lose-carry)
  integrate_by-carry false true w k b c = simp (map-set, lose-carry)
  integrate_by-carry false false true k b c = simp (map-set, lose-carry, state-same)
  integrate_by-carry false false false k b c = simp (map-set, numbers-join, state-same, stamp-same)

  integrate_at-carry : (k : ℕ) (b : Bin Ticks) (c : Cell Ticks)
      → map_result row (M.integrate_at k b c) ≡ E.integrate_at n k (map_bin row b) (map_cell row c)
  unfolding M.integrate_at E.integrate_at map_bin map_cell map_stamped
  integrate_at-carry k b c =
      simp numbers-size
      (integrate_by-carry (eqb b.state ready)
      (eqb c.held.label.command save && eqb b.state filling)
      (ltb bin_limit (length b.content.members + length c.held.content.members)) k b c)

  pub integrate-carry : (bins : ℕ) (c : Cell Ticks)
      → map_result row (M.integrate_cell bins c) ≡ E.integrate_cell n bins (map_cell row c)
  unfolding M.integrate_cell E.integrate_cell map_cell
  integrate-carry bins c =
      let k : ℕ = bin_index bins c.held.label.bank c.held.label.bin in
      integrate_at-carry k (M.bin_at k c) c ∙ ap (λ b. E.integrate_at n k b (map_cell row c)) (sym (bin-carry k c))

  pub empty-carry : (k : ℕ) (c : Cell Ticks) → map_cell row (M.empty_bin k c) ≡ E.empty_bin n k (map_cell row c)
  unfolding M.empty_bin E.empty_bin map_cell map_bin map_stamped
  empty-carry k c = simp (map-set, bin-carry)

  pub loss-carry : (i : ℕ) (c : Cell Ticks)
      → E.loss_at n i (map_cell row c).losses ≡ row (get_or c.losses i [])
  unfolding map_cell
  loss-carry i c = get_or-map row c.losses i []

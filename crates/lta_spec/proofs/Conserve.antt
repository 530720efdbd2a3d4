-- Whatever adds up over ticks keeps its total over the places of a cell of the machine; a tick adds its own.
use Prim.Native.Nat.{ℕ, ◌+◌, ◌<◌}
use mathlib.Core.Path.{◌≡◌, refl}
use mathlib.Core.Bool.{Bool, true, false}
use mathlib.Core.List.{List, [], ◌∷◌, ◌++◌, map}
use native.Mathlib.Omega.{arith}
use lib.Dec.{eqb}
use lib.ListN.{length, get_or, set}
use Rattle.lta_spec.specs.Words.{over_all}
use Rattle.lta_spec.specs.Place.{Label, Bin, Cell, free, filling, loss_count, ordered, overrun, full, replaced}
use Rattle.lta_spec.specs.Place.{too_wide, holdoff}
use Rattle.lta_spec.specs.Call.{last, bin_index}
use Rattle.lta_spec.specs.Machine as M
use Rattle.lta_spec.specs.Machine.{Ticks, stamped}
use Rattle.lta_spec.specs.MachineRun as R
use Rattle.lta_spec.specs.Demand.{places}
use Rattle.lta_spec.proofs.WordLaws.{over-append, over-map, over-set}

-- the sum of a quantity over a set
abbrev pub tally : (ℕ → ℕ) → Ticks → ℕ
tally f s = over_all f s

pub tally-ones : (s : Ticks) → tally (λ i. 1) s ≡ length s
tally-ones [] = refl
tally-ones (i ∷ s) = omega (arith, tally-ones s)

-- the places of a cell but its frames, and all of them
abbrev pub over_cell : (Ticks → ℕ) → Cell Ticks → ℕ
over_cell f c =
    f c.opened.members + f c.held.content.members + over_all (λ b. f b.content.members) c.bins
    + over_all f c.losses

pub over-places : (f : Ticks → ℕ) (u : R.Unit)
    → over_all f (places u) ≡ over_cell f u.cell + over_all (λ e. f e.content.members) u.frames
over-places f u =
    let c = u.cell in
    let bins = map (λ b. b.content.members) c.bins in
    let frames = map (λ e. e.content.members) u.frames in
    omega (
      arith,
      over-append f bins (c.losses ++ frames),
      over-append f c.losses frames,
      over-map f (λ b. b.content.members) c.bins,
      over-map f (λ e. e.content.members) u.frames,
    )

module _ (f : ℕ → ℕ) where
  over-lose : (n : ℕ) (p : Ticks) (ls : List Ticks) → n < length ls
      → over_all (tally f) (M.lose n p ls) ≡ over_all (tally f) ls + tally f p
  unfolding M.lose
  over-lose n p ls h =
      omega (arith, over-set (tally f) [] ls n (get_or ls n [] ++ p) h, over-append f (get_or ls n []) p)

  module _ (c : Cell Ticks) (six : length c.losses ≡ loss_count) where
    lost : (n : ℕ) (p : Ticks) → n < loss_count
        → over_all (tally f) (M.lose n p c.losses) ≡ over_all (tally f) c.losses + tally f p
    lost n p h = over-lose n p c.losses (omega arith)

    tick_by-total : (b : Bool) (t : ℕ) → over_cell (tally f) (M.tick_by b t c) ≡ over_cell (tally f) c + f t
    unfolding M.tick_by
    tick_by-total true t = omega (arith, over-append f c.opened.members (t ∷ []))
    tick_by-total false t = omega (arith, lost holdoff (t ∷ []) (omega arith))

    pub tick-total : (t : ℕ) → over_cell (tally f) (M.tick_cell t c) ≡ over_cell (tally f) c + f t
    unfolding M.tick_cell
    tick-total t = tick_by-total (M.has_room c) t

    dump_by-total : (x y z : Bool) (l : Label) (t : ℕ) → (z ≡ false → tally f c.held.content.members ≡ 0)
        → over_cell (tally f) (M.dump_by x y z l t c).cell ≡ over_cell (tally f) c
    unfolding M.dump_by M.lose_open M.hold_open
    dump_by-total true y z l t e = refl
    dump_by-total false true z l t e = omega (arith, lost ordered c.opened.members (omega arith))
    dump_by-total false false true l t e = omega (arith, lost overrun c.opened.members (omega arith))
    dump_by-total false false false l t e = omega (arith, e refl)

    pub dump-total : (l : Label) (t : ℕ) → (eqb c.held.occupied 1 ≡ false → tally f c.held.content.members ≡ 0)
        → over_cell (tally f) (M.dump_cell l t c).cell ≡ over_cell (tally f) c
    unfolding M.dump_cell
    dump-total l t e = dump_by-total _ _ _ l t e

    pub send-total : (t : ℕ)
        → over_cell (tally f) (M.send_open t c) + tally f c.opened.members ≡ over_cell (tally f) c
    unfolding M.send_open
    send-total t = omega arith

    module _ (k : ℕ) (hk : k < length c.bins) where
      bin-set : (b : Bin Ticks)
          → over_all (λ b. tally f b.content.members) (set c.bins k b) + tally f (M.bin_at k c).content.members
          ≡ over_all (λ b. tally f b.content.members) c.bins + tally f b.content.members
      unfolding M.bin_at
      bin-set b = over-set (λ b. tally f b.content.members) M.free_bin c.bins k b hk

      integrate_by-total : (r s w : Bool)
          → over_cell (tally f) (M.integrate_by r s w k (M.bin_at k c) c).cell ≡ over_cell (tally f) c
      unfolding M.integrate_by M.release
      integrate_by-total true s w =
          omega (arith, bin-set (M.bin_at k c), lost full c.held.content.members (omega arith))
      integrate_by-total false true w =
          omega (
            arith,
            bin-set (record { state = filling; content = c.held.content }),
            lost replaced (M.bin_at k c).content.members (omega arith),
          )
      integrate_by-total false false true =
          let after = M.state_after (eqb c.held.label.command last) in
          omega (
            arith,
            bin-set (record { state = after; content = (M.bin_at k c).content }),
            lost too_wide c.held.content.members (omega arith),
          )
      integrate_by-total false false false =
          let after = M.state_after (eqb c.held.label.command last) in
          let stamp =
          M.stamp_after (eqb (M.bin_at k c).state free) c.held.content.stamp (M.bin_at k c).content.stamp in
          let joint = (M.bin_at k c).content.members ++ c.held.content.members in
          omega (
            arith,
            bin-set (record { state = after; content = stamped joint stamp }),
            over-append f (M.bin_at k c).content.members c.held.content.members,
          )

      pub empty-total :
          over_cell (tally f) (M.empty_bin k c) + tally f (M.bin_at k c).content.members ≡ over_cell (tally f) c
      unfolding M.empty_bin
      empty-total =
          omega (arith, bin-set (record { state = free; content = stamped [] (M.bin_at k c).content.stamp }))

    pub integrate-total : (bins : ℕ) → bin_index bins c.held.label.bank c.held.label.bin < length c.bins
        → over_cell (tally f) (M.integrate_cell bins c).cell ≡ over_cell (tally f) c
    unfolding M.integrate_cell M.integrate_at
    integrate-total bins hk = integrate_by-total (bin_index bins c.held.label.bank c.held.label.bin) hk _ _ _

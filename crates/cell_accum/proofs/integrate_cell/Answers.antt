-- The ways of an integration: a Ready bin, a bin replaced, a set too wide, and a bin joined.
use mathlib.Core.Path.{◌≡◌, refl, sym, ap, ◌∙◌}
use mathlib.Core.Bool.{false, cond}
use Prim.Native.Nat.{ℕ, ◌*◌, ◌<◌}
use native.Mathlib.Omega.{arith}
use lib.Dec.{eqb}
use Rattle.lta_spec.specs.Place.{loss_count, replaced, filling, ready}
use Rattle.lta_spec.specs.Call.{last}
use Rattle.lta_spec.specs.Engine.{loss_at, bin_at, is_replacing, is_too_wide, held_bin}
use Rattle.cell_layout.specs.Cells.{Small}
use Rattle.cell_layout.specs.Views.{IsCell, places_by}
use Rattle.cell_layout.proofs.ViewLaws.{fits_by}
use Rattle.cell_layout.proofs.LaysLaws.{word_of}
use Rattle.cell_layout.proofs.Fields as F
use Rattle.cell_layout.proofs.CellLaws.{laid}
use Rattle.cell_bins.proofs.BinLaws.{state-is, stamp-is}
use Rattle.cell_accum_tests.proofs.WayLaws.{label-within, number_is, command-is, replacing-is, wide_is}
use Rattle.cell_accum.proofs.IntegrateLaws.{
  IntegrateFacts,
  integrate-facts,
  held_small,
  bin_small,
  lost-small,
  goes-full,
  goes-replaced,
  goes-wide,
  goes-joined,
}
use Rattle.cell_accum.proofs.integrate_cell.Goals as goal
use Rattle.cell_accum.proofs.integrate_cell.Goals.{Start, After-bin_number-k, Then-state-eq-READY, Else-state-eq-READY}
use Rattle.cell_accum.proofs.integrate_cell.Goals.{Else-replaces, After-state_after-next, After-too_wide}

facts : (c : Start) → let s = c.args.shape in
    IntegrateFacts s.lags s.bins (places_by s c.args.cell.now)
facts c = let s = c.args.shape in integrate-facts s.lags s.bins (places_by s c.args.cell.now) c.requires.1

number : (c : After-bin_number-k) → let s = c.args.shape in
    c.bin_number-k.result ≡ held_bin s.lags s.bins (places_by s c.args.cell.now)
number c = number_is (fits_by c.args.shape c.requires.0) _ c.bin_number-k.ensures

-- Held's row and a loss's are small
may-lose : (c : After-bin_number-k) → let s = c.args.shape in
    let w = places_by s c.args.cell.now in
    IntegrateFacts s.lags s.bins w → (i : ℕ) → i < loss_count
    → (IsCell s c.args.cell.now × (c.bin_number-k.result < 2 * s.bins) × (i < loss_count))
    × (Small w.held.content.members × Small (loss_at s.lags i w.losses))
may-lose c q i h =
    let f = fits_by c.args.shape c.requires.0 in
    ((c.requires.0, c.bin_number-k.ensures.below, h), (held_small f q, lost-small f q i h))

-- what is known past each test
is-ready : (c : Then-state-eq-READY) → let s = c.args.shape in
    (bin_at s.lags c.bin_number-k.result (places_by s c.args.cell.now)).state ≡ ready
is-ready c =
    sym (state-is (fits_by c.args.shape c.requires.0) _ c.bin_number-k.ensures.below)
    ∙ (rw c.bin_start-at.ensures.is at c.if-state-eq-READY.true)

not-ready : (c : Else-state-eq-READY) → let s = c.args.shape in
    (bin_at s.lags c.bin_number-k.result (places_by s c.args.cell.now)).state ≡ ready → ⊥
not-ready c =
    λ x. (rw c.bin_start-at.ensures.is at c.if-state-eq-READY.false)
    (state-is (fits_by c.args.shape c.requires.0) _ c.bin_number-k.ensures.below ∙ x)

kept : (c : Else-replaces) → let s = c.args.shape in
    let w = places_by s c.args.cell.now in
    is_replacing s.lags (bin_at s.lags c.bin_number-k.result w) w ≡ false
kept c =
    sym (replacing-is (fits_by c.args.shape c.requires.0) _ c.bin_number-k.ensures.below)
    ∙ (rw c.bin_start-at.ensures.is at c.if-replaces.false)

next : (c : After-state_after-next)
    → c.state_after-next.result
    ≡ cond (eqb (places_by c.args.shape c.args.cell.now).held.label.command last) ready filling
next c =
    c.state_after-next.ensures
    ∙ ap (λ x. cond (eqb x last) ready filling)
    (command-is (fits_by c.args.shape c.requires.0) _ c.bin_number-k.ensures.below)

wide : (c : After-too_wide) → let s = c.args.shape in
    let w = places_by s c.args.cell.now in
    c.too_wide.result ≡ is_too_wide s.lags (bin_at s.lags c.bin_number-k.result w) w
wide c =
    c.too_wide.ensures
    ∙ rw (c.bin_start-at.ensures.is, c.held_row-from.ensures.is)
    (wide_is (fits_by c.args.shape c.requires.0) _ c.bin_number-k.ensures.below)

pub bin_number-k-requires : goal.bin_number-k-requires
bin_number-k-requires c =
    label-within (fits_by c.args.shape c.requires.0) (facts (goal.at.bin_number-k-requires c).Start).label

pub lose_held-requires : goal.lose_held-requires
lose_held-requires c =
    let place = goal.at.lose_held-requires c in
    may-lose place.After-bin_number-k (facts place.Start) _ (omega arith)

pub returns-then-state-eq-READY : goal.returns-then-state-eq-READY
returns-then-state-eq-READY c =
    let place = goal.at.returns-then-state-eq-READY c in
    let s = c.args.shape in
    rw
    (goes-full s.lags s.bins (places_by s c.args.cell.now) c.bin_number-k.result (number place.After-bin_number-k)
    (is-ready place.Then-state-eq-READY))
    (record { answer = refl; words = c.lose_held.ensures })

pub replace_bin-requires : goal.replace_bin-requires
replace_bin-requires c =
    let place = goal.at.replace_bin-requires c in
    let f = fits_by c.args.shape c.requires.0 in
    let q = facts place.Start in (
      (c.requires.0, c.bin_number-k.ensures.below),
      (
        held_small f q,
        bin_small f q _ (number place.After-bin_number-k),
        lost-small f q replaced (omega arith),
      ),
    )

pub returns-then-replaces : goal.returns-then-replaces
returns-then-replaces c =
    let place = goal.at.returns-then-replaces c in
    let s = c.args.shape in
    rw
    (goes-replaced s.lags s.bins (places_by s c.args.cell.now) c.bin_number-k.result
    (number place.After-bin_number-k) (not-ready place.Else-state-eq-READY)
    (sym (replacing-is (fits_by s c.requires.0) _ c.bin_number-k.ensures.below)
    ∙ (rw c.bin_start-at.ensures.is at c.if-replaces.true)))
    (record { answer = refl; words = c.replace_bin.ensures })

pub lose_held-requires-then-too_wide : goal.lose_held-requires-then-too_wide
lose_held-requires-then-too_wide c =
    let place = goal.at.lose_held-requires-then-too_wide c in
    may-lose place.After-bin_number-k (facts place.Start) _ (omega arith)

pub returns-then-too_wide : goal.returns-then-too_wide
returns-then-too_wide c =
    let place = goal.at.returns-then-too_wide c in
    let s = c.args.shape in
    rw
    (goes-wide s.lags s.bins (places_by s c.args.cell.now) c.bin_number-k.result (number place.After-bin_number-k)
    (not-ready place.Else-state-eq-READY) (kept place.Else-replaces)
    (sym (wide place.After-too_wide) ∙ c.if-too_wide.true) _ (next place.After-state_after-next))
    (record { answer = refl; words = c.lose_held-then-too_wide.ensures })

pub join_held-requires : goal.join_held-requires
join_held-requires c =
    let place = goal.at.join_held-requires c in
    let f = fits_by c.args.shape c.requires.0 in
    let q = facts place.Start in (
      (c.requires.0, c.bin_number-k.ensures.below),
      (held_small f q, bin_small f q _ (number place.After-bin_number-k)),
    )

pub returns : goal.returns
returns c =
    let place = goal.at.returns c in
    let s = c.args.shape in
    let f = fits_by s c.requires.0 in
    let k = c.bin_number-k.result in
    let j = c.bin_number-k.ensures.below in
    rw
    (goes-joined s.lags s.bins (places_by s c.args.cell.now) k (number place.After-bin_number-k)
    (not-ready place.Else-state-eq-READY) (kept place.Else-replaces)
    (sym (wide place.After-too_wide) ∙ c.if-too_wide.false) _ _ (next place.After-state_after-next)
    (c.stamp_after-stamp.ensures
    ∙ rw (
      c.bin_start-at.ensures.is,
      state-is f k j,
      word_of (laid f) (F.held_stamp s.lags s.bins),
      stamp-is f k j,
    )))
    (record { answer = refl; words = c.join_held.ensures })

-- An integration with its Ready number: its tests in their order, what they showed, and the number behind it.
use mathlib.Core.Path.{◌≡◌, sym, ap, ap₂, ◌∙◌}
use mathlib.Core.Bool.{Bool, true, false, cond, not, ◌&&◌}
use mathlib.Core.List.{List}
use Prim.Native.Nat.{ℕ, ◌+◌, ◌*◌, ◌<◌, ◌≤◌}
use native.Mathlib.Omega.{arith}
use lib.Dec.{leb, eqb}
use lib.ListN.{get_or, set}
use borrow.Author.Tests.{leb-true, eq-eqb, ne_eqb}
use Rattle.lta_spec.specs.Place.{Cell, Result, ready}
use Rattle.lta_spec.specs.Call.{last}
use Rattle.lta_spec.specs.Engine.{Row, Unit, bin_at, held_bin, is_raising, raised}
use Rattle.lta_spec.specs.Damage as D
use Rattle.lta_spec.specs.declared.Moved.{Moved}
use Rattle.lta_spec.proofs.TestLaws.{bit-small, and_both}
use Rattle.cell_layout.specs.Offsets.{command_at, ready_bins_at, state_at}
use Rattle.cell_layout.specs.Cells.{Fits, places_of, with_places, with_picks}
use Rattle.cell_layout.specs.Moves.{Leaves}
use Rattle.cell_layout.proofs.LaysLaws.{word_of, lays-set, lays-to}
use Rattle.cell_layout.proofs.Fields as F
use Rattle.cell_bins.proofs.BinLaws.{state-is}
use Rattle.cell_accum_tests.proofs.WayLaws.{command-is}
use Rattle.cell_accum.specs.Integrates.{Integrates}
use Rattle.cell_integrate.specs.Raises.{IntegratesUnit, more_ready, numbered}

-- the tests in their order
module _ (n bins t : ℕ) (u : Unit) where
  abbrev number : ℕ
  number = u.picks.ready_bins

  pub cell-bad : D.integrate_sound n bins t u.cell ≡ false → false ≡ D.integrate_unit_sound n bins t u
  unfolding D.integrate_unit_sound
  cell-bad e = sym (rw e)

  module _ (ok : D.integrate_sound n bins t u.cell ≡ true) where
    pub number-alone : (u.cell.held.occupied ≡ 1 → ⊥) → leb number (2 * bins) ≡ D.integrate_unit_sound n bins t u
    unfolding D.integrate_unit_sound
    number-alone o = sym (rw (ok, ne_eqb u.cell.held.occupied 1 o))

    pub number-tested : u.cell.held.occupied ≡ 1 → (k : ℕ) → k ≡ held_bin n bins u.cell
        → D.number_fits bins number (eqb (bin_at n k u.cell).state ready) ≡ D.integrate_unit_sound n bins t u
    unfolding D.integrate_unit_sound
    number-tested o k q = sym (rw (ok, eq-eqb u.cell.held.occupied 1 o, ← q))

-- what they showed
module _ (n bins : ℕ) (u : Unit) (i : IntegratesUnit n bins u) where
  parts : (D.integrate_sound n bins i.t u.cell ≡ true)
      × (D.number_fits bins u.picks.ready_bins (eqb (bin_at n (held_bin n bins u.cell) u.cell).state ready)
      ≡ true)
  unfolding D.integrate_unit_sound
  parts =
      and_both (D.integrate_sound n bins i.t u.cell) _
      (rw (eq-eqb u.cell.held.occupied 1 i.occupied) at i.sound)

  pub integrates : Integrates n bins u.cell
  integrates = record { t = i.t; sound = parts.0; occupied = i.occupied }

  pub number_small : u.picks.ready_bins ≤ 2 * bins
  unfolding D.number_fits
  number_small = leb-true _ _ (and_both (leb u.picks.ready_bins (2 * bins)) _ parts.1).0

-- at most one Ready bin more
pub more-small : (n bins : ℕ) (c : Cell Row) → more_ready n bins c ≤ 1
more-small n bins c = omega (arith, bit-small (is_raising n (bin_at n (held_bin n bins c) c) c))

-- 010 into a bin that is not Ready, by the words of the cell
module _ {l : List ℕ} {n bins : ℕ} (f : Fits l n bins) (k : ℕ) (below : k < 2 * bins)
    (q : k ≡ held_bin n bins (places_of n bins l)) where
  pub raising-is : (b : Bool) → eqb (get_or l command_at 0) last && not (eqb (get_or l (state_at n k) 0) ready) ≡ b
      → cond b 1 0 ≡ more_ready n bins (places_of n bins l)
  raising-is b e =
      let c = places_of n bins l in
      ap (λ x. cond x 1 0)
      (sym e
      ∙ ap₂ (λ x y. eqb x last && not (eqb y ready)) (command-is f k below) (state-is f k below)
      ∙ ap (λ i. eqb c.held.label.command last && not (eqb (bin_at n i c).state ready)) q)

-- the number is raised behind the move of Held
module _ (n bins : ℕ) (u : Unit) {x : Result Row} {m : Moved} {l : List ℕ} (s : Leaves n bins u x m l) where
  pub number-kept : get_or l ready_bins_at 0 ≡ u.picks.ready_bins
  number-kept = word_of s.words (F.ready_bins n bins)

  pub leaves-numbered : (more : ℕ) → more ≡ more_ready n bins u.cell
      → Leaves n bins (numbered n bins u) x m (set l ready_bins_at (get_or l ready_bins_at 0 + more))
  unfolding raised
  leaves-numbered more e =
      record {
        answer = s.answer;
        words =
            lays-to (lays-set s.words (F.ready_bins n bins) (get_or l ready_bins_at 0 + more))
            (ap₂ (λ r i. with_picks (with_places u x.cell) (record { ready_bins = r + i; next = u.picks.next }))
            number-kept e);
      }

-- The engine's run and the machine's: what relates them, and what it says of one cell.
use Prim.Native.Nat.{ℕ, zero, suc, ◌*◌, ◌≤◌, ◌<◌}
use mathlib.Core.Path.{◌≡◌, refl, ap, ◌∙◌}
use mathlib.Core.Bool.{Bool, true, false, cond, ◌&&◌}
use mathlib.Core.List.{List, [], ◌∷◌, ◌++◌}
use native.Mathlib.Nat.{not-suc-le-zero, le_of_suc-le-suc}
use native.Mathlib.Omega.{arith}
use lib.Dec.{ltb, leb, eqb}
use lib.ListN.{length, get_or, set}
use borrow.Author.Tests.{ltb-true, le-leb}
use Rattle.lta_spec.specs.Shape.{run_limit}
use Rattle.lta_spec.specs.Tick.{Sample}
use Rattle.lta_spec.specs.Place.{ready}
use Rattle.lta_spec.specs.Machine as M
use Rattle.lta_spec.specs.MachineRun as R
use Rattle.lta_spec.specs.Engine as E
use Rattle.lta_spec.specs.Damage as D
use Rattle.lta_spec.specs.Memory as W
use Rattle.lta_spec.specs.Step as S
use Rattle.lta_spec.specs.declared.Shape.{Shape}
use Rattle.lta_spec.proofs.TestLaws.{both}
use Rattle.lta_spec.proofs.ShapeLaws.{index_below}
use Rattle.lta_spec.proofs.RowLaws.{numbers}
use Rattle.lta_spec.proofs.Carry.{row, map_bin, map_cell, bin-carry, loss-carry}
use Rattle.lta_spec.proofs.BlockLaws.{counter-ok}
use Rattle.lta_spec.proofs.PickLaws.{Among, next_of}
use Rattle.lta_spec.proofs.ReadyLaws.{number_fits_lem, ready-most}
use Rattle.lta_spec.proofs.Intact.{dump-intact, integrate-intact, emit-intact, read-intact, forecast-intact}
use Rattle.lta_spec.proofs.SameCell.{Same, few}

-- all cells
abbrev pub AllSame : (sh : Shape) (t : ℕ) → List E.Unit → List R.Unit → Type 0
AllSame sh t [] [] = Prim.Unit {0}
AllSame sh t [] (m ∷ ms) = ⊥
AllSame sh t (e ∷ es) [] = ⊥
AllSame sh t (e ∷ es) (m ∷ ms) = Same sh t e m × AllSame sh t es ms

pub same_length : (sh : Shape) (t : ℕ) (es : List E.Unit) (ms : List R.Unit) → AllSame sh t es ms
    → length es ≡ length ms
same_length sh t [] [] a = refl
same_length sh t [] (m ∷ ms) a = absurd a
same_length sh t (e ∷ es) [] a = absurd a
same_length sh t (e ∷ es) (m ∷ ms) a = ap suc (same_length sh t es ms a.1)

same_at : (sh : Shape) (t : ℕ) (es : List E.Unit) (ms : List R.Unit) (d : E.Unit) (d' : R.Unit) → AllSame sh t es ms
    → (c : ℕ) → c < length ms → Same sh t (get_or es c d) (get_or ms c d')
same_at sh t [] [] d d' a c h = absurd (not-suc-le-zero h)
same_at sh t [] (m ∷ ms) d d' a c h = absurd a
same_at sh t (e ∷ es) [] d d' a c h = absurd a
same_at sh t (e ∷ es) (m ∷ ms) d d' a zero h = a.0
same_at sh t (e ∷ es) (m ∷ ms) d d' a (suc c) h = same_at sh t es ms d d' a.1 c (le_of_suc-le-suc h)

pub same_set : (sh : Shape) (t : ℕ) (es : List E.Unit) (ms : List R.Unit) (c : ℕ) (e' : E.Unit) (m' : R.Unit)
    → AllSame sh t es ms → Same sh t e' m' → AllSame sh t (set es c e') (set ms c m')
same_set sh t [] [] c e' m' a s = a
same_set sh t [] (m ∷ ms) c e' m' a s = absurd a
same_set sh t (e ∷ es) [] c e' m' a s = absurd a
same_set sh t (e ∷ es) (m ∷ ms) zero e' m' a s = (s, a.1)
same_set sh t (e ∷ es) (m ∷ ms) (suc c) e' m' a s = (a.0, same_set sh t es ms c e' m' a.1 s)

-- the runs
pub record SameRun (sh : Shape) (e : W.Run) (m : R.Run) : Type 0 where
  pub t : e.t ≡ m.t
  pub limit : m.t ≤ run_limit
  pub cells : length m.units ≡ sh.cells
  pub served : Among sh.cells m.served
  pub next : e.next ≡ next_of sh.cells m.served
  pub units : AllSame sh m.t e.units m.units

-- the engine's run that has these cells beside a run of the machine
abbrev pub engine_of : Shape → List E.Unit → R.Run → W.Run
engine_of sh es m = record { t = m.t; next = next_of sh.cells m.served; units = es }

-- a related run of the engine is that one
pub engine-is : (sh : Shape) (e : W.Run) (m : R.Run) → SameRun sh e m → e ≡ engine_of sh e.units m
engine-is sh e m s = λ i. record { t = s.t i; next = s.next i; units = e.units }

pub beside : (sh : Shape) (e : W.Run) (m : R.Run) → SameRun sh e m → SameRun sh (engine_of sh e.units m) m
beside sh e m s =
    record { t = refl; limit = s.limit; cells = s.cells; served = s.served; next = refl; units = s.units }

pub unit-same : (sh : Shape) (e : W.Run) (m : R.Run) → SameRun sh e m → (c : ℕ) → c < sh.cells
    → Same sh m.t (S.unit_at sh c e) (R.unit_at sh c m)
unit-same sh e m s c h = same_at sh m.t e.units m.units _ _ s.units c (omega (arith, s.cells))

-- what an accepted call leaves
pub record SameDone (sh : Shape) (e : S.Done) (m : R.Step) : Type 0 where
  pub answer : e.answer ≡ m.answer
  pub out : e.out ≡ m.out
  pub run : SameRun sh e.run m.run

module _ (sh : Shape) (es : List E.Unit) (m : R.Run) (q : SameRun sh (engine_of sh es m) m) where
  abbrev e : W.Run
  e = engine_of sh es m

  abbrev t : ℕ
  t = m.t

  -- a cell that there is
  pub at : (c : ℕ) → ltb c sh.cells ≡ true → Same sh t (S.unit_at sh c e) (R.unit_at sh c m)
  at c h = unit-same sh e m q c (ltb-true c sh.cells h)

  -- what the engine's tests of 11 say of a related cell
  module _ (c : ℕ) (h : ltb c sh.cells ≡ true) where
    abbrev u : R.Unit
    u = R.unit_at sh c m

    pub same : Same sh t (S.unit_at sh c e) u
    same = at c h

    pub cell-is : S.cell_at sh c e ≡ map_cell (row sh.lags u.xs u.ys) u.cell
    cell-is = same.cell [] []

    -- flags and states
    pub occupied-same : (S.cell_at sh c e).held.occupied ≡ u.cell.held.occupied
    unfolding map_cell
    occupied-same = ap (λ z. z.held.occupied) cell-is

    pub binned : (gx gy : List Sample) (k : ℕ)
        → E.bin_at sh.lags k (S.cell_at sh c e)
        ≡ map_bin (row sh.lags (gx ++ u.xs) (gy ++ u.ys)) (M.bin_at k u.cell)
    binned gx gy k =
        ap (E.bin_at sh.lags k) (same.cell gx gy)
        ∙ bin-carry sh.lags (gx ++ u.xs) (gy ++ u.ys) k u.cell

    pub state-same : (k : ℕ) → (E.bin_at sh.lags k (S.cell_at sh c e)).state ≡ (M.bin_at k u.cell).state
    unfolding map_bin
    state-same k = ap (λ b. b.state) (binned [] [] k)

    t-ok : leb t run_limit ≡ true
    t-ok = le-leb t run_limit q.limit

    pub dump-passes : (command : ℕ)
        → leb t run_limit && D.dump_unit_sound sh.lags sh.bins sh.blocks t command (S.unit_at sh c e) ≡ true
    unfolding D.dump_unit_sound
    dump-passes command =
        both t-ok
        (both {a = D.counter_ok sh.blocks (S.unit_at sh c e).counter}
        (rw same.counter (counter-ok sh.start sh.blocks u.counter same.good.counter))
        (rw cell-is
        (dump-intact _ _ t u.xs u.ys u.cell same.good.sound (few _ t u same.good) q.limit command)))

    -- the Ready number, by the bin that is tested
    pub number_is : (S.unit_at sh c e).picks.ready_bins ≡ M.ready_bins u.cell
    number_is = ap (λ p. p.ready_bins) same.picks

    number-passes : (k : ℕ) → k < 2 * sh.bins
        → D.number_fits sh.bins (S.unit_at sh c e).picks.ready_bins
        (eqb (E.bin_at sh.lags k (S.cell_at sh c e)).state ready)
        ≡ true
    number-passes k h =
        rw (number_is, state-same k) (number_fits_lem u.cell sh.bins k same.good.sound.flat.bins h)

    held_below : E.held_bin sh.lags sh.bins (S.cell_at sh c e) < 2 * sh.bins
    unfolding map_cell
    held_below =
        let l = same.good.sound.flat.label in
        rw cell-is (index_below sh.bins _ _ l.bank l.bin)

    pub integrate-passes :
        leb t run_limit && D.integrate_unit_sound sh.lags sh.bins t (S.unit_at sh c e) ≡ true
    unfolding D.integrate_unit_sound
    integrate-passes =
        let f = same.good.sound.flat in
        let few-ready = ready-most u.cell in
        both t-ok
        (both {a = D.integrate_sound sh.lags sh.bins t (S.cell_at sh c e)}
        (rw cell-is
        (integrate-intact _ _ t u.xs u.ys u.cell same.good.sound (few _ t u same.good) q.limit))
        (either_way (eqb (S.cell_at sh c e).held.occupied 1) _ _
        (number-passes (E.held_bin sh.lags sh.bins (S.cell_at sh c e)) held_below)
        (rw number_is (le-leb (M.ready_bins u.cell) (2 * sh.bins) (omega (arith, f.bins))))))
      where
        either_way : (b x y : Bool) → x ≡ true → y ≡ true → cond b x y ≡ true
        either_way true x y p q = p
        either_way false x y p q = q

    pub emit-passes : (k : ℕ) → k < 2 * sh.bins
        → leb t run_limit && D.emit_unit_sound sh.lags sh.bins t k (S.unit_at sh c e) ≡ true
    unfolding D.emit_unit_sound
    emit-passes k h =
        both t-ok
        (both {a = D.emit_sound sh.lags t k (S.cell_at sh c e)}
        (rw cell-is
        (emit-intact _ _ t u.xs u.ys u.cell same.good.sound (few _ t u same.good) q.limit k))
        (number-passes k h))

    pub read-passes : leb t run_limit && D.read_sound (S.cell_at sh c e) ≡ true
    read-passes =
        both t-ok
        (rw cell-is
        (read-intact _ _ t u.xs u.ys u.cell same.good.sound (few _ t u same.good) q.limit))

    pub forecast-passes : leb t run_limit && D.forecast_sound t (S.cell_at sh c e) ≡ true
    forecast-passes =
        both t-ok
        (rw cell-is
        (forecast-intact _ _ t u.xs u.ys u.cell same.good.sound (few _ t u same.good) q.limit))

    pub loss-is : (i : ℕ)
        → E.loss_at sh.lags i (S.cell_at sh c e).losses
        ≡ numbers sh.lags u.xs u.ys (get_or u.cell.losses i [])
    loss-is i =
        ap (λ z. E.loss_at sh.lags i z.losses) cell-is ∙ loss-carry sh.lags u.xs u.ys i u.cell

-- Where ticks go does not depend on the bytes. A run of the plain machine beside one with the same places, in which the
-- ticks brought other samples: every call is judged alike, and every call but a tick leaves the same places.
use Prim.Native.Nat.{ℕ, ◌/◌, ◌%◌}
use mathlib.Core.Path.{◌≡◌, refl, sym, ap, ◌∙◌, fun_ext}
use mathlib.Core.Bool.{Bool, true, false, ◌||◌}
use mathlib.Core.List.{List, [], ◌∷◌, map}
use lib.Dec.{leb, eqb}
use lib.ListN.{get_or, get_or-map}
use Rattle.lta_spec.specs.Words.{some}
use Rattle.lta_spec.specs.Refusals.{first_of}
use Rattle.lta_spec.specs.Tick.{Sample}
use Rattle.lta_spec.specs.Place.{Label, Cell}
use Rattle.lta_spec.specs.Call.{Call, speed}
use Rattle.lta_spec.specs.Call.Call.{tick, dump, integrate, emit, reading, forecast, page, pick}
use Rattle.lta_spec.specs.Machine as M
use Rattle.lta_spec.specs.Machine.{Ticks, Counter}
use Rattle.lta_spec.specs.Numbers.{Emitted}
use Rattle.lta_spec.specs.MachineRun as R
use Rattle.lta_spec.specs.declared.Shape.{Shape}
use Rattle.lta_spec.proofs.Carry.{map-set}

some-map : {A B : Type 0} (p : B → Bool) (f : A → B) (l : List A) → some p (map f l) ≡ some (λ x. p (f x)) l
some-map p f [] = refl
some-map p f (x ∷ l) = ap (λ (b : Bool). p (f x) || b) (some-map p f l)

-- every call but a tick
abbrev pub NotTick : Call → Type 0
NotTick (tick samples) = ⊥
NotTick (dump c command bank phase out) = Prim.Unit {0}
NotTick (integrate c) = Prim.Unit {0}
NotTick (emit c bank bin out) = Prim.Unit {0}
NotTick (reading c lag loss) = Prim.Unit {0}
NotTick (forecast c) = Prim.Unit {0}
NotTick (page out) = Prim.Unit {0}
NotTick (pick out) = Prim.Unit {0}

-- the samples that another run has taken where this one has taken xs and ys
module _ (taken_x taken_y : (xs ys : List Sample) → List Sample) where
  abbrev pub other_unit : R.Unit → R.Unit
  other_unit u =
      record {
        cell = u.cell;
        counter = u.counter;
        picked = u.picked;
        frames = u.frames;
        xs = taken_x u.xs u.ys;
        ys = taken_y u.xs u.ys;
      }

  abbrev pub other_run : R.Run → R.Run
  other_run r = record { t = r.t; served = r.served; units = map other_unit r.units }

  -- the cells held off by a tick
  pub held-off-alike : (us : List R.Unit) → R.held_off (map other_unit us) ≡ R.held_off us
  unfolding R.held_off
  held-off-alike [] = refl
  held-off-alike (u ∷ us) = rw (held-off-alike us)

  module _ (sh : Shape) (fresh : other_unit (R.fresh_unit sh) ≡ R.fresh_unit sh) where
    pub unit-at : (c : ℕ) (r : R.Run) → R.unit_at sh c (other_run r) ≡ other_unit (R.unit_at sh c r)
    unit-at c r =
        ap (get_or (map other_unit r.units) c) (sym fresh) ∙ get_or-map other_unit r.units c (R.fresh_unit sh)

    -- every call is judged alike
    pub tests-alike : (r : R.Run) (call : Call)
        → first_of (R.call_tests sh (other_run r) call) ≡ first_of (R.call_tests sh r call)
    tests-alike r (tick samples) = refl
    tests-alike r (dump c command bank phase out) = refl
    tests-alike r (integrate c) = rw (unit-at c r)
    tests-alike r (emit c bank bin out) = rw (unit-at c r)
    tests-alike r (reading c lag loss) = refl
    tests-alike r (forecast c) = refl
    tests-alike r (page out) = refl
    tests-alike r (pick out) = rw (some-map (λ u. some M.is_ready u.cell.bins) other_unit r.units)

    -- a cell that a call changes
    with_unit_lem : (c : ℕ) (u : R.Unit) (r : R.Run)
        → R.with_unit c (other_unit u) (other_run r) ≡ other_run (R.with_unit c u r)
    with_unit_lem c u r =
        ap (λ us. record { t = r.t; served = r.served; units = us }) (sym (map-set other_unit r.units c u))

    dump-alike : (c : ℕ) (places : Cell Ticks) (k : Counter) (r : R.Run)
        → R.with_dump sh c places k (other_run r) ≡ other_run (R.with_dump sh c places k r)
    unfolding R.with_dump
    dump-alike c places k r = rw (unit-at c r) (with_unit_lem c _ r)

    frame-alike : (c : ℕ) (places : Cell Ticks) (k : Counter) (e : Emitted) (r : R.Run)
        → R.with_frame sh c places k e (other_run r) ≡ other_run (R.with_frame sh c places k e r)
    unfolding R.with_frame
    frame-alike c places k e r = rw (unit-at c r) (with_unit_lem c _ r)

    pointed-alike : (c k : ℕ) (r : R.Run) → R.picked_from sh c k (other_run r) ≡ other_run (R.picked_from sh c k r)
    unfolding R.picked_from
    pointed-alike c k r =
        rw (unit-at c r)
        (ap (λ us. record { t = r.t; served = M.Latest.was c; units = us }) (sym (map-set other_unit r.units c _)))

    -- what a call sends
    pub emitted-alike : (c bank bin : ℕ) (r : R.Run) → R.emitted sh c bank bin (other_run r) ≡ R.emitted sh c bank bin r
    unfolding R.emitted
    emitted-alike c bank bin r = rw (unit-at c r)

    pub speed-alike : (c : ℕ) (l : Label) (r : R.Run) → R.speed_sent sh c l (other_run r) ≡ R.speed_sent sh c l r
    unfolding R.speed_sent
    speed-alike c l r = rw (unit-at c r)

    pub picked-alike : (r : R.Run) → R.picked_cell sh (other_run r) ≡ R.picked_cell sh r
    unfolding R.picked_cell
    picked-alike r =
        ap (λ f. M.first_with f (M.round_from sh.cells r.served))
        (fun_ext (λ c. ap (λ u. leb 1 (M.ready_bins u.cell)) (unit-at c r)))

    -- dumps, integrations, emissions and picks
    dumps-alike : (speeds : Bool) (c : ℕ) (l : Label) (k : Counter) (out : List ℕ) (r : R.Run)
        → (R.dumps_by speeds sh c l k out (other_run r)).run ≡ other_run (R.dumps_by speeds sh c l k out r).run
    unfolding R.dumps_by R.sends
    dumps-alike true c l k out r = rw (unit-at c r, speed-alike c l r) (frame-alike c _ k _ r)
    dumps-alike false c l k out r = rw (unit-at c r) (dump-alike c _ k r)

    emits-alike : (c bank bin : ℕ) (out : List ℕ) (r : R.Run)
        → (R.emits sh c bank bin out (other_run r)).run ≡ other_run (R.emits sh c bank bin out r).run
    unfolding R.emits R.sends
    emits-alike c bank bin out r = rw (unit-at c r, emitted-alike c bank bin r) (frame-alike c _ _ _ r)

    -- the cell and the bin that a pick takes, and the run that it leaves
    abbrev pub bin_picked : (c : ℕ) → R.Run → ℕ
    bin_picked c r = let u = R.unit_at sh c r in M.picked_bin sh.bins u.picked u.cell

    pub bin_alike : (c : ℕ) (r : R.Run) → bin_picked c (other_run r) ≡ bin_picked c r
    bin_alike c r = ap (λ u. M.picked_bin sh.bins u.picked u.cell) (unit-at c r)

    picks-alike : (out : List ℕ) (r : R.Run) → (R.picks sh out (other_run r)).run ≡ other_run (R.picks sh out r).run
    unfolding R.picks
    picks-alike out r =
        let c = R.picked_cell sh r in
        let k = bin_picked c r in
        ap (λ c. left c (bin_picked c (other_run r))) (picked-alike r)
        ∙ ap (left c) (bin_alike c r)
        ∙ ap (R.picked_from sh c k) (emits-alike c (k / sh.bins) (k % sh.bins) out r)
        ∙ pointed-alike c k (R.emits sh c (k / sh.bins) (k % sh.bins) out r).run
      where
        left : (c k : ℕ) → R.Run
        left c k = R.picked_from sh c k (R.emits sh c (k / sh.bins) (k % sh.bins) out (other_run r)).run

    pub run-alike : (call : Call) → NotTick call → (r : R.Run)
        → (R.accepted sh call (other_run r)).run ≡ other_run (R.accepted sh call r).run
    unfolding R.accepted R.with_cell
    run-alike (tick samples) other r = absurd other
    run-alike (dump c command bank phase out) other r =
        rw (unit-at c r) (dumps-alike (eqb command speed) c _ _ out r)
    run-alike (integrate c) other r = rw (unit-at c r) (dump-alike c _ _ r)
    run-alike (emit c bank bin out) other r = emits-alike c bank bin out r
    run-alike (reading c lag loss) other r = refl
    run-alike (forecast c) other r = refl
    run-alike (page out) other r = refl
    run-alike (pick out) other r = picks-alike out r

-- Fairness of picks: a fact of the plain machine, which the engine follows as in demand 3.
use Prim.Native.Nat.{ℕ, ◌+◌, ◌*◌, ◌≤◌, ◌<◌}
use mathlib.Core.Path.{◌≡◌, refl, sym, ap, ◌∙◌, subst}
use mathlib.Core.List.{List, [], ◌∷◌, ◌++◌}
use native.Mathlib.Nat.{suc-mul, mul_comm, mul-le-mul_right}
use native.Mathlib.Omega.{arith}
use lib.ListN.{length, length-append}
use Rattle.lta_spec.specs.Place.{ready}
use Rattle.lta_spec.specs.Call.{bin_index}
use Rattle.lta_spec.specs.Machine as M
use Rattle.lta_spec.specs.MachineRun as R
use Rattle.lta_spec.specs.Memory as W
use Rattle.lta_spec.specs.Demand.{Listed, AllStand, machine_step, machine_returns, machine_run}
use Rattle.lta_spec.specs.Demand.{engine_returns, mem_after, machine_after}
use Rattle.lta_spec.specs.Forecasts.{in_turn}
use Rattle.lta_spec.specs.Fairness.{pick_told, picks_in, places_ahead, picks_ahead, Sent, Fairness}
use Rattle.lta_spec.specs.declared.Shape.{Shape}
use Rattle.lta_spec.proofs.ShapeLaws.{shaped, index_below}
use Rattle.lta_spec.proofs.SameRun.{SameRun, unit-same}
use Rattle.lta_spec.proofs.Follow.{Followed, follow, from_start}
use Rattle.lta_spec.proofs.Demand.{demand3}
use Rattle.lta_spec.proofs.PickLaws.{ahead-below}
use Rattle.lta_spec.proofs.Holdoff.{told}
use Rattle.lta_spec.proofs.Forecasts.{run-append}
use Rattle.lta_spec.proofs.PickSteps.{Waits, Outcome, step-does}
use Rattle.lta_spec.proofs.PickSteps.Outcome.{waits, emits}

-- the first calls of a list
stand-front : (cs xs ys : List Listed) → cs ≡ xs ++ ys → AllStand cs → AllStand xs
stand-front cs xs ys e a = front xs (subst AllStand e a)
  where
    front : (xs : List Listed) → AllStand (xs ++ ys) → AllStand xs
    front [] a = tt
    front (x ∷ xs) a = (a.0, front xs a.1)

module _ (sh : Shape) (wide : 2 ≤ sh.lags) (c bank bin : ℕ) (inside : c < sh.cells) (in_bank : bank < 2)
    (in_bin : bin < sh.bins) where
  abbrev place : ℕ
  place = bin_index sh.bins bank bin

  abbrev IsReady : R.Run → Type 0
  IsReady m = (M.bin_at place (R.unit_at sh c m).cell).state ≡ ready

  -- the successful picks of a list behind run m: those of its first call, and the rest
  abbrev picks_of : List Listed → R.Run → ℕ
  picks_of cs m = length (in_turn pick_told cs (machine_returns sh cs m))

  picks_first : (l : Listed) (cs : List Listed) (m : R.Run)
      → let s = machine_step sh l m in
      picks_of (l ∷ cs) m ≡ length (pick_told l (told s)) + picks_of cs s.run
  unfolding machine_returns
  picks_first l cs m = length-append (pick_told l (told (machine_step sh l m))) _

  -- a call of a list behind run m emits the bin, as it is there
  record Emits (cs : List Listed) (m : R.Run) : Type 0 where
    earlier : List Listed
    call : Listed
    later : List Listed
    stands : cs ≡ earlier ++ (call ∷ later)
    measured : picks_of earlier m ≤ picks_ahead sh c place m
    sends : (R.unit_at sh c (machine_run sh (earlier ++ (call ∷ [])) m)).frames
        ≡ R.emitted sh c bank bin m ∷ (R.unit_at sh c (machine_run sh earlier m)).frames

  -- in front of the list a call that leaves the bin
  waits-first : (l : Listed) (cs : List Listed) (m : R.Run)
      → let s = machine_step sh l m in
      Waits sh c bank bin l m s → Emits cs s.run → Emits (l ∷ cs) m
  unfolding machine_run R.emitted
  waits-first l cs m w x =
      record {
        earlier = l ∷ x.earlier;
        call = x.call;
        later = x.later;
        stands = ap (λ r. l ∷ r) x.stands;
        measured = omega (arith, w.fewer, x.measured, picks_first l x.earlier m);
        sends = rw w.kept at x.sends;
      }

  -- every list with more successful picks than the measure
  every-list : (cs : List Listed) → AllStand cs → (e : W.Run) (m : R.Run) → SameRun sh e m → IsReady m
      → picks_ahead sh c place m < picks_of cs m → Emits cs m
  unfolding machine_returns machine_run
  every-list [] stand e m s is more = absurd (omega arith)
  every-list (l ∷ cs) stand e m s is more =
      let next = follow sh wide (l ∷ []) (stand.0, tt) e m s in
      by-outcome (step-does sh c bank bin m wide e s inside in_bank in_bin is l stand.0)
      (every-list cs stand.1 next.run _ next.same)
    where
      by-outcome : let s = machine_step sh l m in
          Outcome sh c bank bin l m s
          → (IsReady s.run → picks_ahead sh c place s.run < picks_of cs s.run → Emits cs s.run)
          → Emits (l ∷ cs) m
      by-outcome (emits sent) rest =
          record { earlier = []; call = l; later = cs; stands = refl; measured = omega arith; sends = sent }
      by-outcome (waits w) rest =
          waits-first l cs m w
          (rest (ap (λ b. b.state) w.kept ∙ is) (omega (arith, w.fewer, picks_first l cs m)))

  -- the measure of a run that the engine follows
  measure-below : (e : W.Run) (m : R.Run) → SameRun sh e m → picks_ahead sh c place m < sh.cells * (2 * sh.bins)
  measure-below e m s =
      let picked = (R.unit_at sh c m).picked in
      let bins =
      ahead-below (2 * sh.bins) picked place (unit-same sh e m s c inside).good.picked
      (index_below sh.bins bank bin in_bank in_bin) in
      omega (
        arith,
        mul-le-mul_right sh.cells bins,
        suc-mul (places_ahead (2 * sh.bins) picked place) sh.cells,
        mul_comm (2 * sh.bins) sh.cells,
        ahead-below sh.cells m.served c s.served inside,
      )

  -- by the engine's answers, which are the machine's
  module _ (before : List Listed) (x : Followed sh before (W.start sh) (R.start sh)) where
    abbrev there : R.Run
    there = machine_after sh before

    tells : (cs : List Listed) → AllStand cs
        → engine_returns sh cs (mem_after sh before) ≡ machine_returns sh cs there
    tells cs stand =
        ap (engine_returns sh cs) x.mem ∙ (follow sh wide cs stand x.run there x.same).tells

    sent : (behind : List Listed) → AllStand behind → IsReady there
        → picks_ahead sh c place there < picks_in sh before behind → Sent sh before behind c bank bin
    sent behind stand is more =
        let y = every-list behind stand x.run there x.same is (rw (tells behind stand) at more) in
        let few : picks_in sh before y.earlier ≤ picks_ahead sh c place there =
        rw (tells y.earlier (stand-front behind y.earlier _ y.stands stand)) y.measured in
        record {
          earlier = y.earlier;
          call = y.call;
          later = y.later;
          stands = y.stands;
          within = omega (arith, measure-below x.run there x.same);
          measured = few;
          sends =
              rw (
                run-append sh before (y.earlier ++ (y.call ∷ [])) (R.start sh),
                run-append sh before y.earlier (R.start sh),
              )
              y.sends;
        }

pub fairness : Fairness
fairness sh ok before behind stand stand' c bank bin inside in_bank in_bin is =
    let k = shaped sh ok in
    let wide = k.some-lags in
    let x = from_start sh k before stand in
    let below = measure-below sh wide c bank bin inside in_bank in_bin x.run (machine_after sh before) x.same in
    let state = sym (((demand3 sh ok before stand).cells c inside).states (bin_index sh.bins bank bin)) ∙ is in
    let sooner = sent sh wide c bank bin inside in_bank in_bin before x behind stand' state in
    record { emitted = λ h. sooner (omega arith); sooner = sooner; below = below }

-- Request 2026-07, fairness: "In a list of demand 3 a Ready bin is emitted within C × 2B successful picks, whatever
-- other calls stand between." One statement for every list of calls in front and every list behind.
-- proofs/Fairness.antt proves it.
use Rattle.std.specs.Prelude.{ℕ, suc, ◌+◌, ◌*◌, ◌-◌, ◌≤◌, ◌<◌, ◌≡◌, true, cond, List, [], ◌∷◌, ◌++◌, ltb, length}
use Rattle.lta_spec.specs.Shape.{shape_ok}
use Rattle.lta_spec.specs.Place.{ready}
use Rattle.lta_spec.specs.Call.{bin_index}
use Rattle.lta_spec.specs.Call.Call.{tick, dump, integrate, emit, reading, forecast, page, pick}
use Rattle.lta_spec.specs.Answer.{number_in}
use Rattle.lta_spec.specs.Machine.{Latest}
use Rattle.lta_spec.specs.Machine.Latest.{none, was}
use Rattle.lta_spec.specs.Numbers.{Emitted}
use Rattle.lta_spec.specs.MachineRun as M
use Rattle.lta_spec.specs.Engine as E
use Rattle.lta_spec.specs.Memory.{run_layout}
use Rattle.lta_spec.specs.Step as S
use Rattle.lta_spec.specs.Demand.{Listed, AllStand, Returned, engine_returns, mem_after, machine_after}
use Rattle.lta_spec.specs.Demand.Listed.{on_run, on_other}
use Rattle.lta_spec.specs.Forecasts.{in_turn}
use Rattle.lta_spec.specs.declared.Shape.{Shape}

-- a successful pick: what it answers
abbrev pub pick_told : Listed → Returned → List ℕ
pick_told (on_run (pick out)) t = number_in t.answer
pick_told (on_run (tick samples)) t = []
pick_told (on_run (dump d command bank phase out)) t = []
pick_told (on_run (integrate d)) t = []
pick_told (on_run (emit d bank bin out)) t = []
pick_told (on_run (reading d lag loss)) t = []
pick_told (on_run (forecast d)) t = []
pick_told (on_run (page out)) t = []
pick_told (on_other shape call given) t = []

-- how many successful picks stand in the list `behind`, by the engine's answers
abbrev pub picks_in : Shape → (before behind : List Listed) → ℕ
picks_in sh before behind = length (in_turn pick_told behind (engine_returns sh behind (mem_after sh before)))

-- The measure. So many of `size` places lie between the latest and place k, going round: a search comes to them first.
abbrev pub places_ahead : (size : ℕ) → Latest → (k : ℕ) → ℕ
places_ahead size none k = k
places_ahead size (was j) k = cond (ltb j k) (k - suc j) (size - suc j + k)

-- Each bin ahead of bin k in cell c may be picked before it, in a round of C picks that serve every cell; and then each
-- cell ahead of c may be served before it.
abbrev pub picks_ahead : Shape → (c k : ℕ) → M.Run → ℕ
picks_ahead sh c k r =
    places_ahead (2 * sh.bins) (M.unit_at sh c r).picked k * sh.cells + places_ahead sh.cells r.served c

module _ (sh : Shape) (before behind : List Listed) (c bank bin : ℕ) where
  abbrev pub place : ℕ
  place = bin_index sh.bins bank bin

  -- the machine behind the first list
  abbrev pub there : M.Run
  there = machine_after sh before

  -- the frame of the bin with the set and the stamp that it has there
  abbrev pub frame_due : Emitted
  frame_due = M.emitted sh c bank bin there

  -- a call behind it emits the bin
  pub record Sent : Type 0 where
    pub earlier : List Listed
    pub call : Listed
    pub later : List Listed
    pub stands : behind ≡ earlier ++ (call ∷ later)
    -- fewer than C × 2B successful picks stand before it, and no more than the measure says
    pub within : picks_in sh before earlier < sh.cells * (2 * sh.bins)
    pub measured : picks_in sh before earlier ≤ picks_ahead sh c place there
    -- by it the cell has one frame more, that of the bin; `Demand3.frames` has its bytes
    pub sends : (M.unit_at sh c (machine_after sh (before ++ (earlier ++ (call ∷ []))))).frames
        ≡ frame_due ∷ (M.unit_at sh c (machine_after sh (before ++ earlier))).frames

  -- what is due to a bin that is Ready behind the first list
  pub record Fair : Type 0 where
    pub emitted : sh.cells * (2 * sh.bins) ≤ picks_in sh before behind → Sent
    -- and by the first successful pick past the measure, which is below C × 2B
    pub sooner : picks_ahead sh c place there < picks_in sh before behind → Sent
    pub below : picks_ahead sh c place there < sh.cells * (2 * sh.bins)

abbrev pub Fairness : Type 0
Fairness =
    (sh : Shape) → shape_ok sh ≡ true → (before behind : List Listed) → AllStand before → AllStand behind
    → (c bank bin : ℕ) → c < sh.cells → bank < 2 → bin < sh.bins
    → (E.bin_at sh.lags (bin_index sh.bins bank bin) (S.cell_at sh c ((run_layout sh).get (mem_after sh before)))).state
    ≡ ready
    → Fair sh before behind c bank bin

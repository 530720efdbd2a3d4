-- Request 2026-02, what a forecast means: one statement for every list of calls in front of it and every list behind
-- it. proofs/Forecasts.antt proves it.
use Rattle.std.specs.Prelude.{ℕ, ◌+◌, ◌-◌, ◌<◌, ◌≡◌, true, cond, not, ◌&&◌, List, [], ◌∷◌, ◌++◌, map, ltb, eqb, length, get_or, take, drop}
use Rattle.lta_spec.specs.Words.{over_all, numbers_from}
use Rattle.lta_spec.specs.Shape.{shape_ok, run_limit}
use Rattle.lta_spec.specs.Place.{holdoff}
use Rattle.lta_spec.specs.Call.{samples_ok, validity_ok, idle}
use Rattle.lta_spec.specs.Call.Call.{tick, dump, integrate, emit, reading, forecast, page, pick}
use Rattle.lta_spec.specs.Answer.{number_in}
use Rattle.lta_spec.specs.Answer.Answer.{number}
use Rattle.lta_spec.specs.Machine.{Ticks}
use Rattle.lta_spec.specs.MachineRun as M
use Rattle.lta_spec.specs.Step as S
use Rattle.lta_spec.specs.Demand.{Listed, AllStand, Returned, engine_returns, mem_after, machine_after}
use Rattle.lta_spec.specs.Demand.{times_in}
use Rattle.lta_spec.specs.Demand.Listed.{on_run, on_other}
use Rattle.lta_spec.specs.declared.Shape.{Shape}

-- what is taken from the calls of a list and what they told, in their order
abbrev pub in_turn : (Listed → Returned → List ℕ) → List Listed → List Returned → List ℕ
in_turn f [] ts = []
in_turn f (l ∷ ls) [] = []
in_turn f (l ∷ ls) (t ∷ ts) = f l t ++ in_turn f ls ts

-- of a tick on the run what its bytes give, of any other call `none`
abbrev pub of_tick : {A : Type 0} → (none : A) → (List ℕ → A) → Listed → A
of_tick none f (on_run (tick samples)) = f samples
of_tick none f (on_run (dump d command bank phase out)) = none
of_tick none f (on_run (integrate d)) = none
of_tick none f (on_run (emit d bank bin out)) = none
of_tick none f (on_run (reading d lag loss)) = none
of_tick none f (on_run (forecast d)) = none
of_tick none f (on_run (page out)) = none
of_tick none f (on_run (pick out)) = none
of_tick none f (on_other shape call given) = none

-- an accepted tick: the number of cells that it says are held off
abbrev pub tick_told : Listed → Returned → List ℕ
tick_told l t = of_tick [] (λ samples. number_in t.answer) l

-- a tick that is not refused by 3 or 19
abbrev pub well_formed : Shape → Listed → ℕ
well_formed sh l = of_tick 0 (λ samples. cond (samples_ok sh.cells samples && validity_ok sh.cells samples) 1 0) l

-- an accepted dump of cell c but 111: its answer
abbrev pub dump_told : (c : ℕ) → Listed → Returned → List ℕ
dump_told c (on_run (dump d command bank phase out)) t =
    cond (eqb d c && not (eqb command idle)) (number_in t.answer) []
dump_told c (on_run (tick samples)) t = []
dump_told c (on_run (integrate d)) t = []
dump_told c (on_run (emit d bank bin out)) t = []
dump_told c (on_run (reading d lag loss)) t = []
dump_told c (on_run (forecast d)) t = []
dump_told c (on_run (page out)) t = []
dump_told c (on_run (pick out)) t = []
dump_told c (on_other shape call given) t = []

-- the sets of a cell's Open and of its loss 6
abbrev pub open_set : M.Unit → Ticks
open_set u = u.cell.opened.members

abbrev pub holdoff_set : M.Unit → Ticks
holdoff_set u = get_or u.cell.losses holdoff []

-- the cells that have tick i in loss 6
abbrev pub cells_held_off : M.Run → (i : ℕ) → ℕ
cells_held_off r i = over_all (λ u. times_in i (holdoff_set u)) r.units

module _ (sh : Shape) (before behind : List Listed) (c n : ℕ) where
  -- the machine where the forecast stands, and at the end
  abbrev pub there : M.Run
  there = machine_after sh before

  abbrev pub at_end : M.Run
  at_end = machine_after sh (before ++ behind)

  -- the accepted ticks behind the forecast: what the engine answers to them, and their tick numbers
  abbrev pub tick_answers : List ℕ
  tick_answers = in_turn tick_told behind (engine_returns sh behind (mem_after sh before))

  abbrev pub ticks_taken : Ticks
  ticks_taken = numbers_from there.t (length tick_answers)

  -- what a forecast of n for cell c means
  pub record Foretold : Type 0 where
    -- the accepted ticks behind it are those that t counts
    pub time : at_end.t ≡ there.t + length tick_answers
    -- "the next n accepted ticks join its Open"
    pub joins : open_set (M.unit_at sh c at_end) ≡ open_set (M.unit_at sh c there) ++ take n ticks_taken
    -- "and the one after them is held off", and each behind that one
    pub held_off : holdoff_set (M.unit_at sh c at_end) ≡ holdoff_set (M.unit_at sh c there) ++ drop n ticks_taken
    -- the engine answers to each how many cells have it in loss 6: c is one from the (n + 1)th on, and not before
    pub answers : tick_answers ≡ map (cells_held_off at_end) ticks_taken
    pub counted : (j : ℕ) → j < length tick_answers
        → times_in (there.t + j) (holdoff_set (M.unit_at sh c at_end)) ≡ cond (ltb j n) 0 1
    -- "more than n ticks left in the run": where n + 1 ticks or more are well-formed, n + 1 are accepted
    pub reached : n < run_limit - there.t → n < over_all (well_formed sh) behind → n < length tick_answers

-- "A forecast of n then means that, in a list of demand 3, with no dump of the cell .."
abbrev pub ForecastMeans : Type 0
ForecastMeans =
    (sh : Shape) → shape_ok sh ≡ true → (before behind : List Listed) → AllStand before → AllStand behind
    → (c n : ℕ)
    → (S.step sh (forecast c) (mem_after sh before)).answer ≡ number n
    → in_turn (dump_told c) behind (engine_returns sh behind (mem_after sh before)) ≡ []
    → Foretold sh before behind c n

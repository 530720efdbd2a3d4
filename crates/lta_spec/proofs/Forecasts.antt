-- What a forecast means: a fact of the plain machine, which the engine follows as in demand 3.
use Rattle.std.specs.Prelude.{Ok, Err}
use Prim.Native.Nat.{ℕ, zero, suc, ◌+◌, ◌-◌, ◌≤◌, ◌<◌}
use mathlib.Core.Path.{◌≡◌, refl, sym, ap, ap₂, ◌∙◌, subst}
use mathlib.Core.Bool.{Bool, true, false, cond}
use mathlib.Core.List.{List, [], ◌∷◌, ◌++◌, map, append-nil}
use native.Mathlib.Nat.{not-suc-le-zero, le_of_suc-le-suc}
use native.Mathlib.Omega.{arith}
use lib.Dec.{ltb}
use lib.ListN.{length, get_or, take, drop, length-append, drop_of_length-le, get_or-map}
use lib.Seq.{append_snoc, take_all}
use borrow.Author.Tests.{ltb-true, ltb-false, eq-eqb, ne_eqb}
use Rattle.lta_spec.specs.Words.{over_all, numbers_from}
use Rattle.lta_spec.specs.Refusals.{decided, Verdict}
use Rattle.lta_spec.specs.Shape.{shape_ok, run_limit, open_limit}
use Rattle.lta_spec.specs.Size.{memory_words}
use Rattle.lta_spec.specs.Call.{lent_to}
use Rattle.lta_spec.specs.Call.Call.{forecast}
use Rattle.lta_spec.specs.Answer.{refusal}
use Rattle.lta_spec.specs.Answer.Answer.{number}
use Rattle.lta_spec.specs.Machine as M
use Rattle.lta_spec.specs.Machine.{Ticks}
use Rattle.lta_spec.specs.MachineRun as R
use Rattle.lta_spec.specs.Memory as W
use Rattle.lta_spec.specs.Step as S
use Rattle.lta_spec.specs.Demand.{Listed, AllStand, machine_returns, machine_run, machine_step}
use Rattle.lta_spec.specs.Demand.{engine_returns, mem_after, machine_after, is_tick, times_in}
use Rattle.lta_spec.specs.Demand.Listed.{on_run, on_other}
use Rattle.lta_spec.specs.Forecasts.{in_turn, tick_told, dump_told, well_formed, open_set, holdoff_set}
use Rattle.lta_spec.specs.Forecasts.{cells_held_off, ForecastMeans}
use Rattle.lta_spec.specs.declared.Shape.{Shape}
use Rattle.lta_spec.proofs.TestLaws.{pass}
use Rattle.lta_spec.proofs.ShapeLaws.{shaped}
use Rattle.lta_spec.proofs.WordLaws.{over-append, over-map}
use Rattle.lta_spec.proofs.SameRun.{SameRun, unit-same}
use Rattle.lta_spec.proofs.Follow.{follow, from_start, run-same, accepts, turned}
use Rattle.lta_spec.proofs.Holdoff.{six, tick-open, tick-six, none_yet, tick-now, tick-earlier, tick-cell}
use Rattle.lta_spec.proofs.Holdoff.{told, Kept, Ticked, Outcome, no-tick, step-does}
use Rattle.lta_spec.proofs.Holdoff.Outcome.{keeps, ticks}

-- tick t + j among so many ticks from t on
none_from : (i t many : ℕ) → i < t → times_in i (numbers_from t many) ≡ 0
none_from i t zero h = refl
none_from i t (suc many) h =
    rw (ne_eqb i t (omega arith)) (omega (arith, none_from i (suc t) many (omega arith)))

one_from : (j t many : ℕ) → j < many → times_in (t + j) (numbers_from t many) ≡ 1
one_from j t zero h = absurd (not-suc-le-zero h)
one_from zero t (suc many) h =
    rw (eq-eqb (t + 0) t (omega arith)) (omega (arith, none_from (t + 0) (suc t) many (omega arith)))
one_from (suc j) t (suc many) h =
    let next : t + suc j ≡ suc t + j = omega arith in
    let later = ap (λ i. times_in i (numbers_from (suc t) many)) next ∙ one_from j (suc t) many (le_of_suc-le-suc h) in
    rw (ne_eqb (t + suc j) t (omega arith)) (omega (arith, later))

drop-from : (n t many : ℕ) → drop n (numbers_from t many) ≡ numbers_from (n + t) (many - n)
drop-from zero t many =
    let from : t ≡ 0 + t = omega arith in
    let all : many ≡ many - 0 = omega arith in
    ap₂ numbers_from from all
drop-from (suc n) t zero =
    let none : 0 ≡ 0 - suc n = omega arith in
    ap (numbers_from (suc n + t)) none
drop-from (suc n) t (suc many) =
    let from : n + suc t ≡ suc n + t = omega arith in
    let all : many - n ≡ suc many - suc n = omega arith in
    drop-from n (suc t) many ∙ ap₂ numbers_from from all

-- a set that all but the first n of them join: tick t + j is there from j = n on
counted-from : (s : Ticks) (n t many j : ℕ) → times_in (t + j) s ≡ 0 → j < many
    → times_in (t + j) (s ++ drop n (numbers_from t many)) ≡ cond (ltb j n) 0 1
counted-from s n t many j none h =
    rw (drop-from n t many)
    (omega (arith, none, over-append (is_tick (t + j)) s (numbers_from (n + t) (many - n)), by-test (ltb j n) refl))
  where
    by-test : (b : Bool) → ltb j n ≡ b → times_in (t + j) (numbers_from (n + t) (many - n)) ≡ cond b 0 1
    by-test true e = none_from (t + j) (n + t) (many - n) (omega (arith, ltb-true j n e))
    by-test false e =
        let le = ltb-false j n e in
        let same : t + j ≡ (n + t) + (j - n) = omega arith in
        ap (λ i. times_in i (numbers_from (n + t) (many - n))) same ∙ one_from (j - n) (n + t) (many - n) (omega arith)

-- A tick with room, or without: what Open o still takes counts down, or is 0 and stays so. o₁ and h₁ are Open and loss
-- 6 behind the tick, o' and h' behind the rest.
one_more : (room : Bool) (o h : Ticks) (t : ℕ) (rest o₁ h₁ o' h' : Ticks) → ltb (length o) open_limit ≡ room
    → o₁ ≡ o ++ cond room (t ∷ []) [] → h₁ ≡ h ++ cond room [] (t ∷ [])
    → o' ≡ o₁ ++ take (open_limit - length o₁) rest → h' ≡ h₁ ++ drop (open_limit - length o₁) rest
    → (o' ≡ o ++ take (open_limit - length o) (t ∷ rest)) × (h' ≡ h ++ drop (open_limit - length o) (t ∷ rest))
one_more true o h t rest o₁ h₁ o' h' e p q j k =
    let l = ltb-true (length o) open_limit e in
    let left : open_limit - length o ≡ suc (open_limit - length o₁) =
    omega (arith, ap length p, length-append o (t ∷ [])) in
    rw left (
      j ∙ ap (λ z. z ++ take (open_limit - length o₁) rest) p ∙ append_snoc o t _,
      k ∙ ap (λ z. z ++ drop (open_limit - length o₁) rest) (q ∙ append-nil h),
    )
one_more false o h t rest o₁ h₁ o' h' e p q j k =
    let l = ltb-false (length o) open_limit e in
    let same = p ∙ append-nil o in
    let none : open_limit - length o ≡ 0 = omega arith in
    let none₁ : open_limit - length o₁ ≡ 0 = omega (arith, ap length same) in
    rw none (
      (rw none₁ at j) ∙ ap (λ z. z ++ []) same,
      (rw none₁ at k) ∙ ap (λ z. z ++ rest) q ∙ append_snoc h t rest,
    )

no_more : (xs ys : List ℕ) → xs ++ ys ≡ [] → (xs ≡ []) × (ys ≡ [])
no_more [] ys e = (refl, e)
no_more (x ∷ xs) ys e = let z : ◌≡◌ {A = ℕ} 0 1 = cc in absurd (omega arith)

module _ (sh : Shape) (c : ℕ) where
  -- a list of calls, the answers to its accepted ticks, and the runs at its two ends
  record Behind (cs : List Listed) (replies : List ℕ) (m m' : R.Run) : Type 0 where
    time : m'.t ≡ m.t + length replies
    joins : open_set (R.unit_at sh c m')
        ≡ open_set (R.unit_at sh c m)
        ++ take (open_limit - length (open_set (R.unit_at sh c m))) (numbers_from m.t (length replies))
    held_off : holdoff_set (R.unit_at sh c m')
        ≡ holdoff_set (R.unit_at sh c m)
        ++ drop (open_limit - length (open_set (R.unit_at sh c m))) (numbers_from m.t (length replies))
    answers : replies ≡ map (cells_held_off m') (numbers_from m.t (length replies))
    earlier : (i : ℕ) → i < m.t → cells_held_off m' i ≡ cells_held_off m i
    reached : (many : ℕ) → many ≤ run_limit - m.t → many ≤ over_all (well_formed sh) cs → many ≤ length replies

  -- in front of a list a call that takes no tick
  kept-first : (l : Listed) (cs : List Listed) (later : List ℕ) (m m' : R.Run) (s : R.Step) → Kept sh c l m s
      → Behind cs later s.run m' → Behind (l ∷ cs) (tick_told l (told s) ++ later) m m'
  kept-first l cs later m m' s x b =
      let own : holdoff_set (R.unit_at sh c s.run) ≡ holdoff_set (R.unit_at sh c m) =
      sym (get_or-map holdoff_set s.run.units c (R.fresh_unit sh))
      ∙ ap (λ ls. get_or ls c []) x.losses
      ∙ get_or-map holdoff_set m.units c (R.fresh_unit sh) in
      let cells : (i : ℕ) → cells_held_off s.run i ≡ cells_held_off m i =
      λ i.
      sym (over-map (times_in i) holdoff_set s.run.units) ∙ ap (over_all (times_in i)) x.losses
      ∙ over-map (times_in i) holdoff_set m.units in
      subst (λ ts. Behind (l ∷ cs) (ts ++ later) m m') (sym x.none)
      (record {
        time = b.time ∙ ap (λ t. t + length later) x.time;
        joins = rw (x.opened, x.time) at b.joins;
        held_off = rw (x.opened, x.time, own) at b.held_off;
        answers = rw x.time at b.answers;
        earlier = λ i h. b.earlier i (rw x.time h) ∙ cells i;
        reached = by_kind (well_formed sh l) x.ended;
      })
    where
      by_kind : (w : ℕ) → (0 < w → run_limit ≤ m.t) → (many : ℕ) → many ≤ run_limit - m.t
          → many ≤ w + over_all (well_formed sh) cs → many ≤ length later
      by_kind zero e many h k = b.reached many (rw x.time h) (omega arith)
      by_kind (suc w) e many h k = let full = e (omega arith) in omega arith

  -- and a tick
  tick-first : (l : Listed) (cs : List Listed) (later : List ℕ) (m m' : R.Run) (s : R.Step) (e : W.Run)
      → SameRun sh e m → c < sh.cells → Ticked sh c l m s
      → Behind cs later s.run m' → Behind (l ∷ cs) (tick_told l (told s) ++ later) m m'
  unfolding M.has_room
  tick-first l cs later m m' s e same inside x b₀ =
      let t = m.t in
      let run : R.Run =
      record { t = suc t; served = m.served; units = R.tick_units t x.samples m.units } in
      let b : Behind cs later run m' = subst (λ r. Behind cs later r m') x.run b₀ in
      let there : c < length m.units = omega (arith, same.cells) in
      let u = R.unit_at sh c m in
      let cell-is = tick-cell sh t x.samples m.units c (R.fresh_unit sh) there in
      let both =
      one_more (M.has_room u.cell) (open_set u) (holdoff_set u) t (numbers_from (suc t) (length later))
      (open_set (R.unit_at sh c run)) (holdoff_set (R.unit_at sh c run)) _ _ refl
      (ap (λ z. z.opened.members) cell-is ∙ tick-open t u.cell)
      (ap six cell-is ∙ tick-six t u.cell (unit-same sh e m same c inside).good.sound.flat.losses) b.joins
      b.held_off in
      subst (λ ts. Behind (l ∷ cs) (ts ++ later) m m') (sym x.one)
      (record {
        time = omega (arith, b.time);
        joins = both.0;
        held_off = both.1;
        answers =
            ap₂ (λ k r. k ∷ r)
            (sym (tick-now sh t x.samples e.units m.units same.units) ∙ sym (b.earlier t (omega arith)))
            b.answers;
        earlier = λ i h.
            b.earlier i (omega arith)
            ∙ tick-earlier sh t i h x.samples e.units m.units same.units;
        reached = by-many;
      })
    where
      by-many : (many : ℕ) → many ≤ run_limit - m.t → many ≤ well_formed sh l + over_all (well_formed sh) cs
          → many ≤ suc (length later)
      by-many zero h k = omega arith
      by-many (suc many) h k =
          let next : s.run.t ≡ suc m.t = ap (λ r. r.t) x.run in
          omega (arith, b₀.reached many (omega arith) (omega (arith, x.single)))

  -- every list without an accepted dump of cell c but 111
  every-list : shape_ok sh ≡ true → 2 ≤ sh.lags → c < sh.cells → (cs : List Listed) → AllStand cs
      → (e : W.Run) (m : R.Run) → SameRun sh e m
      → in_turn (dump_told c) cs (machine_returns sh cs m) ≡ []
      → Behind cs (in_turn tick_told cs (machine_returns sh cs m)) m (machine_run sh cs m)
  unfolding machine_returns machine_run
  every-list ok wide inside [] stand e m s none =
      let u = R.unit_at sh c m in
      record {
        time = omega arith;
        joins =
            rw (take_all {A = ℕ} (open_limit - length (open_set u)) [] (omega arith)) (sym (append-nil (open_set u)));
        held_off =
            rw (drop_of_length-le {A = ℕ} [] {i = open_limit - length (open_set u)} (omega arith))
            (sym (append-nil (holdoff_set u)));
        answers = refl;
        earlier = λ i h. refl;
        reached = λ many h k. k;
      }
  every-list ok wide inside (on_run call ∷ cs) stand e m s none =
      let x = run-same sh wide e m s call in
      let p = no_more (dump_told c (on_run call) (told (R.step sh (memory_words sh) call m))) _ none in
      by-outcome (step-does sh c ok m wide e s call p.0)
      (every-list ok wide inside cs stand.1 x.run _ x.same p.1)
    where
      by-outcome : let r = R.step sh (memory_words sh) call m in
          Outcome sh c (on_run call) m r
          → Behind cs (in_turn tick_told cs (machine_returns sh cs r.run)) r.run (machine_run sh cs r.run)
          → Behind (on_run call ∷ cs)
          (tick_told (on_run call) (told r) ++ in_turn tick_told cs (machine_returns sh cs r.run)) m
          (machine_run sh cs r.run)
      by-outcome (keeps y) b = kept-first (on_run call) cs _ m _ _ y b
      by-outcome (ticks y) b = tick-first (on_run call) cs _ m _ _ e s inside y b
  every-list ok wide inside (on_other shape call given ∷ cs) stand e m s none =
      let x = turned shape call given m stand.0 in
      let l = on_other shape call given in
      subst
      (λ r. in_turn (dump_told c) cs (machine_returns sh cs r.run) ≡ []
      → Behind (l ∷ cs) (in_turn tick_told cs (machine_returns sh cs r.run)) m (machine_run sh cs r.run))
      (sym x.machine)
      (λ n.
      kept-first l cs _ m _ (record { answer = refusal x.why; out = lent_to call; run = m })
      (no-tick sh c l m _ refl refl refl refl refl) (every-list ok wide inside cs stand.1 e m s n))
      none

-- a list behind another
pub run-append : (sh : Shape) (xs ys : List Listed) (r : R.Run)
    → machine_run sh (xs ++ ys) r ≡ machine_run sh ys (machine_run sh xs r)
unfolding machine_run
run-append sh [] ys r = refl
run-append sh (x ∷ xs) ys r = run-append sh xs ys (machine_step sh x r).run

-- a forecast that is answered: the cell is there, and the number is the machine's
answered : (sh : Shape) → 2 ≤ sh.lags → (e : W.Run) (m : R.Run) → SameRun sh e m → (c n : ℕ)
    → (R.step sh (memory_words sh) (forecast c) m).answer ≡ number n
    → (c < sh.cells) × (n ≡ open_limit - length (open_set (R.unit_at sh c m)))
unfolding R.step R.accepted M.forecast_of
answered sh wide e m s c n = by-verdict (R.verdict sh m (memory_words sh) (forecast c)) refl
  where
    by-verdict : (v : Verdict) → R.verdict sh m (memory_words sh) (forecast c) ≡ v
        → (decided {A = R.Step} v (λ why. record { answer = refusal why; out = []; run = m })
        (R.accepted sh (forecast c) m)).answer ≡ number n
        → (c < sh.cells) × (n ≡ open_limit - length (open_set (R.unit_at sh c m)))
    by-verdict (Ok _) v q =
        let x = pass (ltb c sh.cells) _ _ (accepts sh wide e m s (forecast c) v) in
        let same : n ≡ open_limit - length (open_set (R.unit_at sh c m)) = cc in
        (ltb-true c sh.cells x.0, same)
    by-verdict (Err why) v q = let z : ◌≡◌ {A = ℕ} 0 1 = cc in absurd (omega arith)

pub forecast-means : ForecastMeans
forecast-means sh ok before behind stand stand' c n f none =
    let k = shaped sh ok in
    let wide = k.some-lags in
    let m = machine_after sh before in
    let x = from_start sh k before stand in
    let tells : engine_returns sh behind (mem_after sh before) ≡ machine_returns sh behind m =
    ap (engine_returns sh behind) x.mem ∙ (follow sh wide behind stand' x.run m x.same).tells in
    let p =
    answered sh wide x.run m x.same c n
    (sym (run-same sh wide x.run m x.same (forecast c)).answer
    ∙ ap (λ z. (S.step sh (forecast c) z).answer) (sym x.mem)
    ∙ f) in
    let b = every-list sh c ok wide p.0 behind stand' x.run m x.same
    (sym (ap (in_turn (dump_told c) behind) tells) ∙ none) in
    let u = R.unit_at sh c m in
    let good = (unit-same sh x.run m x.same c p.0).good in
    let end = run-append sh before behind (R.start sh) in
    record {
      time = rw (tells, end) b.time;
      joins = rw (tells, end, p.1) b.joins;
      held_off = rw (tells, end, p.1) b.held_off;
      answers = rw (tells, end) b.answers;
      counted = λ j.
          rw (tells, end, p.1)
          (λ h.
          ap (times_in (m.t + j)) b.held_off
          ∙ counted-from (holdoff_set u) _ m.t _ j (none_yet sh m.t (m.t + j) u good (omega arith)) h);
      reached = rw tells (b.reached (suc n));
    }

-- One call of the plain machine: what it makes of a cell's Open, and of loss 6 of every cell.
use Rattle.std.specs.Prelude.{Ok, Err}
use Prim.Native.Nat.{ℕ, zero, suc, ◌+◌, ◌/◌, ◌%◌, ◌≤◌, ◌<◌}
use mathlib.Core.Path.{◌≡◌, refl, sym, ap, ap₂, ◌∙◌}
use mathlib.Core.Bool.{Bool, true, false, cond, not, ◌&&◌}
use mathlib.Core.List.{List, [], ◌∷◌, ◌++◌, map, append-nil}
use native.Mathlib.Nat.{not-suc-le-zero, le_of_suc-le-suc}
use native.Mathlib.Omega.{arith}
use lib.Dec.{eqb}
use lib.ListN.{length, get_or, set, drop}
use lib.Seq.{get_or-set_same, get_or-set_other, map-set_same}
use borrow.Author.Tests.{eq-eqb, eqb-true, ne_eqb}
use Rattle.lta_spec.specs.Words.{over_all}
use Rattle.lta_spec.specs.Refusals.{first_of, decided, Verdict}
use Rattle.lta_spec.specs.Shape.{shape_ok, run_limit}
use Rattle.lta_spec.specs.Size.{memory_words, host_tests}
use Rattle.lta_spec.specs.Place.{Label, Bin, Cell, ordered, overrun, full, replaced, too_wide, holdoff, loss_count}
use Rattle.lta_spec.specs.Call.{Call, lent_to, samples_ok, validity_ok, speed, idle}
use Rattle.lta_spec.specs.Call.Call.{tick, dump, integrate, emit, reading, forecast, page, pick}
use Rattle.lta_spec.specs.Answer.{refusal}
use Rattle.lta_spec.specs.Machine as M
use Rattle.lta_spec.specs.Machine.{Ticks}
use Rattle.lta_spec.specs.MachineRun as R
use Rattle.lta_spec.specs.Engine as E
use Rattle.lta_spec.specs.Memory as W
use Rattle.lta_spec.specs.Demand.{Listed, Returned, is_tick, times_in}
use Rattle.lta_spec.specs.Demand.Listed.{on_run}
use Rattle.lta_spec.specs.Forecasts.{tick_told, dump_told, well_formed, open_set, holdoff_set}
use Rattle.lta_spec.specs.declared.Shape.{Shape}
use Rattle.lta_spec.specs.declared.Refusal.{Refusal}
use Rattle.lta_spec.specs.declared.Refusal.TheVariants.{WrongSamples, BadValidity, RunFull}
use Rattle.lta_spec.proofs.TestLaws.{pass}
use Rattle.lta_spec.proofs.WordLaws.{over-append, over-at}
use Rattle.lta_spec.proofs.Conserve.{over-places}
use Rattle.lta_spec.proofs.Totals.{none_below}
use Rattle.lta_spec.proofs.SameCell.{Good}
use Rattle.lta_spec.proofs.SameRun.{AllSame, SameRun}
use Rattle.lta_spec.proofs.Follow.{accepts}

-- loss 6 of a cell: another loss that grows leaves it
abbrev pub six : Cell Ticks → Ticks
six c = get_or c.losses holdoff []

lose-six : (i : ℕ) (s : Ticks) (ls : List Ticks) → i < holdoff → get_or (M.lose i s ls) holdoff [] ≡ get_or ls holdoff []
unfolding M.lose
lose-six i s ls h = get_or-set_other ls i holdoff _ [] (λ e. omega arith)

dump-six : (x y z : Bool) (l : Label) (t : ℕ) (c : Cell Ticks) → six (M.dump_by x y z l t c).cell ≡ six c
unfolding M.dump_by M.lose_open M.hold_open
dump-six true y z l t c = refl
dump-six false true z l t c = lose-six ordered _ c.losses (omega arith)
dump-six false false true l t c = lose-six overrun _ c.losses (omega arith)
dump-six false false false l t c = refl

module _ (k : ℕ) (b : Bin Ticks) (c : Cell Ticks) where
  integrate-six : (r p w : Bool) → six (M.integrate_by r p w k b c).cell ≡ six c
  unfolding M.integrate_by M.release
  integrate-six true p w = lose-six full _ c.losses (omega arith)
  integrate-six false true w = lose-six replaced _ c.losses (omega arith)
  integrate-six false false true = lose-six too_wide _ c.losses (omega arith)
  integrate-six false false false = refl

  integrate-open : (r p w : Bool) → (M.integrate_by r p w k b c).cell.opened.members ≡ c.opened.members
  unfolding M.integrate_by M.release
  integrate-open true p w = refl
  integrate-open false true w = refl
  integrate-open false false true = refl
  integrate-open false false false = refl

-- an accepted dump, where none but 111 was told
told_none : (k : ℕ) → ◌≡◌ {A = List ℕ} (k ∷ []) [] → ◌≡◌ {A = ℕ} 0 1
told_none k e = cc

dump-open : (k command : ℕ) (y z : Bool) (l : Label) (t : ℕ) (c : Cell Ticks)
    → cond (true && not (eqb command idle)) (k ∷ []) [] ≡ []
    → (M.dump_by (eqb command idle) y z l t c).cell.opened.members ≡ c.opened.members
unfolding M.dump_by
dump-open k command y z l t c e = by-test (eqb command idle) e
  where
    by-test : (b : Bool) → cond (true && not b) (k ∷ []) [] ≡ []
        → (M.dump_by b y z l t c).cell.opened.members ≡ c.opened.members
    by-test true e = refl
    by-test false e = let z = told_none k e in absurd (omega arith)

-- a tick: Open gets it where there is room, else loss 6
module _ (t : ℕ) (c : Cell Ticks) where
  tick_by-open : (b : Bool) → (M.tick_by b t c).opened.members ≡ c.opened.members ++ cond b (t ∷ []) []
  unfolding M.tick_by
  tick_by-open true = refl
  tick_by-open false = sym (append-nil c.opened.members)

  pub tick-open : (M.tick_cell t c).opened.members ≡ c.opened.members ++ cond (M.has_room c) (t ∷ []) []
  unfolding M.tick_cell
  tick-open = tick_by-open (M.has_room c)

  module _ (some : length c.losses ≡ loss_count) where
    tick_by-six : (b : Bool) → six (M.tick_by b t c) ≡ six c ++ cond b [] (t ∷ [])
    unfolding M.tick_by M.lose
    tick_by-six true = sym (append-nil (six c))
    tick_by-six false = get_or-set_same c.losses holdoff _ [] (omega arith)

    pub tick-six : six (M.tick_cell t c) ≡ six c ++ cond (M.has_room c) [] (t ∷ [])
    unfolding M.tick_cell
    tick-six = tick_by-six (M.has_room c)

    -- how often tick i is then in it
    tick-times : (i : ℕ) → times_in i (six (M.tick_cell t c)) ≡ times_in i (six c) + cond (M.has_room c) 0 (is_tick i t)
    tick-times i = ap (times_in i) tick-six ∙ over-append (is_tick i) (six c) _ ∙ by-test (M.has_room c)
      where
        by-test : (b : Bool)
            → times_in i (six c) + times_in i (cond b [] (t ∷ [])) ≡ times_in i (six c) + cond b 0 (is_tick i t)
        by-test true = refl
        by-test false = omega arith

-- a tick that is still to come is in no place
pub none_yet : (sh : Shape) (t i : ℕ) (u : R.Unit) → Good sh t u → t ≤ i → times_in i (holdoff_set u) ≡ 0
none_yet sh t i u g h =
    omega (
      arith,
      over-at (times_in i) [] refl u.cell.losses holdoff,
      over-places (times_in i) u,
      g.once (is_tick i),
      none_below i t h,
    )

-- a tick, all cells
module _ (sh : Shape) (t : ℕ) where
  abbrev cells_with : (i : ℕ) → List R.Unit → ℕ
  cells_with i us = over_all (λ u. times_in i (holdoff_set u)) us

  -- as many cells have it in loss 6 as had no room
  pub tick-now : (samples : List ℕ) (es : List E.Unit) (us : List R.Unit) → AllSame sh t es us
      → cells_with t (R.tick_units t samples us) ≡ R.held_off us
  unfolding R.tick_units R.held_off
  tick-now samples [] [] a = refl
  tick-now samples [] (u ∷ us) a = absurd a
  tick-now samples (e ∷ es) [] a = absurd a
  tick-now samples (e ∷ es) (u ∷ us) a =
      let g = a.0.good in
      let own : times_in t (six (M.tick_cell t u.cell)) ≡ cond (M.has_room u.cell) 0 1 =
      omega (
        arith,
        none_yet sh t t u g (omega arith),
        rw (eq-eqb t t refl) at (tick-times t u.cell g.sound.flat.losses t),
      ) in
      ap₂ ◌+◌ own (tick-now (drop 3 samples) es us a.1)

  -- and of the ticks before it as many as had
  pub tick-earlier : (i : ℕ) → i < t → (samples : List ℕ) (es : List E.Unit) (us : List R.Unit) → AllSame sh t es us
      → cells_with i (R.tick_units t samples us) ≡ cells_with i us
  unfolding R.tick_units
  tick-earlier i h samples [] [] a = refl
  tick-earlier i h samples [] (u ∷ us) a = absurd a
  tick-earlier i h samples (e ∷ es) [] a = absurd a
  tick-earlier i h samples (e ∷ es) (u ∷ us) a =
      let own : times_in i (six (M.tick_cell t u.cell)) ≡ times_in i (six u.cell) =
      (rw (ne_eqb i t (omega arith)) at (tick-times t u.cell a.0.good.sound.flat.losses i))
      ∙ nothing (M.has_room u.cell) in
      ap₂ ◌+◌ own (tick-earlier i h (drop 3 samples) es us a.1)
    where
      nothing : {k : ℕ} (b : Bool) → k + cond b 0 0 ≡ k
      nothing true = omega arith
      nothing false = omega arith

  pub tick-cell : (samples : List ℕ) (us : List R.Unit) (c : ℕ) (d : R.Unit) → c < length us
      → (get_or (R.tick_units t samples us) c d).cell ≡ M.tick_cell t (get_or us c d).cell
  unfolding R.tick_units
  tick-cell samples [] c d h = absurd (not-suc-le-zero h)
  tick-cell samples (u ∷ us) zero d h = refl
  tick-cell samples (u ∷ us) (suc c) d h = tick-cell (drop 3 samples) us c d (le_of_suc-le-suc h)

-- one element set anew: what f says of an element stays, if it does of that one where it is meant
pub kept_at : {A B : Type 0} (f : A → B) (us : List A) (d c : ℕ) (u d₀ : A) → (d ≡ c → f u ≡ f (get_or us d d₀))
    → f (get_or (set us d u) c d₀) ≡ f (get_or us c d₀)
kept_at f [] d c u d₀ h = refl
kept_at f (x ∷ us) zero zero u d₀ h = h refl
kept_at f (x ∷ us) zero (suc c) u d₀ h = refl
kept_at f (x ∷ us) (suc d) zero u d₀ h = refl
kept_at f (x ∷ us) (suc d) (suc c) u d₀ h = kept_at f us d c u d₀ (λ e. h (ap suc e))

-- what a call on the run tells
abbrev pub told : R.Step → Returned
told s = record { answer = s.answer; out = s.out }

module _ (sh : Shape) (c : ℕ) where
  -- a call that takes no tick: Open of cell c and every loss 6 stay as they are
  pub record Kept (l : Listed) (m : R.Run) (s : R.Step) : Type 0 where
    pub none : tick_told l (told s) ≡ []
    pub time : s.run.t ≡ m.t
    pub opened : open_set (R.unit_at sh c s.run) ≡ open_set (R.unit_at sh c m)
    pub losses : map holdoff_set s.run.units ≡ map holdoff_set m.units
    -- a well-formed tick is refused at the end of the run alone
    pub ended : 0 < well_formed sh l → run_limit ≤ m.t

  -- an accepted tick
  pub record Ticked (l : Listed) (m : R.Run) (s : R.Step) : Type 0 where
    pub samples : List ℕ
    pub one : tick_told l (told s) ≡ R.held_off m.units ∷ []
    pub run : s.run
        ≡ record { t = suc m.t; served = m.served; units = R.tick_units m.t samples m.units }
    pub single : well_formed sh l ≤ 1

  pub data Outcome (l : Listed) (m : R.Run) (s : R.Step) : Type 0 where
    keeps : Kept l m s → Outcome l m s
    ticks : Ticked l m s → Outcome l m s

  pub no-tick : (l : Listed) (m : R.Run) (s : R.Step) → tick_told l (told s) ≡ [] → well_formed sh l ≡ 0
      → s.run.t ≡ m.t
      → open_set (R.unit_at sh c s.run) ≡ open_set (R.unit_at sh c m)
      → map holdoff_set s.run.units ≡ map holdoff_set m.units → Kept l m s
  no-tick l m s e w t o ls = record { none = e; time = t; opened = o; losses = ls; ended = λ h. absurd (omega arith) }

  module _ (ok : shape_ok sh ≡ true) (m : R.Run) where
    -- a well-formed tick that is refused
    run-full : (samples : List ℕ) (why : Refusal) → R.verdict sh m (memory_words sh) (tick samples) ≡ Err why
        → 0 < well_formed sh (on_run (tick samples)) → run_limit ≤ m.t
    unfolding R.verdict host_tests
    run-full samples why v h =
        by_tests (samples_ok sh.cells samples) (validity_ok sh.cells samples) (eqb m.t run_limit) refl
        (rw (ok, eq-eqb (memory_words sh) (memory_words sh) refl) at v) h
      where
        by_tests : (a d b : Bool) → eqb m.t run_limit ≡ b
            → cond a (cond d (cond {A = Verdict} (not b) (Ok tt) (Err RunFull)) (Err BadValidity)) (Err WrongSamples)
            ≡ Err why
            → 0 < cond (a && d) 1 0 → run_limit ≤ m.t
        by_tests true true true e v h = omega (arith, eqb-true m.t run_limit e)
        by_tests true true false e v h = let z : ◌≡◌ {A = ℕ} 0 1 = cc in absurd (omega arith)
        by_tests true false b e v h = absurd (not-suc-le-zero h)
        by_tests false d b e v h = absurd (not-suc-le-zero h)

    refused-keeps : (call : Call) (why : Refusal) → R.verdict sh m (memory_words sh) call ≡ Err why
        → Kept (on_run call) m (record { answer = refusal why; out = lent_to call; run = m })
    refused-keeps (tick samples) why v =
        record { none = refl; time = refl; opened = refl; losses = refl; ended = run-full samples why v }
    refused-keeps (dump d command bank phase out) why v = no-tick _ m _ refl refl refl refl refl
    refused-keeps (integrate d) why v = no-tick _ m _ refl refl refl refl refl
    refused-keeps (emit d bank bin out) why v = no-tick _ m _ refl refl refl refl refl
    refused-keeps (reading d lag loss) why v = no-tick _ m _ refl refl refl refl refl
    refused-keeps (forecast d) why v = no-tick _ m _ refl refl refl refl refl
    refused-keeps (page out) why v = no-tick _ m _ refl refl refl refl refl
    refused-keeps (pick out) why v = no-tick _ m _ refl refl refl refl refl

    -- an accepted dump of another cell, or 111
    dump-does : (d command bank phase : ℕ) (out : List ℕ) (k : M.Counter) (b : Bool) → eqb command speed ≡ b
        → let call = dump d command bank phase out in
        let s = R.dumps_by b sh d (M.dump_label sh.start sh.blocks command bank phase k.block) k out m in
        dump_told c (on_run call) (told s) ≡ [] → Outcome (on_run call) m s
    unfolding R.dumps_by R.sends R.with_dump R.with_frame M.dump_cell M.send_open
    dump-does d command bank phase out k true e none =
        let other : eqb command idle ≡ false = ap (λ x. eqb x idle) (eqb-true command speed e) in
        keeps
        (no-tick _ m _ refl refl refl
        (kept_at open_set m.units d c _ (R.fresh_unit sh)
        (λ same. let z : ◌≡◌ {A = ℕ} 0 1 = told_none _ (rw (eq-eqb d c same, other) at none) in absurd (omega arith)))
        (map-set_same holdoff_set m.units d _ (R.fresh_unit sh) refl))
    dump-does d command bank phase out k false e none =
        keeps
        (no-tick _ m _ refl refl refl
        (kept_at open_set m.units d c _ (R.fresh_unit sh)
        (λ same. dump-open _ command _ _ _ _ _ (rw (eq-eqb d c same) at none)))
        (map-set_same holdoff_set m.units d _ (R.fresh_unit sh) (dump-six _ _ _ _ _ _)))

    -- an emission, by name or by a pick
    module _ (d bank bin : ℕ) (out : List ℕ) where
      emit-open : open_set (R.unit_at sh c (R.emits sh d bank bin out m).run) ≡ open_set (R.unit_at sh c m)
      unfolding R.emits R.sends R.with_frame M.empty_bin
      emit-open = kept_at open_set m.units d c _ (R.fresh_unit sh) (λ same. refl)

      emit-losses : map holdoff_set (R.emits sh d bank bin out m).run.units ≡ map holdoff_set m.units
      unfolding R.emits R.sends R.with_frame M.empty_bin
      emit-losses = map-set_same holdoff_set m.units d _ (R.fresh_unit sh) refl

    module _ (r : R.Run) (d k : ℕ) where
      picked-open : open_set (R.unit_at sh c (R.picked_from sh d k r)) ≡ open_set (R.unit_at sh c r)
      unfolding R.picked_from
      picked-open = kept_at open_set r.units d c _ (R.fresh_unit sh) (λ same. refl)

      picked-losses : map holdoff_set (R.picked_from sh d k r).units ≡ map holdoff_set r.units
      unfolding R.picked_from
      picked-losses = map-set_same holdoff_set r.units d _ (R.fresh_unit sh) refl

    accepted-does : (call : Call) → first_of (R.call_tests sh m call) ≡ Ok tt
        → dump_told c (on_run call) (told (R.accepted sh call m)) ≡ [] → Outcome (on_run call) m (R.accepted sh call m)
    unfolding
        R.accepted R.emits R.picks R.picked_from R.sends R.with_dump R.with_frame R.with_cell M.integrate_cell M.integrate_at
    accepted-does (tick samples) v none =
        let a = pass (samples_ok sh.cells samples) _ _ v in
        let d = pass (validity_ok sh.cells samples) _ _ a.1 in
        ticks (record { samples = samples; one = refl; run = refl; single = rw (a.0, d.0) (omega arith) })
    accepted-does (dump d command bank phase out) v none = dump-does d command bank phase out _ _ refl none
    accepted-does (integrate d) v none =
        keeps
        (no-tick _ m _ refl refl refl
        (kept_at open_set m.units d c _ (R.fresh_unit sh) (λ same. integrate-open _ _ _ _ _ _))
        (map-set_same holdoff_set m.units d _ (R.fresh_unit sh) (integrate-six _ _ _ _ _ _)))
    accepted-does (emit d bank bin out) v none =
        keeps
        (no-tick _ m (R.emits sh d bank bin out m) refl refl refl (emit-open d bank bin out)
        (emit-losses d bank bin out))
    accepted-does (reading d lag loss) v none = keeps (no-tick _ m _ refl refl refl refl refl)
    accepted-does (forecast d) v none = keeps (no-tick _ m _ refl refl refl refl refl)
    accepted-does (page out) v none = keeps (no-tick _ m _ refl refl refl refl refl)
    accepted-does (pick out) v none =
        let d = R.picked_cell sh m in
        let u = R.unit_at sh d m in
        let k = M.picked_bin sh.bins u.picked u.cell in
        let bank = k / sh.bins in
        let bin = k % sh.bins in
        let r = (R.emits sh d bank bin out m).run in
        keeps
        (no-tick _ m (R.picks sh out m) refl refl refl (picked-open r d k ∙ emit-open d bank bin out)
        (picked-losses r d k ∙ emit-losses d bank bin out))

    -- every call on the run that is no accepted dump of cell c but 111
    pub step-does : 2 ≤ sh.lags → (e : W.Run) → SameRun sh e m → (call : Call)
        → dump_told c (on_run call) (told (R.step sh (memory_words sh) call m)) ≡ []
        → Outcome (on_run call) m (R.step sh (memory_words sh) call m)
    unfolding R.step
    step-does wide e s call = by-verdict (R.verdict sh m (memory_words sh) call) refl
      where
        after : Verdict → R.Step
        after v =
            decided v (λ why. record { answer = refusal why; out = lent_to call; run = m }) (R.accepted sh call m)

        by-verdict : (v : Verdict) → R.verdict sh m (memory_words sh) call ≡ v
            → dump_told c (on_run call) (told (after v)) ≡ [] → Outcome (on_run call) m (after v)
        by-verdict (Ok _) v none = accepted-does call (accepts sh wide e m s call v) none
        by-verdict (Err why) v none = keeps (refused-keeps call why v)

-- One call of the plain machine: it emits a Ready bin, or leaves it, and a successful pick then brings the bin nearer.
use Rattle.std.specs.Prelude.{Ok, Err}
use Prim.Native.Nat.{ℕ, zero, suc, ◌+◌, ◌*◌, ◌/◌, ◌%◌, ◌≤◌, ◌<◌}
use mathlib.Core.Path.{◌≡◌, refl, sym, ap, ap₂, ◌∙◌, subst}
use mathlib.Core.Bool.{Bool, true, false, ◌&&◌}
use mathlib.Core.List.{List, [], ◌∷◌}
use native.Mathlib.Nat.{suc-mul, mul-le-mul_right, mul-add-div_right, mul-add-mod_self_right, div-eq_of_lt}
use native.Mathlib.Nat.{mod-eq_of_lt, div-add-mod'}
use native.Mathlib.Omega.{arith}
use lib.Dec.{ltb, eqb}
use lib.ListN.{length, get_or, set, drop}
use lib.Seq.{get_or-set_same, get_or-set_other, lt-length-set}
use borrow.Author.Tests.{ltb-true, eqb-true, eqb-false, eq-eqb, le-leb}
use Rattle.lta_spec.specs.Refusals.{first_of, decided, Verdict}
use Rattle.lta_spec.specs.Size.{memory_words}
use Rattle.lta_spec.specs.Place.{Label, Bin, Cell, ready}
use Rattle.lta_spec.specs.Call.{Call, lent_to, bank_ok, speed, bin_index}
use Rattle.lta_spec.specs.Call.Call.{tick, dump, integrate, emit, reading, forecast, page, pick}
use Rattle.lta_spec.specs.Answer.{refusal}
use Rattle.lta_spec.specs.Machine as M
use Rattle.lta_spec.specs.Machine.{Ticks, Latest}
use Rattle.lta_spec.specs.Machine.Latest.{was}
use Rattle.lta_spec.specs.MachineRun as R
use Rattle.lta_spec.specs.Memory as W
use Rattle.lta_spec.specs.Demand.{Listed, Stands, machine_step}
use Rattle.lta_spec.specs.Demand.Listed.{on_run, on_other}
use Rattle.lta_spec.specs.Fairness.{pick_told, places_ahead, picks_ahead}
use Rattle.lta_spec.specs.declared.Shape.{Shape}
use Rattle.lta_spec.specs.declared.Refusal.{Refusal}
use Rattle.lta_spec.proofs.TestLaws.{and_both, pass}
use Rattle.lta_spec.proofs.ShapeLaws.{index_below}
use Rattle.lta_spec.proofs.ReadyLaws.{tick-bins, dump-bins, some-ready}
use Rattle.lta_spec.proofs.PickLaws.{found, ahead-below}
use Rattle.lta_spec.proofs.SameRun.{SameRun, unit-same}
use Rattle.lta_spec.proofs.Follow.{accepts, turned}
use Rattle.lta_spec.proofs.Holdoff.{kept_at, told}

-- the place of a named bin gives its bank and its data bin back
named : (B bank bin k : ℕ) → bin < B → k ≡ bin_index B bank bin → (k / B ≡ bank) × (k % B ≡ bin)
named B bank bin k in_bin is =
    rw is (
      omega (arith, mul-add-div_right {m = B} (omega arith) bank bin, div-eq_of_lt in_bin),
      mul-add-mod_self_right bank B bin ∙ mod-eq_of_lt in_bin,
    )

-- an integration leaves bin k if that is Ready, whichever bin i it goes to
module _ (k i : ℕ) (c : Cell Ticks) where
  other-bin : (b : Bin Ticks) → (i ≡ k → false ≡ true)
      → get_or (set c.bins i b) k M.free_bin ≡ get_or c.bins k M.free_bin
  other-bin b h =
      get_or-set_other c.bins i k b M.free_bin
      (λ e. let w = h (sym e) in let z : ◌≡◌ {A = ℕ} 0 1 = cc in omega arith)

  integrate-bin : (r p w : Bool) → (i ≡ k → r ≡ true)
      → M.bin_at k (M.integrate_by r p w i (M.bin_at i c) c).cell ≡ M.bin_at k c
  unfolding M.integrate_by M.release M.bin_at
  integrate-bin true p w h = kept_at (λ b. b) c.bins i k _ M.free_bin (λ same. refl)
  integrate-bin false true w h = other-bin _ h
  integrate-bin false false true h = other-bin _ h
  integrate-bin false false false h = other-bin _ h

-- a refused call is no successful pick
none_told : (call : Call) (why : Refusal) (out : List ℕ)
    → pick_told (on_run call) (record { answer = refusal why; out = out }) ≡ []
none_told (tick samples) why out = refl
none_told (dump d command bank phase lent) why out = refl
none_told (integrate d) why out = refl
none_told (emit d bank bin lent) why out = refl
none_told (reading d lag loss) why out = refl
none_told (forecast d) why out = refl
none_told (page lent) why out = refl
none_told (pick lent) why out = refl

module _ (sh : Shape) (c bank bin : ℕ) where
  abbrev place : ℕ
  place = bin_index sh.bins bank bin

  -- a call that leaves the bin; a successful pick is one of those that may come before the bin
  pub record Waits (l : Listed) (m : R.Run) (s : R.Step) : Type 0 where
    pub kept : M.bin_at place (R.unit_at sh c s.run).cell ≡ M.bin_at place (R.unit_at sh c m).cell
    pub fewer : length (pick_told l (told s)) + picks_ahead sh c place s.run ≤ picks_ahead sh c place m

  -- or one that emits it
  pub data Outcome (l : Listed) (m : R.Run) (s : R.Step) : Type 0 where
    waits : Waits l m s → Outcome l m s
    emits : (R.unit_at sh c s.run).frames ≡ R.emitted sh c bank bin m ∷ (R.unit_at sh c m).frames → Outcome l m s

  -- a call that leaves of the cell this bin and the bin last picked
  abbrev seen : R.Unit → Bin Ticks × Latest
  seen u = (M.bin_at place u.cell, u.picked)

  leaves : (l : Listed) (m : R.Run) (s : R.Step) → seen (R.unit_at sh c s.run) ≡ seen (R.unit_at sh c m)
      → length (pick_told l (told s)) + places_ahead sh.cells s.run.served c
      ≤ places_ahead sh.cells m.served c
      → Outcome l m s
  leaves l m s same nearer =
      let picked : (R.unit_at sh c s.run).picked ≡ (R.unit_at sh c m).picked = ap (λ p. p.1) same in
      waits (record { kept = ap (λ p. p.0) same; fewer = rw picked (omega arith) })

  -- and is no successful pick
  no-pick : (l : Listed) (m : R.Run) (s : R.Step) → pick_told l (told s) ≡ [] → s.run.served ≡ m.served
      → seen (R.unit_at sh c s.run) ≡ seen (R.unit_at sh c m) → Outcome l m s
  no-pick l m s none served same = leaves l m s same (rw (none, served) (omega arith))

  tick-seen : (t : ℕ) (samples : List ℕ) (us : List R.Unit) (i : ℕ) (d : R.Unit)
      → seen (get_or (R.tick_units t samples us) i d) ≡ seen (get_or us i d)
  unfolding R.tick_units M.tick_cell M.bin_at
  tick-seen t samples [] i d = refl
  tick-seen t samples (u ∷ us) zero d =
      ap (λ bs. (get_or bs place M.free_bin, u.picked)) (tick-bins u.cell (M.has_room u.cell) t)
  tick-seen t samples (u ∷ us) (suc i) d = tick-seen t (drop 3 samples) us i d

  module _ (m : R.Run) where
    dump-does : (d command p phase : ℕ) (out : List ℕ) (l : Label) (k : M.Counter) (speeds : Bool)
        → Outcome (on_run (dump d command p phase out)) m (R.dumps_by speeds sh d l k out m)
    unfolding R.dumps_by R.sends R.with_frame R.with_dump M.send_open M.dump_cell M.bin_at
    dump-does d command p phase out l k true =
        no-pick _ m _ refl refl (kept_at seen m.units d c _ (R.fresh_unit sh) (λ same. refl))
    dump-does d command p phase out l k false =
        let u = R.unit_at sh d m in
        no-pick _ m _ refl refl
        (kept_at seen m.units d c _ (R.fresh_unit sh)
        (λ same. ap (λ bs. (get_or bs place M.free_bin, u.picked)) (dump-bins u.cell _ _ _ l m.t)))

    -- an emission of another bin, and of this one
    emit-other : (d p q : ℕ) (out : List ℕ) → (d ≡ c → bin_index sh.bins p q ≡ place → ⊥)
        → seen (R.unit_at sh c (R.emits sh d p q out m).run) ≡ seen (R.unit_at sh c m)
    unfolding R.emits R.sends R.with_frame M.empty_bin M.bin_at
    emit-other d p q out other =
        let u = R.unit_at sh d m in
        kept_at seen m.units d c _ (R.fresh_unit sh)
        (λ same.
        ap (λ b. (b, u.picked))
        (get_or-set_other u.cell.bins (bin_index sh.bins p q) place _ M.free_bin (λ e. other same (sym e))))

    emit-this : (out : List ℕ) → c < length m.units
        → (R.unit_at sh c (R.emits sh c bank bin out m).run).frames
        ≡ R.emitted sh c bank bin m ∷ (R.unit_at sh c m).frames
    unfolding R.emits R.sends R.with_frame
    emit-this out there = ap (λ u. u.frames) (get_or-set_same m.units c _ (R.fresh_unit sh) there)

    -- a pick of bin j of cell d, the run that its emission leaves, and what it leaves itself
    module _ (d j : ℕ) (out : List ℕ) where
      abbrev sent : R.Run
      sent = (R.emits sh d (j / sh.bins) (j % sh.bins) out m).run

      abbrev taken : R.Step
      taken =
          let s = R.emits sh d (j / sh.bins) (j % sh.bins) out m in
          record { answer = s.answer; out = s.out; run = R.picked_from sh d j sent }

    -- the next search comes to this cell earlier, or to this bin
    abbrev NearerCell : (d : ℕ) → Type 0
    NearerCell d = suc (places_ahead sh.cells (was d) c) ≤ places_ahead sh.cells m.served c

    abbrev NearerBin : (j : ℕ) → Type 0
    NearerBin j =
        suc (places_ahead (2 * sh.bins) (was j) place)
        ≤ places_ahead (2 * sh.bins) (R.unit_at sh c m).picked place

    -- a pick of another cell
    pick_other : (d j : ℕ) (out : List ℕ) → (d ≡ c → ⊥) → NearerCell d → Outcome (on_run (pick out)) m (taken d j out)
    unfolding R.picked_from R.emits R.sends
    pick_other d j out other nearer =
        leaves _ m _
        (kept_at seen (sent d j out).units d c _ (R.fresh_unit sh) (λ e. absurd (other e))
        ∙ emit-other d (j / sh.bins) (j % sh.bins) out (λ e. absurd (other e)))
        (omega arith)

    module _ (wide : 2 ≤ sh.lags) (e : W.Run) (s : SameRun sh e m) (inside : c < sh.cells) (in_bank : bank < 2)
        (in_bin : bin < sh.bins) (is : (M.bin_at place (R.unit_at sh c m).cell).state ≡ ready) where
      there : c < length m.units
      there = omega (arith, s.cells)

      -- an integration
      integrate-does : (d : ℕ) → Outcome (on_run (integrate d)) m (R.accepted sh (integrate d) m)
      unfolding R.accepted R.with_cell R.with_dump M.integrate_cell M.integrate_at
      integrate-does d =
          let u = R.unit_at sh d m in
          let i = bin_index sh.bins u.cell.held.label.bank u.cell.held.label.bin in
          no-pick _ m _ refl refl
          (kept_at seen m.units d c _ (R.fresh_unit sh)
          (λ same.
          ap (λ b. (b, u.picked))
          (integrate-bin place i u.cell _ _ _
          (λ at. eq-eqb _ ready (ap₂ (λ d i. (M.bin_at i (R.unit_at sh d m).cell).state) same at ∙ is)))))

      -- an emission of a named bin
      emit-does : (d p q : ℕ) (out : List ℕ) → q < sh.bins
          → Outcome (on_run (emit d p q out)) m (R.emits sh d p q out m)
      unfolding R.emits R.sends R.with_frame
      emit-does d p q out in-bins = by-test (eqb d c && eqb (bin_index sh.bins p q) place) refl
        where
          by-test : (b : Bool) → eqb d c && eqb (bin_index sh.bins p q) place ≡ b
              → Outcome (on_run (emit d p q out)) m (R.emits sh d p q out m)
          by-test true x =
              let both = and_both (eqb d c) _ x in
              let own = named sh.bins p q (bin_index sh.bins p q) in-bins refl in
              let this = named sh.bins bank bin _ in_bin (eqb-true _ place both.1) in
              emits (rw (eqb-true d c both.0, sym own.0 ∙ this.0, sym own.1 ∙ this.1) (emit-this out there))
          by-test false x =
              no-pick _ m _ refl refl
              (emit-other d p q out
              (λ cell at.
              let w : ◌≡◌ {A = Bool} true false = rw (eq-eqb d c cell, eq-eqb _ place at) at x in
              let z : ◌≡◌ {A = ℕ} 0 1 = cc in
              omega arith))

      -- a pick of this cell
      pick-this : (j : ℕ) (out : List ℕ) → ((j ≡ place → ⊥) → NearerBin j)
          → Outcome (on_run (pick out)) m (taken c j out)
      unfolding R.picked_from R.emits R.sends R.with_frame
      pick-this j out nearer = by-test (eqb j place) refl
        where
          by-test : (b : Bool) → eqb j place ≡ b → Outcome (on_run (pick out)) m (taken c j out)
          by-test true x =
              let this = named sh.bins bank bin j in_bin (eqb-true j place x) in
              emits
              (kept_at (λ u. u.frames) (sent c j out).units c c _ (R.fresh_unit sh) (λ same. refl)
              ∙ rw (this.0, this.1) (emit-this out there))
          by-test false x =
              let other = eqb-false j place x in
              let picked : (R.unit_at sh c (taken c j out).run).picked ≡ was j =
              ap (λ u. u.picked)
              (get_or-set_same (sent c j out).units c _ (R.fresh_unit sh) (lt-length-set m.units c _ there)) in
              let left =
              emit-other c (j / sh.bins) (j % sh.bins) out (λ e z. other (sym (div-add-mod' j sh.bins) ∙ z)) in
              waits
              (record {
                kept =
                    kept_at (λ u. M.bin_at place u.cell) (sent c j out).units c c _ (R.fresh_unit sh) (λ same. refl)
                    ∙ ap (λ p. p.0) left;
                fewer =
                    rw picked
                    (omega (
                      arith,
                      mul-le-mul_right sh.cells (nearer other),
                      suc-mul (places_ahead (2 * sh.bins) (was j) place) sh.cells,
                      ahead-below sh.cells (was c) c inside inside,
                    ));
              })

      -- where a pick looks for a cell and for a bin of it, each search brings nearer what it does not take
      cell-nearer : (R.picked_cell sh m ≡ c → ⊥) → NearerCell (R.picked_cell sh m)
      unfolding R.picked_cell
      cell-nearer =
          (found _ sh.cells m.served s.served c inside (le-leb 1 _ (some-ready _ place is))).nearer

      bin-nearer : (d : ℕ) → d ≡ c
          → let j = M.picked_bin sh.bins (R.unit_at sh d m).picked (R.unit_at sh d m).cell in
          (j ≡ place → ⊥) → NearerBin j
      unfolding M.picked_bin
      bin-nearer d same =
          rw same
          (found _ (2 * sh.bins) _ (unit-same sh e m s c inside).good.picked place
          (index_below sh.bins bank bin in_bank in_bin) (eq-eqb _ ready is)).nearer

      pick-does : (d j : ℕ) (out : List ℕ) → ((d ≡ c → ⊥) → NearerCell d) → (d ≡ c → (j ≡ place → ⊥) → NearerBin j)
          → Outcome (on_run (pick out)) m (taken d j out)
      pick-does d j out cells bins = by-test (eqb d c) refl
        where
          by-test : (b : Bool) → eqb d c ≡ b → Outcome (on_run (pick out)) m (taken d j out)
          by-test true x =
              let same = eqb-true d c x in
              subst (λ d. Outcome (on_run (pick out)) m (taken d j out)) (sym same) (pick-this j out (bins same))
          by-test false x = let other = eqb-false d c x in pick_other d j out other (cells other)

      accepted-does : (call : Call) → first_of (R.call_tests sh m call) ≡ Ok tt
          → Outcome (on_run call) m (R.accepted sh call m)
      unfolding R.accepted R.picks
      accepted-does (tick samples) v =
          no-pick _ m _ refl refl (tick-seen m.t samples m.units c (R.fresh_unit sh))
      accepted-does (dump d command p phase out) v = dump-does d command p phase out _ _ (eqb command speed)
      accepted-does (integrate d) v = integrate-does d
      accepted-does (emit d p q out) v =
          let x = pass (ltb d sh.cells) _ _ v in
          let y = pass (bank_ok p && ltb q sh.bins) _ _ x.1 in
          emit-does d p q out (ltb-true q sh.bins (and_both (bank_ok p) _ y.0).1)
      accepted-does (reading d lag loss) v = no-pick _ m _ refl refl refl
      accepted-does (forecast d) v = no-pick _ m _ refl refl refl
      accepted-does (page out) v = no-pick _ m _ refl refl refl
      accepted-does (pick out) v = pick-does (R.picked_cell sh m) _ out cell-nearer (bin-nearer (R.picked_cell sh m))

      -- every call that may stand in a list
      pub step-does : (l : Listed) → Stands l → Outcome l m (machine_step sh l m)
      unfolding R.step
      step-does (on_run call) stands = by-verdict (R.verdict sh m (memory_words sh) call) refl
        where
          by-verdict : (v : Verdict) → R.verdict sh m (memory_words sh) call ≡ v
              → Outcome (on_run call) m
              (decided v (λ why. record { answer = refusal why; out = lent_to call; run = m }) (R.accepted sh call m))
          by-verdict (Ok _) v = accepted-does call (accepts sh wide e m s call v)
          by-verdict (Err why) v = no-pick _ m _ (none_told call why (lent_to call)) refl refl
      step-does (on_other shape call given) stands =
          subst (Outcome (on_other shape call given) m) (sym (turned shape call given m stands).machine)
          (no-pick _ m _ refl refl refl)

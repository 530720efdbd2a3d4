-- Emitted frames: the bytes that the calls left in their buffers are, at the end, those of the machine's sets of
-- frames.
use Rattle.std.specs.Prelude.{Ok, Err}
use Prim.Native.Nat.{ℕ, zero, suc, ◌*◌, ◌/◌, ◌%◌, ◌≤◌, ◌<◌}
use mathlib.Core.Path.{◌≡◌, refl, sym, ap, ap₂, ◌∙◌, subst}
use mathlib.Core.Bool.{Bool, true, false, not, ◌&&◌, ◌||◌}
use mathlib.Core.List.{List, [], ◌∷◌, ◌++◌, map, append_assoc}
use native.Mathlib.Nat.{not-suc-le-zero, le_of_suc-le-suc}
use native.Mathlib.Omega.{arith}
use lib.Dec.{ltb, leb, eqb}
use lib.ListN.{length, get_or, set, take, drop, length-map, length-set}
use lib.Seq.{append_snoc, get_or-set_same, get_or-set_other}
use borrow.Author.Tests.{leb-true, ltb-true, lt-ltb, eqb-true, eqb-false}
use Rattle.lta_spec.specs.Refusals.{first_of, decided, Verdict}
use Rattle.lta_spec.specs.Size.{memory_words}
use Rattle.lta_spec.specs.Words.{splice}
use Rattle.lta_spec.specs.Tick.{Sample}
use Rattle.lta_spec.specs.Place.{Label, Stamped, Cell, ready}
use Rattle.lta_spec.specs.Bytes.{number_word}
use Rattle.lta_spec.specs.Frame.{accumulated, speed_frame, frame_length, lag_words, sealed, frame_of, body_of}
use Rattle.lta_spec.specs.Frame.{w0, header, fields_of, kind_ok}
use Rattle.lta_spec.specs.Call.{Call, lent_to, speed, command_ok, dump_fits, phase_ok, bank_ok, bin_index}
use Rattle.lta_spec.specs.Call.{emitted_fields}
use Rattle.lta_spec.specs.Call.Call.{tick, dump, integrate, emit, reading, forecast, page, pick}
use Rattle.lta_spec.specs.Answer.{refusal}
use Rattle.lta_spec.specs.Answer.Answer.{refused, number}
use Rattle.lta_spec.specs.Machine as M
use Rattle.lta_spec.specs.Machine.{Ticks}
use Rattle.lta_spec.specs.Numbers.{Emitted, lag_sums, set_fields, set_frame}
use Rattle.lta_spec.specs.MachineRun as R
use Rattle.lta_spec.specs.Engine as E
use Rattle.lta_spec.specs.Memory as W
use Rattle.lta_spec.specs.Demand.{Listed, AllStand, machine_returns, machine_run, frame_if, frame_returned}
use Rattle.lta_spec.specs.Demand.{frames_returned}
use Rattle.lta_spec.specs.Demand.Listed.{on_run, on_other}
use Rattle.lta_spec.specs.declared.Shape.{Shape}
use Rattle.lta_spec.specs.declared.Fields.{Fields}
use Rattle.lta_spec.proofs.WordLaws.{splice-eq, take-splice}
use Rattle.lta_spec.proofs.TestLaws.{pass}
use Rattle.lta_spec.proofs.ShapeLaws.{Shaped}
use Rattle.lta_spec.proofs.ByteLaws.{one_word}
use Rattle.lta_spec.proofs.FrameLaws.{length-frame}
use Rattle.lta_spec.proofs.RoundTrips.{kind-small, w0-parts, length-header}
use Rattle.lta_spec.proofs.SameRun.{SameRun, beside}
use Rattle.lta_spec.proofs.SamePick.{cell_below}
use Rattle.lta_spec.proofs.SameDone.{Carried, bin-carried, open-carried, frame_same}
use Rattle.lta_spec.proofs.Follow.{run-same, accepts, turned}

-- the frames returned so far are those of the unit's sets, whatever bytes come later
abbrev pub Framed : Shape → (c : ℕ) → List (List ℕ) → R.Unit → Type 0
Framed sh c fs u = (gx gy : List Sample) → fs ≡ map (set_frame sh c (gx ++ u.xs) (gy ++ u.ys)) u.frames

-- a frame's length
pub lags-length : (n : ℕ) (xs ys : List Sample) (s : Ticks) (m k : ℕ) → length (lag_sums n xs ys s m k) ≡ 2 * m
lags-length n xs ys s zero k = refl
lags-length n xs ys s (suc m) k = omega (arith, lags-length n xs ys s m (suc k))

pub frame-length : (sh : Shape) (c : ℕ) (xs ys : List Sample) (e : Emitted)
    → length (set_frame sh c xs ys e) ≡ frame_length e.kind sh.lags
unfolding set_frame emitted_fields
frame-length sh c xs ys e =
    let zs = lag_sums sh.lags xs ys e.content.members sh.lags 0 in
    length-frame _ (lag_words zs)
    ∙ omega (
      arith,
      length-header (set_fields sh c xs ys e),
      length-map zs number_word,
      lags-length sh.lags xs ys e.content.members sh.lags 0,
    )

-- a tick's samples join a unit's
tick-at : (t : ℕ) (samples : List ℕ) (us : List R.Unit) (c : ℕ) (d : R.Unit) → c < length us
    → (sh : Shape) (fs : List (List ℕ)) → Framed sh c fs (get_or us c d)
    → Framed sh c fs (get_or (R.tick_units t samples us) c d)
unfolding R.tick_units
tick-at t samples us c d h sh fs p = by-list samples us c h p
  where
    by-list : (samples : List ℕ) (us : List R.Unit) (k : ℕ) → k < length us → Framed sh c fs (get_or us k d)
        → Framed sh c fs (get_or (R.tick_units t samples us) k d)
    by-list samples [] k h p = absurd (not-suc-le-zero h)
    by-list samples (u ∷ us) zero h p = λ gx gy.
        rw (append_snoc gx (R.x_sample samples) u.xs, append_snoc gy (R.y_sample samples) u.ys) at
        (p (gx ++ R.x_sample samples ∷ []) (gy ++ R.y_sample samples ∷ []))
    by-list samples (u ∷ us) (suc k) h p = by-list (drop 3 samples) us k (le_of_suc-le-suc h) p

-- one unit of a run is set anew
set_at : (sh : Shape) (ms : List R.Unit) (c d : ℕ) (u d₀ : R.Unit) (fs gs : List (List ℕ)) → c < length ms
    → (eqb d c ≡ true → Framed sh c fs u) → (eqb d c ≡ false → fs ≡ gs) → Framed sh c gs (get_or ms c d₀)
    → Framed sh c fs (get_or (set ms d u) c d₀)
set_at sh ms c d u d₀ fs gs h new old p = by-test (eqb d c) refl
  where
    by-test : (b : Bool) → eqb d c ≡ b → Framed sh c fs (get_or (set ms d u) c d₀)
    by-test true e =
        let same : d ≡ c = eqb-true d c e in
        subst (λ k. Framed sh c fs (get_or (set ms k u) c d₀)) (sym same)
        (subst (Framed sh c fs) (sym (get_or-set_same ms c u d₀ h)) (new e))
    by-test false e =
        let other : c ≡ d → ⊥ = λ q. eqb-false d c e (sym q) in
        subst (Framed sh c fs) (sym (get_or-set_other ms d c u d₀ other)) (λ gx gy. old e ∙ p gx gy)

-- one unit of a run is set anew, with the frames and the samples that it had
kept-framed : (sh : Shape) (r : R.Run) (c d : ℕ) (u : R.Unit) (fs : List (List ℕ)) → c < length r.units
    → (Framed sh c fs (R.unit_at sh d r) → Framed sh c fs u)
    → Framed sh c fs (R.unit_at sh c r) → Framed sh c fs (get_or (set r.units d u) c (R.fresh_unit sh))
kept-framed sh r c d u fs h keeps p =
    set_at sh r.units c d u (R.fresh_unit sh) fs fs h
    (λ same. keeps (subst (λ k. Framed sh c fs (R.unit_at sh k r)) (sym (eqb-true d c same)) p)) (λ _. refl) p

-- the frame of fields names its cell, whatever stands behind it
cell-named : (f : Fields) (lags rest : List ℕ) → kind_ok f.kind ≡ true → f.cell ≤ 15
    → (fields_of (body_of (frame_of (header f) lags ++ rest))).cell ≡ f.cell
unfolding frame_of sealed header fields_of
cell-named f lags rest known low =
    let small = kind-small f.kind known in
    ap (λ w. w / 2048 % 16) (one_word (w0 f) (omega arith)) ∙ (w0-parts f.kind f.cell small low).1

module _ (sh : Shape) (is : Shaped sh) (e : W.Run) (m : R.Run) (s : SameRun sh e m) (c : ℕ)
    (inside : c < sh.cells)
    (fs : List (List ℕ)) (p : Framed sh c fs (R.unit_at sh c m)) where
  there : c < length m.units
  there = omega (arith, s.cells)

  -- an accepted call
  abbrev returned_by : Call → R.Step → List (List ℕ)
  returned_by call r = frame_returned c (on_run call) (record { answer = r.answer; out = r.out })

  -- a dump or an integration
  moved-framed : (d : ℕ) (cell : Cell Ticks) (k : M.Counter)
      → Framed sh c fs (R.unit_at sh c (R.with_dump sh d cell k m))
  unfolding R.with_dump
  moved-framed d cell k = kept-framed sh m c d _ fs there (λ p. p) p

  -- a call that sends a frame of cell d: the frame that it tells, and the unit that it leaves
  module _ (d : ℕ) (places : Cell Ticks) (k : M.Counter) (sent : Emitted) (x : Stamped E.Row) (out : List ℕ)
      (carried : Carried sh e.units m (beside sh e m s) d x sent.content)
      (room : leb (frame_length sent.kind sh.lags) (length out) ≡ true) where
    abbrev was : R.Unit
    was = R.unit_at sh d m

    abbrev frame : List ℕ
    frame = set_frame sh d was.xs was.ys sent

    stands : take (frame_length sent.kind sh.lags) (splice out 0 frame) ≡ frame
    stands =
        take-splice out frame _ (frame-length sh d was.xs was.ys sent)
        (leb-true (frame_length sent.kind sh.lags) (length out) room)

    later : (gx gy : List Sample) → frame ≡ set_frame sh d (gx ++ was.xs) (gy ++ was.ys) sent
    later gx gy =
        let same = frame_same sh e.units m (beside sh e m s) d sent x carried in
        sym (same [] []) ∙ same gx gy

    abbrev left : R.Unit
    left =
        record {
          cell = places;
          counter = k;
          picked = was.picked;
          frames = sent ∷ was.frames;
          xs = was.xs;
          ys = was.ys;
        }

    abbrev returned_if : Bool → List (List ℕ)
    returned_if b = frame_if b (number (frame_length sent.kind sh.lags)) (splice out 0 frame)

    own : d ≡ c → Framed sh c (returned_if true ++ fs) left
    own same gx gy =
        ap₂ (λ x y. x ∷ y) (stands ∙ later gx gy ∙ ap (λ k. set_frame sh k (gx ++ was.xs) (gy ++ was.ys) sent) same)
        (subst (λ k. Framed sh c fs (R.unit_at sh k m)) (sym same) p gx gy)

    sent-framed : Framed sh c (returned_if (eqb d c) ++ fs) (get_or (set m.units d left) c (R.fresh_unit sh))
    sent-framed = by-test (eqb d c) refl
      where
        by-test : (b : Bool) → eqb d c ≡ b
            → Framed sh c (returned_if b ++ fs) (get_or (set m.units d left) c (R.fresh_unit sh))
        by-test true q =
            set_at sh m.units c d left (R.fresh_unit sh) (returned_if true ++ fs) fs there (λ _. own (eqb-true d c q))
            (λ r. let z : ◌≡◌ {A = ℕ} 0 1 = cc in absurd (omega arith)) p
        by-test false q =
            set_at sh m.units c d left (R.fresh_unit sh) fs fs there
            (λ r. let z : ◌≡◌ {A = ℕ} 0 1 = cc in absurd (omega arith)) (λ _. refl) p

    -- the frame as it stands in the buffer names its cell
    named : kind_ok sent.kind ≡ true → d ≤ 15 → (fields_of (body_of (splice out 0 frame))).cell ≡ d
    unfolding set_frame emitted_fields
    named known low =
        let size = frame-length sh d was.xs was.ys sent in
        let fits = leb-true (frame_length sent.kind sh.lags) (length out) room in
        ap (λ s. (fields_of (body_of s)).cell) (splice-eq out 0 frame (omega arith))
        ∙ cell-named (set_fields sh d was.xs was.ys sent) _ _ known low

  -- a dump: 011, or another
  dump-framed : (d : ℕ) (l : Label) (k : M.Counter) (out : List ℕ) → ltb d sh.cells ≡ true
      → (b : Bool) → not b || leb (frame_length speed_frame sh.lags) (length out) ≡ true
      → let r = R.dumps_by b sh d l k out m in
      Framed sh c (frame_if (b && eqb d c) r.answer r.out ++ fs) (R.unit_at sh c r.run)
  unfolding R.dumps_by R.sends R.with_frame R.speed_sent
  dump-framed d l k out h true room =
      sent-framed d _ k _ _ out
      (open-carried sh e.units m (beside sh e m s) d h) room
  dump-framed d l k out h false room = moved-framed d _ _

  -- an emission
  module _ (d bank bin : ℕ) (out : List ℕ) where
    emits-there : c < length (R.emits sh d bank bin out m).run.units
    unfolding R.emits R.sends R.with_frame
    emits-there = subst (λ k. c < k) (sym (length-set m.units d _)) there

    module _ (h : ltb d sh.cells ≡ true)
        (room : leb (frame_length accumulated sh.lags) (length out) ≡ true) where
      emits-framed : let r = R.emits sh d bank bin out m in
          Framed sh c (frame_if (eqb d c) r.answer r.out ++ fs) (R.unit_at sh c r.run)
      unfolding R.emits R.sends R.with_frame R.emitted
      emits-framed =
          sent-framed d _ _ _ _ out
          (bin-carried sh e.units m (beside sh e m s) d (bin_index sh.bins bank bin) h) room

      emits-named : (fields_of (body_of (R.emits sh d bank bin out m).out)).cell ≡ d
      unfolding R.emits R.sends R.emitted
      emits-named =
          let inside = ltb-true d sh.cells h in
          named d (M.empty_bin (bin_index sh.bins bank bin) (R.unit_at sh d m).cell) (R.unit_at sh d m).counter
          (R.emitted sh d bank bin m) _ out
          (bin-carried sh e.units m (beside sh e m s) d (bin_index sh.bins bank bin) h) room refl
          (omega (arith, is.cells))

  -- every call
  accepted-framed : (call : Call) → first_of (R.call_tests sh m call) ≡ Ok tt
      → Framed sh c (returned_by call (R.accepted sh call m) ++ fs) (R.unit_at sh c (R.accepted sh call m).run)
  unfolding R.accepted R.picks R.picked_from R.with_cell dump_fits
  accepted-framed (tick samples) v = tick-at m.t samples m.units c (R.fresh_unit sh) there sh fs p
  accepted-framed (dump d command bank phase out) v =
      let x = pass (ltb d sh.cells) _ _ v in
      let y = pass (command_ok command) _ _ x.1 in
      let z = pass (bank_ok bank && phase_ok sh phase) _ _ y.1 in
      let w = pass (dump_fits sh.lags command (length out)) _ _ z.1 in
      dump-framed d _ _ out x.0 (eqb command speed) w.0
  accepted-framed (integrate d) v = moved-framed d _ _
  accepted-framed (emit d bank bin out) v =
      let k = bin_index sh.bins bank bin in
      let x = pass (ltb d sh.cells) _ _ v in
      let y = pass (bank_ok bank && ltb bin sh.bins) _ _ x.1 in
      let z = pass (eqb (M.bin_at k (R.unit_at sh d m).cell).state ready) _ _ y.1 in
      let w = pass (leb (frame_length accumulated sh.lags) (length out)) _ _ z.1 in
      emits-framed d bank bin out x.0 w.0
  accepted-framed (reading d lag loss) v = p
  accepted-framed (forecast d) v = p
  accepted-framed (page out) v = p
  accepted-framed (pick out) v =
      let some = pass (R.some_ready m) _ _ v in
      let w = pass (leb (frame_length accumulated sh.lags) (length out)) _ _ some.1 in
      let d = R.picked_cell sh m in
      let u = R.unit_at sh d m in
      let k = M.picked_bin sh.bins u.picked u.cell in
      let bank = k / sh.bins in
      let bin = k % sh.bins in
      let h = lt-ltb d sh.cells (cell_below sh e.units m (beside sh e m s) some.0) in
      rw (emits-named d bank bin out h w.0)
      (kept-framed sh (R.emits sh d bank bin out m).run c d _ _ (emits-there d bank bin out) (λ p. p)
      (emits-framed d bank bin out h w.0))

  none-returned : (b : Bool) (k : ℕ) (out : List ℕ) → frame_if b (refused k) out ≡ []
  none-returned true k out = refl
  none-returned false k out = refl

  refused-returned : (call : Call) (k : ℕ)
      → returned_by call (record { answer = refused k; out = lent_to call; run = m }) ≡ []
  refused-returned (tick samples) k = refl
  refused-returned (dump d command bank phase out) k = none-returned (eqb command speed && eqb d c) k out
  refused-returned (integrate d) k = refl
  refused-returned (emit d bank bin out) k = none-returned (eqb d c) k out
  refused-returned (reading d lag loss) k = refl
  refused-returned (forecast d) k = refl
  refused-returned (page out) k = refl
  refused-returned (pick out) k = none-returned (eqb (fields_of (body_of out)).cell c) k out

  run_framed : (call : Call)
      → Framed sh c (returned_by call (R.step sh (memory_words sh) call m) ++ fs)
      (R.unit_at sh c (R.step sh (memory_words sh) call m).run)
  unfolding R.step
  run_framed call = by-verdict (R.verdict sh m (memory_words sh) call) refl
    where
      after : Verdict → R.Step
      after v =
          decided v (λ why. record { answer = refusal why; out = lent_to call; run = m }) (R.accepted sh call m)

      by-verdict : (v : Verdict) → R.verdict sh m (memory_words sh) call ≡ v
          → Framed sh c (returned_by call (after v) ++ fs) (R.unit_at sh c (after v).run)
      by-verdict (Ok _) v = accepted-framed call (accepts sh is.some-lags e m s call v)
      by-verdict (Err why) v = rw (refused-returned call _) p

-- a list of calls
pub list-framed : (sh : Shape) → Shaped sh → (cs : List Listed) → AllStand cs → (e : W.Run) (m : R.Run)
    → SameRun sh e m
    → (c : ℕ) → c < sh.cells → (fs : List (List ℕ)) → Framed sh c fs (R.unit_at sh c m)
    → Framed sh c (frames_returned c cs (machine_returns sh cs m) ++ fs) (R.unit_at sh c (machine_run sh cs m))
unfolding machine_returns machine_run
list-framed sh w [] a e m s c h fs p = p
list-framed sh w (on_run call ∷ cs) a e m s c h fs p =
    let x = run-same sh w.some-lags e m s call in
    let r = R.step sh (memory_words sh) call m in
    let first = frame_returned c (on_run call) (record { answer = r.answer; out = r.out }) in
    let rest = frames_returned c cs (machine_returns sh cs r.run) in
    let q = list-framed sh w cs a.1 x.run r.run x.same c h _ (run_framed sh w e m s c h fs p call) in
    λ gx gy. append_assoc rest first fs ∙ q gx gy
list-framed sh w (on_other shape call given ∷ cs) a e m s c h fs p =
    let x = turned shape call given m a.0 in
    let returned = frames_returned c cs in
    subst (λ r. Framed sh c ((returned (machine_returns sh cs r) ++ []) ++ fs) (R.unit_at sh c (machine_run sh cs r)))
    (sym (ap (λ z. z.run) x.machine))
    (λ gx gy. append_assoc (returned (machine_returns sh cs m)) [] fs ∙ list-framed sh w cs a.1 e m s c h fs p gx gy)

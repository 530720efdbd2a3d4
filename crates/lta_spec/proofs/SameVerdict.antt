-- The engine's verdict on a call is the machine's.
use Rattle.std.specs.Prelude.{Err}
use Prim.Native.Nat.{ℕ, ◌*◌, ◌≤◌, ◌<◌}
use mathlib.Core.Path.{◌≡◌, refl, ap, ◌∙◌}
use mathlib.Core.Bool.{Bool, true, false, cond, not, ◌&&◌}
use mathlib.Core.List.{List, [], ◌∷◌}
use native.Mathlib.Omega.{arith}
use lib.Dec.{ltb, leb, eqb}
use borrow.Author.Tests.{ltb-true, lt-ltb, eq-eqb, eqb-false, le-leb, not-true}
use Rattle.lta_spec.specs.Words.{every}
use Rattle.lta_spec.specs.Refusals.{first_of, Verdict}
use Rattle.lta_spec.specs.Shape.{run_limit}
use Rattle.lta_spec.specs.Place.{loss_count}
use Rattle.lta_spec.specs.Call.{Call, samples_ok, validity_ok, command_ok, phase_ok, bank_ok, bin_index}
use Rattle.lta_spec.specs.Call.Call.{tick, dump, integrate, emit, reading, forecast, page, pick}
use Rattle.lta_spec.specs.Machine as M
use Rattle.lta_spec.specs.MachineRun as R
use Rattle.lta_spec.specs.Engine as E
use Rattle.lta_spec.specs.Damage as D
use Rattle.lta_spec.specs.Step as S
use Rattle.lta_spec.specs.declared.Shape.{Shape}
use Rattle.lta_spec.specs.declared.Refusal.{Refusal}
use Rattle.lta_spec.proofs.TestLaws.{and_both, both}
use Rattle.lta_spec.proofs.ShapeLaws.{index_below}
use Rattle.lta_spec.proofs.RowLaws.{window}
use Rattle.lta_spec.proofs.Carry.{row, map_cell}
use Rattle.lta_spec.proofs.PickLaws.{next-below}
use Rattle.lta_spec.proofs.ReadyLaws.{count-carry}
use Rattle.lta_spec.proofs.Intact.{tick-intact, page-intact, bins-intact}
use Rattle.lta_spec.proofs.SameCell.{Same, few}
use Rattle.lta_spec.proofs.SameRun.{AllSame, SameRun, engine_of, state-same, occupied-same, dump-passes}
use Rattle.lta_spec.proofs.SameRun.{integrate-passes, emit-passes, read-passes, forecast-passes}
use Rattle.lta_spec.proofs.SamePick.{some_same}

-- one more test that passes, and tests that are the same, make no difference
passing : (b : Bool) (r : Refusal) (v : Verdict) → b ≡ true → cond b v (Err r) ≡ v
passing b r v h = rw h

same_test : (b : Bool) (r : Refusal) (v w : Verdict) → (b ≡ true → v ≡ w) → cond b v (Err r) ≡ cond b w (Err r)
same_test true r v w h = h refl
same_test false r v w h = refl

pub tick-verdict : (t : ℕ) → t ≤ run_limit → not (eqb t run_limit) ≡ true → t < run_limit
tick-verdict t l h = let n : (t ≡ run_limit) → ⊥ = eqb-false t run_limit (not-true _ h) in omega arith

-- a test that each cell passes, every cell passes
every-same : (sh : Shape) (t : ℕ) (f : E.Unit → Bool) → ((e : E.Unit) (m : R.Unit) → Same sh t e m → f e ≡ true)
    → (es : List E.Unit) (ms : List R.Unit) → AllSame sh t es ms → every f es ≡ true
every-same sh t f one [] [] a = refl
every-same sh t f one [] (m ∷ ms) a = absurd a
every-same sh t f one (e ∷ es) [] a = absurd a
every-same sh t f one (e ∷ es) (m ∷ ms) a = both (one e m a.0) (every-same sh t f one es ms a.1)

unit-sound : (sh : Shape) (t : ℕ) → t < run_limit → (e : E.Unit) (m : R.Unit) → Same sh t e m
    → D.tick_sound sh.lags t e ≡ true
unit-sound sh t l e m s =
    let n = sh.lags in
    let c = map_cell (row n m.xs m.ys) m.cell in
    let q : e ≡ record {
      cell = c;
      counter = e.counter;
      picks = e.picks;
      xs = window n m.xs;
      ys = window n m.ys;
    } =
    λ i. record { cell = s.cell [] [] i; counter = e.counter; picks = e.picks; xs = s.xs i; ys = s.ys i } in
    ap (D.tick_sound n t) q
    ∙ tick-intact n sh.bins t m.xs m.ys m.cell s.good.sound (few _ t m s.good) (omega arith)
    e.counter e.picks m.xs m.ys l

ledger-sound : (sh : Shape) (t : ℕ) → t ≤ run_limit → (e : E.Unit) (m : R.Unit) → Same sh t e m
    → D.page_sound e.cell ≡ true
ledger-sound sh t l e m s =
    ap D.page_sound (s.cell [] [])
    ∙ page-intact sh.lags sh.bins t m.xs m.ys m.cell s.good.sound (few _ t m s.good) l

pub ledgers-sound : (sh : Shape) (t : ℕ) → t ≤ run_limit → (es : List E.Unit) (ms : List R.Unit) → AllSame sh t es ms
    → D.ledgers_sound es ≡ true
ledgers-sound sh t l es ms a = every-same sh t _ (ledger-sound sh t l) es ms a

pick-sound : (sh : Shape) (t : ℕ) → t ≤ run_limit → (e : E.Unit) (m : R.Unit) → Same sh t e m
    → D.pick_sound sh.bins t e ≡ true
unfolding D.pick_sound
pick-sound sh t l e m s =
    let c = s.cell [] [] in
    let g = s.good in
    both {a = every (D.bin_ok t) e.cell.bins}
    (ap (λ z. every (D.bin_ok t) z.bins) c
    ∙ bins-intact sh.lags sh.bins t m.xs m.ys m.cell g.sound (few _ t m g) l)
    (both {a = eqb e.picks.ready_bins (D.count_ready e.cell.bins)}
    (rw (s.picks, c, count-carry m.cell sh.lags m.xs m.ys)
    (eq-eqb (M.ready_bins m.cell) (M.ready_bins m.cell) refl))
    (rw s.picks (lt-ltb _ _ (next-below (2 * sh.bins) m.picked g.picked))))

module _ (sh : Shape) (es : List E.Unit) (m : R.Run) (q : SameRun sh (engine_of sh es m) m) where
  t-ok : leb m.t run_limit ≡ true
  t-ok = le-leb m.t run_limit q.limit

  pub verdict-same : (call : Call)
      → first_of (S.call_tests sh call (engine_of sh es m)) ≡ first_of (R.call_tests sh m call)
  verdict-same (tick samples) =
      same_test (samples_ok sh.cells samples) _ _ _
      (λ _.
      same_test (validity_ok sh.cells samples) _ _ _
      (λ _.
      same_test (not (eqb m.t run_limit)) _ _ _
      (λ h.
      passing _ _ _
      (both t-ok
      (every-same sh m.t _ (unit-sound sh m.t (tick-verdict m.t q.limit h)) es m.units q.units)))))
  verdict-same (dump c command bank phase out) =
      same_test (ltb c sh.cells) _ _ _
      (λ h.
      same_test (command_ok command) _ _ _
      (λ _.
      same_test (bank_ok bank && phase_ok sh phase) _ _ _
      (λ _. passing _ _ _ (dump-passes sh es m q c h command))))
  verdict-same (integrate c) =
      same_test (ltb c sh.cells) _ _ _
      (λ h.
      rw (
        integrate-passes sh es m q c h,
        occupied-same sh es m q c h,
      ))
  verdict-same (emit c bank bin out) =
      let k = bin_index sh.bins bank bin in
      same_test (ltb c sh.cells) _ _ _
      (λ h.
      same_test (bank_ok bank && ltb bin sh.bins) _ _ _
      (λ named.
      let d = and_both (bank_ok bank) (ltb bin sh.bins) named in
      let below = index_below sh.bins bank bin (ltb-true bank 2 d.0) (ltb-true bin sh.bins d.1) in
      rw (
        emit-passes sh es m q c h k below,
        state-same sh es m q c h k,
      )))
  verdict-same (reading c lag loss) =
      same_test (ltb c sh.cells) _ _ _
      (λ h.
      same_test (ltb lag sh.lags && (leb 1 loss && leb loss loss_count)) _ _ _
      (λ _. passing _ _ _ (read-passes sh es m q c h)))
  verdict-same (forecast c) =
      same_test (ltb c sh.cells) _ _ _
      (λ h. passing _ _ _ (forecast-passes sh es m q c h))
  verdict-same (page out) =
      passing _ _ _ (both t-ok (ledgers-sound sh m.t q.limit es m.units q.units))
  verdict-same (pick out) =
      rw (
        both t-ok
            (both (every-same sh m.t _ (pick-sound sh m.t q.limit) es m.units q.units)
            (lt-ltb _ _ (next-below sh.cells m.served q.served))),
        some_same sh es m q,
      )

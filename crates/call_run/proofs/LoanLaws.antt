-- The words of a cell, lent and given back: what they are, and what `step` makes of work memory through them.
use mathlib.Core.Path.{◌≡◌, refl, sym, ap, ◌∙◌}
use mathlib.Core.List.{List}
use Prim.Native.Nat.{ℕ, ◌+◌, ◌-◌}
use lib.ListN.{take, drop}
use borrow.Rule.Slice.PartMut.{put_mid}
use Rattle.lta_spec.specs.Size.{cell_words}
use Rattle.lta_spec.specs.Place.{Result}
use Rattle.lta_spec.specs.Answer.{moved_as}
use Rattle.lta_spec.specs.Answer.Answer.{number}
use Rattle.std.specs.Prelude.{Ok}
use Rattle.lta_spec.specs.declared.Moved.{Moved}
use Rattle.lta_spec.specs.Call.{Call}
use Rattle.lta_spec.specs.Engine.{Row, Unit}
use Rattle.lta_spec.specs.Memory.{unit_layout, run_layout}
use Rattle.lta_spec.specs.Step as S
use Rattle.lta_spec.specs.declared.Shape.{Shape}
use Rattle.lta_spec.proofs.WordLaws.{lent, returned}
use Rattle.lta_spec.proofs.MemoryLaws.{unit-law, unit-width, run-law}
use Rattle.cell_layout.specs.Lays.{Lays}
use Rattle.cell_layout.specs.Offsets.{cell_at}
use Rattle.cell_layout.specs.Cells.{unit_of, with_places}
use Rattle.cell_layout.specs.Moves.{Leaves}
use Rattle.cell_layout.proofs.LaysLaws.{lays-put, lays_back}
use Rattle.cell_layout.proofs.Fields.{cell}
use Rattle.call_run.specs.Runs.{Celled, run_of}
use Rattle.call_run.proofs.RunLaws.{whole, starts, cell-size, cell-unit}
use Rattle.call_run.proofs.ViewLaws.{CellPart}
use Rattle.call_run.proofs.StepLaws.{done}

-- the words of cell c as code lends them: K words from `at`
module _ {s : Shape} {mem : List ℕ} {c : ℕ} (q : Celled s mem c) {at K : ℕ}
    (e : at ≡ cell_at s.lags s.bins c) (w : K ≡ cell_words s.lags s.bins) where
  abbrev pub loan : List ℕ
  loan = take (at + K - at) (drop at mem)

  pub loan-is : CellPart s mem c loan
  loan-is =
      record {
        size = rw (e, w, lent mem (cell_at s.lags s.bins c) (cell_words s.lags s.bins)) (cell-size q);
        unit = rw (e, w, lent mem (cell_at s.lags s.bins c) (cell_words s.lags s.bins)) (cell-unit q);
      }

  -- they come back as cell u
  pub loan-unit : (vs : List ℕ) (u : Unit) → Lays (unit_layout s.lags s.bins) vs u
      → Lays (run_layout s) (put_mid at (at + K - at) mem vs) (S.with_unit s c u (run_of s mem))
  unfolding S.with_unit
  loan-unit vs u v =
      let size = v.size ∙ unit-width s.lags s.bins ∙ sym w in
      let back = returned mem at K vs (rw (e, w) (starts q).inside) size in
      rw (back, e) (lays_back (unit-law s.lags s.bins) (cell s c q.there) (whole s mem q.hosted) vs u v)

  -- a dump or an integration of that cell, which moves its places by f, and by g its block counter or its picks
  pub loan-moved : (call : Call) (out : List ℕ) (f : Unit → Result Row) (g : Unit → Unit) (m : Moved) (vs : List ℕ)
      → (Ok tt) ≡ S.verdict s mem call
      → (let u = S.unit_at s c (run_of s mem) in
      S.accepted s call (run_of s mem) ≡ record {
        answer = number (f u).answer;
        out = out;
        run = S.with_unit s c (with_places (g u) (f u).cell) (run_of s mem);
      })
      → (let u = unit_of s.lags s.bins loan in Leaves s.lags s.bins (g u) (f u) m vs)
      → (moved_as (Ok m) ≡ (S.step s call mem).answer)
      × ((out ≡ (S.step s call mem).out) × (put_mid at (at + K - at) mem vs ≡ (S.step s call mem).mem))
  loan-moved call out f g m vs ok acc l =
      rw (done s mem call ok, acc, ← loan-is.unit)
      (ap number l.answer, (refl, lays-put (run-law s) (loan-unit vs _ l.words)))

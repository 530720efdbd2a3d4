-- A cell whose block counter has moved: the stamp and the row of Open are what they were, they have a frame, and the
-- cell with Open emptied is what a speed dump leaves.
use mathlib.Core.Path.{◌≡◌, refl, ap, ◌∙◌}
use mathlib.Core.Bool.{true}
use mathlib.Core.List.{List}
use Prim.Native.Nat.{ℕ, ◌+◌, ◌*◌, ◌-◌}
use native.Mathlib.Omega.{arith}
use lib.ListN.{get_or, take, drop}
use Rattle.lta_spec.specs.Shape.{open_limit}
use Rattle.lta_spec.specs.Size.{row_words}
use Rattle.lta_spec.specs.Frame.{speed_frame}
use Rattle.lta_spec.specs.Call.{speed}
use Rattle.lta_spec.specs.Engine.{Unit, stamped, send_open}
use Rattle.lta_spec.specs.Damage as D
use Rattle.lta_spec.specs.Memory.{unit_layout}
use Rattle.lta_spec.specs.Step.{row_frame}
use Rattle.lta_spec.specs.declared.Shape.{Shape}
use Rattle.lta_spec.proofs.Passed.{dump-tested, open-tested}
use Rattle.lta_spec.proofs.WordLaws.{lent}
use Rattle.cell_layout.specs.Lays.{Lays}
use Rattle.cell_layout.specs.Offsets.{open_stamp_at, open_row_at, held_row_at}
use Rattle.cell_layout.specs.Cells.{Fits, unit_of, places_of, with_places}
use Rattle.cell_layout.proofs.LaysLaws.{word_of, row_of, row-length, lays-to}
use Rattle.cell_layout.proofs.CellLaws.{laid}
use Rattle.cell_layout.proofs.Fields as F
use Rattle.cell_block.specs.Counting.{Counts}
use Rattle.cell_block.proofs.CounterLaws.{still-fits, unit-moved}
use Rattle.frame_fields.specs.Emits.{Emits}
use Rattle.frame_fields.proofs.Laws.{content-emits}
use Rattle.call_speed.specs.Sending.{bin_by, sent_by, Sends}

-- the block counter's part of 11
pub counter-sound : {s : Shape} {c bank phase t : ℕ} {u : Unit} {out : List ℕ} → Sends s c bank phase t u out
    → D.counter_ok s.blocks u.counter ≡ true
counter-sound {s} {t = t} {u = u} q = (dump-tested s.lags s.bins s.blocks t speed u q.sound).0

module _ {s : Shape} {c bank phase t : ℕ} {l m out : List ℕ} {r : ℕ} (f : Fits l s.lags s.bins)
    (q : Sends s c bank phase t (unit_of s.lags s.bins l) out)
    (k : Counts s.lags s.bins s.blocks speed l m r) where
  abbrev n : ℕ
  n = s.lags

  abbrev u : Unit
  u = unit_of n s.bins l

  whole : Lays (unit_layout n s.bins) m (unit_of n s.bins m)
  whole = laid (still-fits f k)

  stamp-is : get_or m open_stamp_at 0 ≡ u.cell.opened.stamp
  stamp-is = word_of whole (F.open_stamp n s.bins) ∙ ap (λ (x : Unit). x.cell.opened.stamp) (unit-moved f k)

  module _ {e : ℕ} (o : e ≡ held_row_at n) where
    row_is : take (e - open_row_at) (drop open_row_at m) ≡ u.cell.opened.members
    row_is =
        rw o (lent m open_row_at (row_words n)) ∙ row_of whole (F.open_row n s.bins)
        ∙ ap (λ (x : Unit). x.cell.opened.members) (unit-moved f k)

    pub open-emits : Emits s speed_frame c bank (phase * s.blocks + r) (get_or m open_stamp_at 0)
        (take (e - open_row_at) (drop open_row_at m))
    open-emits =
        rw (stamp-is, row_is, k.offset)
        (content-emits s speed_frame c bank (bin_by s phase u) open_limit t u.cell.opened q.shaped refl q.celled
        q.banked q.binned (row-length (laid f) (F.open_row n s.bins)) (omega arith) q.limited
        (open-tested n s.bins s.blocks t speed u q.sound))

    -- the frame is that of Open as it was
    pub frame_is : row_frame s speed_frame c bank (phase * s.blocks + r)
        (stamped (take (e - open_row_at) (drop open_row_at m)) (get_or m open_stamp_at 0))
        ≡ row_frame s speed_frame c bank (bin_by s phase u) u.cell.opened
    frame_is = rw (stamp-is, row_is, k.offset)

  -- and Open is emptied
  pub unit-sent : (ws : List ℕ)
      → Lays (unit_layout n s.bins) ws (with_places (unit_of n s.bins m) (send_open n t (places_of n s.bins m)))
      → Lays (unit_layout n s.bins) ws (sent_by s t u)
  unit-sent ws v = lays-to v (ap (λ (x : Unit). with_places x (send_open n t x.cell)) (unit-moved f k))

-- The frames of the machine's sets, read back: the reader accepts each, and gives the set's numbers.
use Rattle.std.specs.Prelude.{Ok, Err}
use Prim.Native.Nat.{ℕ, zero, suc, ◌+◌, ◌*◌, ◌≤◌, ◌<◌}
use mathlib.Core.Path.{◌≡◌, refl, sym, ap, ap₂, ◌∙◌}
use mathlib.Core.Bool.{true}
use mathlib.Core.List.{List, [], ◌∷◌, map}
use native.Mathlib.Omega.{arith}
use lib.IntN.{pos}
use lib.ListN.{get_or}
use Rattle.lta_spec.specs.Refusals.{decided, Verdict}
use Rattle.lta_spec.specs.Shape.{shape_ok, run_limit, bin_limit}
use Rattle.lta_spec.specs.Tick.{Sample}
use Rattle.lta_spec.specs.Place.{Stamped}
use Rattle.lta_spec.specs.Frame.{body_of, fields_of}
use Rattle.lta_spec.specs.FrameCalls.{read_verdict, read_answer}
use Rattle.lta_spec.specs.Call.{emitted_fields}
use Rattle.lta_spec.specs.Answer.{Answer, refusal}
use Rattle.lta_spec.specs.Answer.Answer.{refused, number, entry, fields, normal, no_data}
use Rattle.lta_spec.specs.Machine.{Ticks}
use Rattle.lta_spec.specs.Numbers.{Emitted, in_phase_sum, quadrature_sum, lag_sums, set_sums, set_frame}
use Rattle.lta_spec.specs.Engine.{Row}
use Rattle.lta_spec.specs.RoundTrip.{lags_read}
use Rattle.lta_spec.specs.Demand.{sent_fields, ReadBack, AllRead, read_sums}
use Rattle.lta_spec.specs.declared.Shape.{Shape}
use Rattle.lta_spec.specs.declared.Fields.{Fields}
use Rattle.lta_spec.proofs.RowLaws.{length-numbers, numbers-size, row-ok}
use Rattle.lta_spec.proofs.SetLaws.{stored-edge, stored-centre, lags-read}
use Rattle.lta_spec.proofs.LayoutLaws.{All}
use Rattle.lta_spec.proofs.EmittedBack.{row_back}
use Rattle.lta_spec.proofs.Carry.{row, map_stamped}
use Rattle.lta_spec.proofs.SameCell.{Sent}
use Rattle.lta_spec.proofs.SameDone.{set-frame}

-- I and Q of a lag stand side by side among the lag pairs of a set
sums_at : (n : ℕ) (xs ys : List Sample) (s : Ticks) (m k j i : ℕ) → k + j ≡ i → j < m
    → (get_or (lag_sums n xs ys s m k) (2 * j) (pos 0) ≡ in_phase_sum n xs ys s i)
    × (get_or (lag_sums n xs ys s m k) (suc (2 * j)) (pos 0) ≡ quadrature_sum n xs ys s i)
sums_at n xs ys s zero k j i e h = absurd (omega arith)
sums_at n xs ys s (suc m) k zero i e h =
    let f : k ≡ i = omega arith in (ap (in_phase_sum n xs ys s) f, ap (quadrature_sum n xs ys s) f)
sums_at n xs ys s (suc m) k (suc j) i e h =
    let d : 2 * suc j ≡ suc (suc (2 * j)) = omega arith in
    rw d (sums_at n xs ys s m (suc k) j i (omega arith) (omega arith))

-- the fields that a reader gives are those of the words behind the mark
fields_in : Fields → Answer → Fields
fields_in f (fields g) = g
fields_in f (refused k) = f
fields_in f (number k) = f
fields_in f (entry s) = f
fields_in f (normal z) = f
fields_in f no_data = f

fields_read : (v : Verdict) (f g : Fields) → decided v refusal (fields f) ≡ fields g → f ≡ g
unfolding fields_in
fields_read (Ok _) f g e = ap (fields_in f) e
fields_read (Err r) f g e = let z : ◌≡◌ {A = ℕ} 0 1 = cc in absurd (omega arith)

module _ (sh : Shape) (ok : shape_ok sh ≡ true) (c : ℕ) (hc : c < sh.cells) (t : ℕ) (limit : t ≤ run_limit)
    (xs ys : List Sample) where
  -- one frame
  set_back : (e : Emitted) → Sent sh.bins t e → ReadBack sh c xs ys (set_frame sh c xs ys e) e
  unfolding map_stamped emitted_fields
  set_back e s =
      let n = sh.lags in
      let set = e.content.members in
      let b : Stamped Row = map_stamped (row n xs ys) e.content in
      let r =
      row_back sh ok e.kind c e.bank e.bin b s.kind hc s.bank s.bin (length-numbers n xs ys set)
      (omega (arith, s.stamp)) (row-ok n xs ys set bin_limit s.few) in
      let frame = set-frame sh c xs ys e in
      record {
        few = s.few;
        returned =
            ap (read_answer n) (sym frame) ∙ r.returned
            ∙ rw (numbers-size n xs ys set, stored-edge n xs ys set, stored-centre n xs ys set);
        lags = ap (lags_read n) (sym frame) ∙ r.lags ∙ lags-read n xs ys set;
      }

  pub all_back : (es : List Emitted) → All (Sent sh.bins t) es
      → AllRead sh c xs ys (map (set_frame sh c xs ys) es) es
  all_back [] a = tt
  all_back (e ∷ es) a = (set_back e a.0, all_back es a.1)

-- the numbers of a frame read back are those of its set
module _ (sh : Shape) (c : ℕ) (xs ys : List Sample) where
  pub sums-of : (k : ℕ) → k < sh.lags → (f : List ℕ) (e : Emitted) → ReadBack sh c xs ys f e
      → read_sums sh.lags k f ≡ set_sums sh.lags xs ys e.content.members k
  sums-of k h f e r =
      let n = sh.lags in
      let z = sums_at n xs ys e.content.members n 0 k k (omega arith) h in
      let d : 2 * k + 1 ≡ suc (2 * k) = omega arith in
      let g : fields_of (body_of f) ≡ sent_fields sh c xs ys e =
      fields_read (read_verdict n f) (fields_of (body_of f)) (sent_fields sh c xs ys e) r.returned in
      rw (g, r.lags, d, z.0, z.1)

  pub sums-back : (k : ℕ) → k < sh.lags → (fs : List (List ℕ)) (es : List Emitted) → AllRead sh c xs ys fs es
      → map (read_sums sh.lags k) fs ≡ map (λ e. set_sums sh.lags xs ys e.content.members k) es
  sums-back k h [] [] a = refl
  sums-back k h [] (e ∷ es) a = absurd a
  sums-back k h (f ∷ fs) [] a = absurd a
  sums-back k h (f ∷ fs) (e ∷ es) a = ap₂ (λ x r. x ∷ r) (sums-of k h f e a.0) (sums-back k h fs es a.1)

-- The bytes of an emission and of a speed dump, read back, are what stood in the bin or in Open; and with that the
-- whole statement of the round trips.
use Rattle.std.specs.Prelude.{Ok}
use Prim.Native.Nat.{ℕ, suc, ◌%◌, ◌≤◌, ◌<◌}
use mathlib.Core.Path.{◌≡◌, sym, ap, ◌∙◌, refl}
use mathlib.Core.Bool.{true}
use mathlib.Core.List.{List, [], ◌∷◌, ◌++◌}
use native.Mathlib.Nat.{mod-lt, div-le_self}
use native.Mathlib.Omega.{arith}
use lib.Dec.{leb}
use lib.IntN.{ℤ}
use lib.ListN.{length, get_or, take, drop, length-drop, length-append}
use borrow.Author.Tests.{leb-true, le-leb}
use Rattle.lta_spec.specs.Words.{splice, every}
use Rattle.lta_spec.specs.Shape.{shape_tests, shape_ok, lag_count_ok, run_limit, open_limit, bin_limit}
use Rattle.lta_spec.specs.Size.{row_words, memory_words}
use Rattle.lta_spec.specs.Place.{Stamped}
use Rattle.lta_spec.specs.Bytes.{words_of}
use Rattle.lta_spec.specs.Frame.{accumulated, speed_frame, frame_length, body_of, fields_of, kind_ok}
use Rattle.lta_spec.specs.FrameCalls.{kind_by, read_verdict, write_verdict}
use Rattle.lta_spec.specs.Call.{speed, dump_fits, bin_index, emitted_fields}
use Rattle.lta_spec.specs.Call.Call.{dump, emit, pick}
use Rattle.lta_spec.specs.Row.{ticks_of, edge_of, centre_of, row_lags, sum_ok, row_ok}
use Rattle.lta_spec.specs.Engine.{Row, bin_at, free_bin}
use Rattle.lta_spec.specs.Damage.{content_ok, emit_sound}
use Rattle.lta_spec.specs.Memory.{run_layout}
use Rattle.lta_spec.specs.Step as S
use Rattle.lta_spec.specs.RoundTrip.{RoundTrip, RowBack, stored_bin, emitted_to, picked_place, picked_to}
use Rattle.lta_spec.specs.RoundTrip.{stored_open, speed_bin, speed_to}
use Rattle.lta_spec.specs.declared.Fields.{Fields}
use Rattle.lta_spec.specs.declared.Shape.{Shape}
use Rattle.lta_spec.proofs.WordLaws.{take-splice}
use Rattle.lta_spec.proofs.ByteLaws.{below_all}
use Rattle.lta_spec.proofs.TestLaws.{and_both, and-le}
use Rattle.lta_spec.proofs.ShapeLaws.{all-at, Shaped, shaped, index_below}
use Rattle.lta_spec.proofs.RoundTrips.{Valid, fields-ok, accepted, head-least, written, length-written}
use Rattle.lta_spec.proofs.WrittenBefore.{refused-now}
use Rattle.lta_spec.proofs.RoundTrips.{read-written, lags-read, leaves-read, leaves-lags}
use Rattle.lta_spec.proofs.Rewritten.{leaves-again}
use Rattle.lta_spec.proofs.Encoding.{sums-within}
use Rattle.lta_spec.proofs.LayoutLaws.{all-get}
use Rattle.lta_spec.proofs.MemoryLaws.{BinOk}
use Rattle.lta_spec.proofs.Passed.{shape-passed, words-passed, DumpPassed, dump-passed, EmitPassed, emit-passed}
use Rattle.lta_spec.proofs.Passed.{open-tested, unit-sized}
use Rattle.lta_spec.proofs.PickPassed.{pick-passed}

-- the fields of a frame of a row and a stamp within their limits
pub emitted-valid : (sh : Shape) → Shaped sh → (kind c bank bin stamp : ℕ) (row : Row) → kind_ok kind ≡ true
    → c < sh.cells → bank < 2 → bin < sh.bins → stamp ≤ run_limit → row_ok bin_limit row ≡ true
    → Valid (emitted_fields sh kind c bank bin stamp (ticks_of row) (edge_of row) (centre_of row))
unfolding emitted_fields row_ok
emitted-valid sh k kind c bank bin stamp row known hc hk hb hs ok =
    let t = and-le (ticks_of row) bin_limit _ ok in
    let g = and-le (edge_of row) (ticks_of row) _ t.1 in
    let m = and-le (centre_of row) (ticks_of row) _ g.1 in
    record {
      kind = known;
      cell = omega (arith, k.cells);
      block = omega (arith, k.blocks, mod-lt bin k.some-blocks);
      bin = omega (arith, k.bins);
      bank = omega arith;
      ticks = t.0;
      centre = m.0;
      edge = g.0;
      second = omega (arith, k.second, div-le_self stamp sh.rate);
      offset = omega (arith, k.rate, mod-lt stamp k.some-rate);
    }

-- as many lag numbers as stored sums
pub length-lags : (ticks : ℕ) (ws : List ℕ) → length (row_lags ticks ws) ≡ length ws
length-lags ticks [] = refl
length-lags ticks (w ∷ ws) = ap suc (length-lags ticks ws)

module _ (sh : Shape) (ok : shape_ok sh ≡ true) (kind c bank bin : ℕ) (b : Stamped Row) (known : kind_ok kind ≡ true)
    (hc : c < sh.cells) (hk : bank < 2) (hb : bin < sh.bins) (size : length b.members ≡ row_words sh.lags)
    (hs : b.stamp ≤ run_limit) (limited : row_ok bin_limit b.members ≡ true) where
  abbrev row : Row
  row = b.members

  abbrev sent : Fields
  sent = emitted_fields sh kind c bank bin b.stamp (ticks_of row) (edge_of row) (centre_of row)

  abbrev lags : List ℤ
  lags = row_lags (ticks_of row) (drop 3 row)

  abbrev room : ℕ
  room = frame_length sent.kind sh.lags

  counted : lag_count_ok sh.lags ≡ true
  unfolding shape_ok
  counted = all-at (shape_tests sh) ok 2

  sums-fit : every (sum_ok (ticks_of row)) (drop 3 row) ≡ true
  unfolding row_ok
  sums-fit =
      let t = and_both (leb (ticks_of row) bin_limit) _ limited in
      let g = and_both (leb (edge_of row) (ticks_of row)) _ t.1 in
      (and_both (leb (centre_of row) (ticks_of row)) _ g.1).1

  writable : write_verdict sh.lags sent lags room ≡ Ok tt
  unfolding emitted_fields
  writable =
      written sh.lags sent lags room
      (record {
        count = counted;
        fields =
            fields-ok sent (emitted-valid sh (shaped sh ok) kind c bank bin b.stamp row known hc hk hb hs limited);
        length = length-lags (ticks_of row) (drop 3 row) ∙ omega (arith, length-drop 3 row);
        lags = sym (sums-within (ticks_of row) (drop 3 row)) ∙ sums-fit;
        fits = omega arith;
      })

  -- a frame of fields and a row within their limits is read back as they are
  pub row_back : RowBack sh kind c bank bin b (S.row_frame sh kind c bank bin b)
  unfolding S.row_frame
  row_back =
      record {
        returned = read-written sh.lags sent lags room writable;
        lags = lags-read sh.lags sent lags room writable;
      }

  pub row-length : length (S.row_frame sh kind c bank bin b) ≡ frame_length kind sh.lags
  unfolding S.row_frame emitted_fields
  row-length = length-written sh.lags sent lags room writable

  -- and so is what stands of it at the start of a buffer with room
  sent_back : (out : List ℕ) → frame_length kind sh.lags ≤ length out
      → RowBack sh kind c bank bin b
      (take (frame_length kind sh.lags) (splice out 0 (S.row_frame sh kind c bank bin b)))
  sent_back out fits = rw (take-splice out (S.row_frame sh kind c bank bin b) _ row-length fits) row_back

-- a row within its limits is within wider ones
pub row-wider : (a b : ℕ) (row : Row) → a ≤ b → row_ok a row ≡ true → row_ok b row ≡ true
unfolding row_ok
row-wider a b row h ok =
    let t = and-le (ticks_of row) a _ ok in rw (le-leb (ticks_of row) b (omega (arith, t.0)), t.1)

-- an emission whose tests passed, by name or by a pick
module _ (sh : Shape) (c bank bin : ℕ) (mem out : List ℕ) (ok : shape_ok sh ≡ true)
    (words : length mem ≡ memory_words sh) (passed : EmitPassed sh mem c bank bin (length out)) where
  abbrev stored : Stamped Row
  stored = stored_bin sh c bank bin mem

  -- the row and the stamp of the bin are within their limits
  limits : (row_ok bin_limit stored.members ≡ true) × (stored.stamp ≤ run_limit)
  unfolding emit_sound
  limits =
      let r = (run_layout sh).get mem in
      let content = (and_both (content_ok bin_limit r.t stored) _ passed.sound).0 in
      let s = and_both (row_ok bin_limit stored.members) _ content in
      (s.0, omega (arith, passed.time, leb-true stored.stamp r.t s.1))

  -- the row of a bin has its words
  long : length stored.members ≡ row_words sh.lags
  unfolding bin_at
  long =
      let u = unit-sized sh mem c words passed.in_cells in
      let inside = index_below sh.bins bank bin passed.in_banks passed.in_bins in
      (all-get (BinOk sh.lags) (S.cell_at sh c ((run_layout sh).get mem)).bins (free_bin sh.lags) u.bins.1
      (bin_index sh.bins bank bin) (omega (arith, u.bins.0))).1.1

  emits-back : RowBack sh accumulated c bank bin stored
      (take (frame_length accumulated sh.lags) (S.emits sh c bank bin out ((run_layout sh).get mem)).out)
  unfolding S.emits S.sends
  emits-back =
      sent_back sh ok accumulated c bank bin stored refl passed.in_cells passed.in_banks passed.in_bins long
      limits.1 limits.0 out passed.room

pub emitted-back : (sh : Shape) (c bank bin : ℕ) (mem out : List ℕ)
    → S.verdict sh mem (emit c bank bin out) ≡ Ok tt
    → RowBack sh accumulated c bank bin (stored_bin sh c bank bin mem) (emitted_to sh c bank bin mem out)
unfolding S.step S.accepted
emitted-back sh c bank bin mem out v =
    rw v
    (emits-back sh c bank bin mem out (shape-passed sh mem _ v) (words-passed sh mem _ v)
    (emit-passed sh mem c bank bin out v))

pub picked-back : (sh : Shape) (mem out : List ℕ) → S.verdict sh mem (pick out) ≡ Ok tt
    → let p = picked_place sh mem in
    RowBack sh accumulated p.cell p.bank p.bin (stored_bin sh p.cell p.bank p.bin mem)
    (picked_to sh mem out)
unfolding S.step S.accepted S.picks_bin
picked-back sh mem out v =
    rw v
    (emits-back sh _ _ _ mem out (shape-passed sh mem _ v) (words-passed sh mem _ v) (pick-passed sh mem out v).emits)

-- an accepted speed dump
module _ (sh : Shape) (c bank phase : ℕ) (mem out : List ℕ)
    (v : S.verdict sh mem (dump c speed bank phase out) ≡ Ok tt) where
  abbrev opened : Stamped Row
  opened = stored_open sh c mem

  dumped : DumpPassed sh mem c speed bank phase (length out)
  dumped = dump-passed sh mem c speed bank phase out v

  open-limits : (row_ok bin_limit opened.members ≡ true) × (opened.stamp ≤ run_limit)
  open-limits =
      let r = (run_layout sh).get mem in
      let content = open-tested sh.lags sh.bins sh.blocks r.t speed (S.unit_at sh c r) dumped.sound in
      let s = and_both (row_ok open_limit opened.members) _ content in
      let past : opened.stamp ≤ r.t = leb-true opened.stamp r.t s.1 in
      (row-wider open_limit bin_limit opened.members (omega arith) s.0, omega (arith, dumped.time))

  pub speed-back : RowBack sh speed_frame c bank (speed_bin sh c bank phase mem) opened (speed_to sh c bank phase mem out)
  unfolding S.step S.accepted S.dumps_by S.sends dump_fits
  speed-back =
      let u = unit-sized sh mem c (words-passed sh mem _ v) dumped.in_cells in
      rw v
      (sent_back sh (shape-passed sh mem _ v) speed_frame c bank (speed_bin sh c bank phase mem) opened refl
      dumped.in_cells dumped.in_banks dumped.bin u.opened open-limits.1 open-limits.0 out
      (leb-true _ _ dumped.room))

-- the first word of bytes is that of their front
first_word : (l behind : List ℕ) → 4 ≤ length l → get_or (words_of (l ++ behind)) 0 0 ≡ get_or (words_of l) 0 0
first_word [] behind h = absurd (omega arith)
first_word (a ∷ []) behind h = absurd (omega arith)
first_word (a ∷ b ∷ []) behind h = absurd (omega arith)
first_word (a ∷ b ∷ c ∷ []) behind h = absurd (omega arith)
first_word (a ∷ b ∷ c ∷ d ∷ l) behind h = refl

same_kind : (s behind : List ℕ) → 6 ≤ length s
    → (fields_of (body_of (s ++ behind))).kind ≡ (fields_of (body_of s)).kind
unfolding fields_of
same_kind [] behind h = absurd (omega arith)
same_kind (x ∷ []) behind h = absurd (omega arith)
same_kind (x ∷ y ∷ s) behind h = ap (λ w. w % 8) (first_word s behind (omega arith))

one-kind : (n : ℕ) (s behind : List ℕ) → read_verdict n s ≡ Ok tt
    → read_verdict n (s ++ behind) ≡ Ok tt → behind ≡ []
one-kind n s behind v w =
    let a = accepted n s v in
    let b = accepted n (s ++ behind) w in
    let same : kind_by n (s ++ behind) ≡ kind_by n s =
    sym b.kind ∙ same_kind s behind (omega (arith, a.size, head-least (kind_by n s))) ∙ a.kind in
    let size : length (s ++ behind) ≡ frame_length (kind_by n s) n = rw (← same) b.size in
    none behind (omega (arith, length-append s behind, size, a.size))
  where
    none : (l : List ℕ) → length l ≡ 0 → l ≡ []
    none [] e = refl
    none (x ∷ l) e = absurd (omega arith)

pub round_trip : RoundTrip
round_trip =
    record {
      fields_back = leaves-read;
      lags-back = leaves-lags;
      bytes_back = λ n s out bytes ok room. leaves-again n s (below_all 256 s bytes) ok out room;
      one-kind = one-kind;
      written-before = refused-now;
      emitted-back = emitted-back;
      picked-back = picked-back;
      speed-back = speed-back;
    }

-- What tests that passed give, and the first round trip for both kinds and every N: a frame written and read back gives
-- its fields and its lags.
use Rattle.std.specs.Prelude.{Ok, Err}
use mathlib.Core.Path.{◌≡◌, refl, sym, ap, ◌∙◌, subst}
use mathlib.Core.Bool.{Bool, true, false, cond, ◌&&◌, ◌||◌}
use mathlib.Core.List.{List, [], ◌∷◌, ◌++◌, map}
use Prim.Native.Nat.{ℕ, suc, ◌+◌, ◌*◌, ◌/◌, ◌%◌, ◌<◌, ◌≤◌}
use native.Mathlib.Omega.{arith}
use lib.Dec.{leb, ltb, eqb}
use lib.IntN.{ℤ, pos, negsuc}
use lib.ListN.{length, get_or, take, drop, length-drop, length-map}
use lib.Seq.{drop-drop}
use mir.Syntax.{w32}
use mir.Val.{SFits}
use borrow.Author.Tests.{leb-true, ltb-true, eqb-true, eq-eqb, ne_eqb, le-leb}
use Rattle.lta_spec.specs.Words.{part}
use Rattle.lta_spec.specs.Refusals.{test, first_of, decided, Verdict}
use Rattle.lta_spec.specs.Shape.{lag_count_ok, bin_limit, peak}
use Rattle.lta_spec.specs.Bytes.{word_range, number_word, signed}
use Rattle.lta_spec.specs.Frame.{
  accumulated,
  speed_frame,
  head_words,
  frame_length,
  lags_at,
  length_kind,
  checksum,
  frame_of,
  body_of,
  lag_words,
  lag_numbers,
  w0,
  w1,
  header_with,
  header,
  fields_of,
  fixed_ok,
  kind_ok,
  fields_ok,
  bias_ok,
  within,
  lags_ok,
}
use Rattle.lta_spec.specs.FrameCalls.{marked, summed, ruled, kind_by, read_tests, read_verdict, read_answer}
use Rattle.lta_spec.specs.FrameCalls.{lag_span, write_verdict, write_leaves, normal_verdict}
use Rattle.lta_spec.specs.declared.Fields.{Fields}
use Rattle.lta_spec.specs.declared.Refusal.TheVariants.{NoLag, WrongBias}
use Rattle.lta_spec.specs.declared.Span.{Span}
use Rattle.lta_spec.specs.Answer.Answer.{fields}
use Rattle.lta_spec.specs.RoundTrip.{lags_read}
use Rattle.lta_spec.proofs.WordLaws.{part-splice-same}
use Rattle.lta_spec.proofs.TestLaws.{and_both, and-le, pass, pass-both, first-append}
use Rattle.lta_spec.proofs.ByteLaws.{
  Below,
  words-part,
  AllFit,
  lags-below,
  signed-lags,
}
use Rattle.lta_spec.proofs.FrameLaws.{
  sealed-is,
  length-frame,
  marked-frame,
  body-frame,
  lags-frame,
  summed-frame,
}

pub count_small : (n : ℕ) → lag_count_ok n ≡ true → n ≤ 128
unfolding lag_count_ok
count_small n e = (and-le n 128 _ (and-le 2 n _ e).1).0

-- what holds of each kind holds of every known one
pub by_kind : (P : ℕ → Type 0) → P accumulated → P speed_frame → (kind : ℕ) → kind_ok kind ≡ true → P kind
by_kind P a b kind ok = by-test (eqb kind accumulated) (eqb kind speed_frame) refl refl ok
  where
    by-test : (x y : Bool) → eqb kind accumulated ≡ x → eqb kind speed_frame ≡ y → x || y ≡ true → P kind
    by-test true y p q h = subst P (sym (eqb-true kind accumulated p)) a
    by-test false true p q h = subst P (sym (eqb-true kind speed_frame q)) b
    by-test false false p q h = let z : ◌≡◌ {A = ℕ} 0 1 = cc in absurd (omega arith)

pub kind-small : (kind : ℕ) → kind_ok kind ≡ true → kind ≤ 3
kind-small = by_kind (λ k. k ≤ 3) (omega arith) (omega arith)

heads-between : (kind : ℕ) → (7 ≤ head_words kind) × (head_words kind ≤ 8)
heads-between kind = by-test (eqb kind speed_frame)
  where
    by-test : (b : Bool) → (7 ≤ cond b 8 7) × (cond b 8 7 ≤ 8)
    by-test true = (omega arith, omega arith)
    by-test false = (omega arith, omega arith)

pub head-least : (kind : ℕ) → 7 ≤ head_words kind
head-least kind = (heads-between kind).0

-- the length of a frame tells its kind
pub length-kind : (n kind : ℕ) → kind_ok kind ≡ true → length_kind n (frame_length kind n) ≡ kind
unfolding length_kind
length-kind n =
    by_kind (λ k. cond (eqb (frame_length k n) (frame_length speed_frame n)) speed_frame accumulated ≡ k)
    (rw (ne_eqb (frame_length accumulated n) (frame_length speed_frame n) (λ e. omega arith)))
    (rw (eq-eqb (frame_length speed_frame n) (frame_length speed_frame n) refl))

-- what fields that pass their tests are
pub record Valid (f : Fields) : Type 0 where
  pub kind : kind_ok f.kind ≡ true
  pub cell : f.cell ≤ 15
  pub block : f.block ≤ 255
  pub bin : f.bin ≤ 999
  pub bank : f.bank ≤ 1
  pub ticks : f.ticks ≤ bin_limit
  pub centre : f.centre ≤ f.ticks
  pub edge : f.edge ≤ f.ticks
  pub second : f.second < word_range
  pub offset : f.offset ≤ 255999999

pub valid : (f : Fields) → fields_ok f ≡ true → Valid f
unfolding fields_ok
valid f e =
    let k = and_both (kind_ok f.kind) _ e in
    let l = and-le f.cell 15 _ k.1 in
    let m = and-le f.block 255 _ l.1 in
    let b = and-le f.bin 999 _ m.1 in
    let a = and-le f.bank 1 _ b.1 in
    let t = and-le f.ticks bin_limit _ a.1 in
    let c = and-le f.centre f.ticks _ t.1 in
    let d = and-le f.edge f.ticks _ c.1 in
    let s = and-le f.second 4294967295 _ d.1 in
    let o = and-le f.offset 255999999 _ s.1 in
    record {
      kind = k.0;
      cell = l.0;
      block = m.0;
      bin = b.0;
      bank = a.0;
      ticks = t.0;
      centre = c.0;
      edge = d.0;
      second = omega (arith, s.0);
      offset = o.0;
    }

pub fields-ok : (f : Fields) → Valid f → fields_ok f ≡ true
unfolding fields_ok
fields-ok f v =
    rw (
      v.kind,
      le-leb _ _ v.cell,
      le-leb _ _ v.block,
      le-leb _ _ v.bin,
      le-leb _ _ v.bank,
      le-leb _ _ v.ticks,
      le-leb _ _ v.centre,
      le-leb _ _ v.edge,
      le-leb f.second 4294967295 (omega arith),
      le-leb _ _ v.offset,
    )

-- what bytes that the reader accepts are
pub record Accepted (n : ℕ) (s : List ℕ) : Type 0 where
  pub count : lag_count_ok n ≡ true
  pub size : length s ≡ frame_length (kind_by n s) n
  pub mark : marked s ≡ true
  pub sum : summed (head_words (kind_by n s) + 2 * n) (body_of s) ≡ true
  pub fixed : fixed_ok (body_of s) ≡ true
  pub kind : (fields_of (body_of s)).kind ≡ kind_by n s
  pub fields : fields_ok (fields_of (body_of s)) ≡ true
  pub lags : lags_ok (fields_of (body_of s)) (lag_numbers (kind_by n s) n (body_of s)) ≡ true
  pub bias : bias_ok (kind_by n s) (body_of s) ≡ true

pub accepted : (n : ℕ) (s : List ℕ) → read_verdict n s ≡ Ok tt → Accepted n s
unfolding read_verdict ruled
accepted n s e =
    let c = pass (lag_count_ok n) _ _ e in
    let l = pass (eqb (length s) (frame_length (kind_by n s) n)) _ _ c.1 in
    let m = pass (marked s) _ _ l.1 in
    let w = pass (summed (head_words (kind_by n s) + 2 * n) (body_of s)) _ _ m.1 in
    let r = pass (ruled (kind_by n s) n (body_of s)) _ _ w.1 in
    let d = pass (bias_ok (kind_by n s) (body_of s)) _ _ r.1 in
    let a = and_both (fixed_ok (body_of s)) _ r.0 in
    let k = and_both (eqb (fields_of (body_of s)).kind (kind_by n s)) _ a.1 in
    let b = and_both (fields_ok (fields_of (body_of s))) _ k.1 in
    record {
      count = c.0;
      size = eqb-true _ _ l.0;
      mark = m.0;
      sum = w.0;
      fixed = a.0;
      kind = eqb-true _ _ k.0;
      fields = b.0;
      lags = b.1;
      bias = d.0;
    }

-- what arguments that the writer accepts are
pub record Writes (n : ℕ) (f : Fields) (zs : List ℤ) (room : ℕ) : Type 0 where
  pub count : lag_count_ok n ≡ true
  pub fields : fields_ok f ≡ true
  pub length : length zs ≡ 2 * n
  pub lags : lags_ok f zs ≡ true
  pub fits : frame_length f.kind n ≤ room

pub writes : (n : ℕ) (f : Fields) (zs : List ℤ) (room : ℕ) → write_verdict n f zs room ≡ Ok tt
    → Writes n f zs room
unfolding write_verdict
writes n f zs room e =
    let c = pass (lag_count_ok n) _ _ e in
    let r = pass (fields_ok f && (eqb (length zs) (2 * n) && lags_ok f zs)) _ _ c.1 in
    let b = pass (leb (frame_length f.kind n) room) _ _ r.1 in
    let d = and_both (fields_ok f) _ r.0 in
    let g = and_both (eqb (length zs) (2 * n)) _ d.1 in
    record {
      count = c.0;
      fields = d.0;
      length = eqb-true _ _ g.0;
      lags = g.1;
      fits = leb-true _ _ b.0;
    }

pub written : (n : ℕ) (f : Fields) (zs : List ℤ) (room : ℕ) → Writes n f zs room
    → write_verdict n f zs room ≡ Ok tt
unfolding write_verdict
written n f zs room w =
    rw (w.count, w.fields, eq-eqb (length zs) (2 * n) w.length, w.lags, le-leb _ room w.fits)

-- normalising follows the reader's verdict
pub normal-follows : (n : ℕ) (s : List ℕ) (k : ℕ)
    → normal_verdict n s k ≡ decided (read_verdict n s) Err (first_of (test (ltb k n) NoLag ∷ []))
unfolding read_verdict normal_verdict
normal-follows n s k = first-append (read_tests n s) (test (ltb k n) NoLag ∷ [])

pub record Normalises (n : ℕ) (s : List ℕ) (k : ℕ) : Type 0 where
  pub frame : Accepted n s
  pub lag : k < n

pub normalises : (n : ℕ) (s : List ℕ) (k : ℕ) → normal_verdict n s k ≡ Ok tt → Normalises n s k
normalises n s k e =
    let p = pass-both (read_verdict n s) _ (sym (normal-follows n s k) ∙ e) in
    record { frame = accepted n s p.0; lag = ltb-true k n (pass (ltb k n) _ _ p.1).0 }

-- the words of the lag part are the lags
pub lag-part-read : (n : ℕ) (s : List ℕ) → read_verdict n s ≡ Ok tt
    → lags_read n s ≡ lag_numbers (kind_by n s) n (body_of s)
unfolding part
lag-part-read n s ok =
    let h = head_words (kind_by n s) in
    let size : 4 * (h + 2 * n) ≤ length (drop 2 s) = simp length-drop (omega (arith, (accepted n s ok).size)) in
    let e : 8 * n ≡ 4 * (2 * n) = omega arith in
    rw (ok, ← drop-drop (4 * h) 2 s, e) (ap (map signed) (words-part h (2 * n) (drop 2 s) size))

-- the lag part is inside the bytes, starts early and is short
pub record Inside (p : Span) (s : List ℕ) : Type 0 where
  pub inside : p.at + p.length ≤ length s
  pub early : p.at ≤ 34
  pub short : p.length ≤ 1024

pub lag-inside : (n : ℕ) (s : List ℕ) → Inside (lag_span n s) s
lag-inside n s = by-verdict (read_verdict n s) refl
  where
    by-verdict : (v : Verdict) → read_verdict n s ≡ v
        → Inside
        (decided v (λ r. record { at = 0; length = 0 }) (record { at = lags_at (kind_by n s); length = 8 * n })) s
    by-verdict (Ok _) e =
        let a = accepted n s e in
        record {
          inside = omega (arith, a.size);
          early = omega (arith, (heads-between (kind_by n s)).1);
          short = omega (arith, count_small n a.count);
        }
    by-verdict (Err r) e = record { inside = omega arith; early = omega arith; short = omega arith }

-- numbers within the limit of a lag are those of an i32
fits-within : (f : Fields) (z : ℤ) → Valid f → within (peak * f.ticks) z ≡ true → SFits w32 z
fits-within f (pos n) v e = record { sfits = omega (arith, leb-true n (peak * f.ticks) e) }
fits-within f (negsuc n) v e = record { sfits = omega (arith, leb-true (suc n) (peak * f.ticks) e) }

pub lags-fit : (f : Fields) (zs : List ℤ) → Valid f → lags_ok f zs ≡ true → AllFit zs
lags-fit f [] v e = tt
lags-fit f (z ∷ zs) v e =
    let q = and_both (within (peak * f.ticks) z) (lags_ok f zs) e in
    (fits-within f z v q.0, lags-fit f zs v q.1)

-- the words of a header, whatever its DATA_BIAS
length-with : (bias : ℕ) (f : Fields) → length (header_with bias f) ≡ head_words f.kind
length-with bias f = omega (arith, by-test (eqb f.kind speed_frame))
  where
    by-test : (b : Bool) → 7 + length (cond b (bias ∷ []) []) ≡ cond b 8 7
    by-test true = refl
    by-test false = refl

below-with : (bias : ℕ) (f : Fields) → Valid f → bias < word_range → Below word_range (header_with bias f)
below-with bias f v small =
    let k = kind-small f.kind v.kind in
    let last = by-test (eqb f.kind speed_frame) in
    (omega arith, (omega arith, (omega arith, (omega arith, (omega arith, (omega arith, (omega arith, last)))))))
  where
    by-test : (b : Bool) → Below word_range (cond b (bias ∷ []) [])
    by-test true = (small, tt)
    by-test false = tt

pub length-header : (f : Fields) → length (header f) ≡ head_words f.kind
unfolding header
length-header f = length-with (peak * f.ticks) f

pub header-below : (f : Fields) → Valid f → Below word_range (header f)
unfolding header
header-below f v = below-with (peak * f.ticks) f v (omega (arith, v.ticks))

-- the fields of a header's words are the fields
pub w0-parts : (k c : ℕ) → k ≤ 3 → c ≤ 15 → let w = k + 2048 * c in (w % 8 ≡ k) × (w / 2048 % 16 ≡ c)
w0-parts k c hk hc = (omega arith, omega arith)

w1-parts : (k b n : ℕ) → k ≤ 255 → b ≤ 999 → n ≤ 1
    → let w = 256 * k + 65536 * b + 2147483648 * n in
    (w / 256 % 256 ≡ k) × (w / 65536 % 32768 ≡ b) × (w / 2147483648 ≡ n)
w1-parts k b n hk hb hn = (omega arith, omega arith, omega arith)

fields-with : (bias : ℕ) (f : Fields) (rest : List ℕ) → Valid f → fields_of (header_with bias f ++ rest) ≡ f
unfolding fields_of
fields-with bias f rest v =
    let p = w0-parts f.kind f.cell (kind-small f.kind v.kind) v.cell in
    let q = w1-parts f.block f.bin f.bank v.block v.bin v.bank in
    rw (p.0, p.1, q.0, q.1, q.2)

fixed-with : (bias : ℕ) (f : Fields) (rest : List ℕ) → Valid f → fixed_ok (header_with bias f ++ rest) ≡ true
unfolding fixed_ok
fixed-with bias f rest v =
    rw (fields-with bias f rest v) (rw (eq-eqb (w0 f) (w0 f) refl, eq-eqb (w1 f) (w1 f) refl))

-- 18 looks at DATA_BIAS alone
abbrev pub bias_right : (bias : ℕ) → Fields → Bool
bias_right bias f = cond (eqb f.kind speed_frame) (eqb bias (peak * f.ticks)) true

bias-with : (bias : ℕ) (f : Fields) (rest : List ℕ) → bias_ok f.kind (header_with bias f ++ rest) ≡ bias_right bias f
unfolding bias_ok
bias-with bias f rest = by-test (eqb f.kind speed_frame)
  where
    by-test : (b : Bool)
        → cond b (eqb (get_or (cond b (bias ∷ []) [] ++ rest) 0 0) (peak * f.ticks)) true
        ≡ cond b (eqb bias (peak * f.ticks)) true
    by-test true = refl
    by-test false = refl

right-header : (f : Fields) → bias_right (peak * f.ticks) f ≡ true
right-header f = by-test (eqb f.kind speed_frame)
  where
    by-test : (b : Bool) → cond b (eqb (peak * f.ticks) (peak * f.ticks)) true ≡ true
    by-test true = eq-eqb (peak * f.ticks) (peak * f.ticks) refl
    by-test false = refl

-- a frame of what the writer accepts, whatever its DATA_BIAS: the reader is left with 18
module _ (n : ℕ) (f : Fields) (zs : List ℤ) (room : ℕ) (ok : write_verdict n f zs room ≡ Ok tt) (bias : ℕ)
    (small : bias < word_range) where
  fine : Writes n f zs room
  fine = writes n f zs room ok

  sound : Valid f
  sound = valid f fine.fields

  abbrev head : List ℕ
  head = header_with bias f

  abbrev frame : List ℕ
  frame = frame_of head (lag_words zs)

  below : Below word_range head
  below = below-with bias f sound small

  body-written : body_of frame ≡ head ++ (lag_words zs ++ checksum (head ++ lag_words zs) ∷ [])
  body-written = body-frame head (lag_words zs) below (lags-below zs) ∙ sealed-is head (lag_words zs)

  fields-written : fields_of (body_of frame) ≡ f
  fields-written = ap fields_of body-written ∙ fields-with bias f _ sound

  frame-length : length frame ≡ frame_length f.kind n
  frame-length =
      omega (arith, length-frame head (lag_words zs), length-with bias f, length-map zs number_word, fine.length)

  kind-written : kind_by n frame ≡ f.kind
  kind-written = ap (length_kind n) frame-length ∙ length-kind n f.kind sound.kind

  -- its lags
  lags-written : lag_numbers f.kind n (body_of frame) ≡ zs
  lags-written =
      ap (map signed)
      (lags-frame head (lag_words zs) below (lags-below zs) (head_words f.kind) (2 * n) (length-with bias f)
      (length-map zs number_word ∙ fine.length))
      ∙ signed-lags zs (lags-fit f zs sound fine.lags)

  pub verdict-written : read_verdict n frame
      ≡ cond (bias_right bias f) (Ok tt) (Err WrongBias)
  unfolding read_verdict ruled
  verdict-written =
      rw (
        kind-written,
        fine.count,
        eq-eqb _ (frame_length f.kind n) frame-length,
        marked-frame head (lag_words zs),
        summed-frame head (lag_words zs) below (lags-below zs) (head_words f.kind + 2 * n)
            (omega (arith, length-with bias f, length-map zs number_word, fine.length)),
        lags-written,
        fields-written,
        ap fixed_ok body-written ∙ fixed-with bias f _ sound,
        eq-eqb f.kind f.kind refl,
        fine.fields,
        fine.lags,
        ap (bias_ok f.kind) body-written ∙ bias-with bias f _,
      )

-- what is written is read as what was written
module _ (n : ℕ) (f : Fields) (zs : List ℤ) (room : ℕ) (ok : write_verdict n f zs room ≡ Ok tt) where
  abbrev bias : ℕ
  bias = peak * f.ticks

  bias-small : bias < word_range
  bias-small = omega (arith, (valid f (writes n f zs room ok).fields).ticks)

  pub length-written : length (frame_of (header f) (lag_words zs)) ≡ frame_length f.kind n
  unfolding header
  length-written = frame-length n f zs room ok bias bias-small

  pub accepts-written : read_verdict n (frame_of (header f) (lag_words zs)) ≡ Ok tt
  unfolding header
  accepts-written = verdict-written n f zs room ok bias bias-small ∙ rw (right-header f)

  -- its fields, and the lags of its lag part
  pub read-written : read_answer n (frame_of (header f) (lag_words zs)) ≡ fields f
  unfolding header
  read-written = rw accepts-written (ap fields (fields-written n f zs room ok bias bias-small))

  pub lags-read : lags_read n (frame_of (header f) (lag_words zs)) ≡ zs
  unfolding header
  lags-read =
      lag-part-read n (frame_of (header f) (lag_words zs)) accepts-written
      ∙ rw (kind-written n f zs room ok bias bias-small) (lags-written n f zs room ok bias bias-small)

-- the same of the calls: the reader is given the first bytes of the buffer that the writer leaves
module _
    (n : ℕ) (f : Fields) (zs : List ℤ) (out : List ℕ) (ok : write_verdict n f zs (length out) ≡ Ok tt)
  where
    pub leaves-frame : take (frame_length f.kind n) (write_leaves n f zs out) ≡ frame_of (header f) (lag_words zs)
    unfolding part
    leaves-frame =
        let s = frame_of (header f) (lag_words zs) in
        let l : length s ≡ frame_length f.kind n = length-written n f zs (length out) ok in
        let room : 0 + length s ≤ length out = omega (arith, (writes n f zs (length out) ok).fits) in
        rw (ok, ← l) (part-splice-same out 0 s room)

    pub leaves-read : read_answer n (take (frame_length f.kind n) (write_leaves n f zs out)) ≡ fields f
    leaves-read = rw leaves-frame (read-written n f zs (length out) ok)

    pub leaves-lags : lags_read n (take (frame_length f.kind n) (write_leaves n f zs out)) ≡ zs
    leaves-lags = rw leaves-frame (lags-read n f zs (length out) ok)

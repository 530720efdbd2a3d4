-- The lines of a page: how long they are, where their columns stand, and the numbers that are read back from them.
use Prim.Native.Nat.{ℕ, zero, suc, ◌+◌, ◌*◌, ◌-◌, ◌≤◌, ◌<◌}
use mathlib.Core.Path.{◌≡◌, refl, sym, ap, ap₂, ◌∙◌}
use mathlib.Core.Bool.{true}
use mathlib.Core.List.{List, [], ◌∷◌, ◌++◌, map, append_assoc, map-append}
use native.Mathlib.Nat.{mul-suc, not-suc-le-zero, le_of_suc-le-suc}
use native.Mathlib.Omega.{arith}
use lib.ListN.{length, get_or, length-append, get_or-append}
use lib.Seq.{get_or-append-add}
use Rattle.lta_spec.specs.Words.{part, joined, over_all, every}
use Rattle.lta_spec.specs.Shape.{run_limit}
use Rattle.lta_spec.specs.Place.{loss_count}
use Rattle.lta_spec.specs.Decimal.{space, line_feed, decimal, right_aligned, read_number}
use Rattle.lta_spec.specs.Page.{Within, page_limit, added, counts_sum, count_columns, page_line, line_bytes, loss_line}
use Rattle.lta_spec.specs.Page.{cell_lines, ledger_lines}
use Rattle.lta_spec.specs.Row.{ticks_of, edge_of, centre_of, row_ok, row_counts}
use Rattle.lta_spec.specs.LossPages.{Number, number_of, first_column}
use Rattle.lta_spec.specs.LossPages.Number.{ticks, edge, centre}
use Rattle.lta_spec.specs.declared.Counts.{Counts}
use Rattle.lta_spec.proofs.WordLaws.{part-behind, part-front, part-inside}
use Rattle.lta_spec.proofs.TestLaws.{and_both, and-le}
use Rattle.lta_spec.proofs.DecimalLaws.{few-digits, length-right, read_right}
use Rattle.lta_spec.proofs.RowLaws.{ticks-within}
use Rattle.lta_spec.proofs.LayoutLaws.{All, Each, Long, all_append}

-- numbers within their limits
pub none_within : {limit : ℕ} → Within limit (counts_sum [])
unfolding counts_sum
none_within = record { ticks = omega arith; edge = omega arith; centre = omega arith }

pub within_more : (a b : ℕ) (k : Counts) → a ≤ b → Within a k → Within b k
within_more a b k h w = record { ticks = omega (arith, w.ticks); edge = w.edge; centre = w.centre }

pub within-added : (a b : ℕ) (k l : Counts) → Within a k → Within b l → Within (a + b) (added k l)
within-added a b k l v w =
    record {
      ticks = omega (arith, v.ticks, w.ticks);
      edge = omega (arith, v.edge, w.edge);
      centre = omega (arith, v.centre, w.centre);
    }

-- the numbers of rows within their limits: of each, and of all together
pub row_within : (limit : ℕ) (row : List ℕ) → row_ok limit row ≡ true → Within (ticks_of row) (row_counts row)
unfolding row_ok
row_within limit row ok =
    let t = and-le (ticks_of row) limit _ ok in
    let g = and-le (edge_of row) (ticks_of row) _ t.1 in
    let m = and-le (centre_of row) (ticks_of row) _ g.1 in
    record { ticks = omega arith; edge = g.0; centre = m.0 }

pub losses-within : (ls : List (List ℕ)) → every (row_ok run_limit) ls ≡ true → All (Within page_limit) (map row_counts ls)
losses-within [] ok = tt
losses-within (row ∷ ls) ok =
    let a = and_both (row_ok run_limit row) _ ok in
    let few = ticks-within run_limit row a.0 in
    (within_more (ticks_of row) page_limit _ (omega arith) (row_within run_limit row a.0), losses-within ls a.1)

pub rows-within : (ls : List (List ℕ)) → every (row_ok run_limit) ls ≡ true
    → Within (over_all ticks_of ls) (counts_sum (map row_counts ls))
unfolding counts_sum
rows-within [] ok = none_within
rows-within (row ∷ ls) ok =
    let a = and_both (row_ok run_limit row) _ ok in
    within-added (ticks_of row) (over_all ticks_of ls) _ _ (row_within run_limit row a.0) (rows-within ls a.1)

-- they fit 11 columns
pub fits-columns : (n : ℕ) → n ≤ page_limit → length (decimal n) ≤ 11
fits-columns n h = let few : n < 100000000000 = omega arith in few-digits 10 n few

column : (n : ℕ) → n ≤ page_limit → length (right_aligned 11 n) ≡ 11
column n h = length-right 11 n (fits-columns n h)

pub column-size : (n : ℕ) → n ≤ page_limit → length (space ∷ right_aligned 11 n) ≡ 12
column-size n h = ap suc (column n h)

-- a cell fits two columns, a loss one
pub fits-cell : (c : ℕ) → c < 100 → length (decimal c) ≤ 2
fits-cell c h = few-digits 1 c h

pub fits-loss : (i : ℕ) → i < 10 → length (decimal i) ≤ 1
fits-loss i h = few-digits 0 i h

-- the columns of a line
module _ (cell loss : List ℕ) (two : length cell ≡ 2) (one : length loss ≡ 1) (k : Counts) (w : Within page_limit k)
  where
    abbrev line : List ℕ
    line = page_line cell loss k

    abbrev ticks_text : List ℕ
    ticks_text = space ∷ right_aligned 11 k.ticks

    abbrev edge_text : List ℕ
    edge_text = space ∷ right_aligned 11 k.edge

    abbrev centre_text : List ℕ
    centre_text = space ∷ right_aligned 11 k.centre

    ticks-size : length ticks_text ≡ 12
    ticks-size = column-size k.ticks w.ticks

    edge-size : length edge_text ≡ 12
    edge-size = column-size k.edge (omega (arith, w.ticks, w.edge))

    centre-size : length centre_text ≡ 12
    centre-size = column-size k.centre (omega (arith, w.ticks, w.centre))

    pub line-size : length line ≡ line_bytes
    unfolding page_line
    line-size =
        omega (
          arith,
          two,
          one,
          ticks-size,
          edge-size,
          centre-size,
          length-append cell ((space ∷ loss) ++ count_columns k),
          length-append (space ∷ loss) (count_columns k),
          length-append ticks_text (edge_text ++ (centre_text ++ line_feed ∷ [])),
          length-append edge_text (centre_text ++ line_feed ∷ []),
          length-append centre_text (line_feed ∷ []),
        )

    pub cell-columns : part 0 2 line ≡ cell
    unfolding page_line
    cell-columns = part-front cell _ 2 two

    pub loss-column : part 3 1 line ≡ loss
    unfolding page_line
    loss-column = part-behind cell _ 2 1 1 two ∙ part-behind (space ∷ []) _ 1 0 1 refl ∙ part-front loss _ 1 one

    -- what is behind the loss number
    past : (b v : ℕ) → part (4 + b) v line ≡ part b v (count_columns k)
    unfolding page_line
    past b v =
        let e : 4 + b ≡ 2 + (2 + b) = omega arith in
        rw e (part-behind cell _ 2 (2 + b) v two ∙ part-behind (space ∷ loss) _ 2 b v (ap suc one))

    -- a number that is shown right-aligned behind a space
    aligned : (n : ℕ) (y : List ℕ) → n ≤ page_limit → part 1 11 ((space ∷ right_aligned 11 n) ++ y) ≡ right_aligned 11 n
    aligned n y h =
        part-behind (space ∷ []) (right_aligned 11 n ++ y) 1 0 11 refl ∙ part-front (right_aligned 11 n) y 11 (column n h)

    pub number-columns : (q : Number) → read_number (part (first_column q - 1) 11 line) ≡ number_of q k
    number-columns ticks =
        ap read_number (past 1 11 ∙ aligned k.ticks _ w.ticks) ∙ read_right 11 k.ticks
    number-columns edge =
        ap read_number
        (past 13 11 ∙ part-behind ticks_text _ 12 1 11 ticks-size
        ∙ aligned k.edge _ (omega (arith, w.ticks, w.edge)))
        ∙ read_right 11 k.edge
    number-columns centre =
        ap read_number
        (past 25 11
        ∙ part-behind ticks_text _ 12 13 11 ticks-size
        ∙ part-behind edge_text _ 12 1 11 edge-size
        ∙ aligned k.centre _ (omega (arith, w.ticks, w.centre)))
        ∙ read_right 11 k.centre

-- the line of a loss
module _ (cell i : ℕ) (small : cell < 100) (few : suc i < 10) where
  pub cell-size : length (right_aligned 2 cell) ≡ 2
  cell-size = length-right 2 cell (fits-cell cell small)

  pub loss-size : length (right_aligned 1 (suc i)) ≡ 1
  loss-size = length-right 1 (suc i) (fits-loss (suc i) few)

-- lines one behind the other
module _ (w : ℕ) where
  pub length-joined : (ls : List (List ℕ)) → All (Long w) ls → length (joined ls) ≡ w * length ls
  length-joined [] a = omega arith
  length-joined (l ∷ ls) a =
      omega (arith, length-append l (joined ls), a.0, length-joined ls a.1, mul-suc w (length ls))

  -- a part of one line
  pub part-joined : (ls : List (List ℕ)) → All (Long w) ls → (j : ℕ) → j < length ls → (a v : ℕ) → a + v ≤ w
      → part (w * j + a) v (joined ls) ≡ part a v (get_or ls j [])
  part-joined [] s j h a v k = absurd (not-suc-le-zero h)
  part-joined (l ∷ ls) s zero h a v k =
      let first : w * zero + a ≡ a = omega arith in rw first (part-inside l (joined ls) a v (omega (arith, s.0)))
  part-joined (l ∷ ls) s (suc j) h a v k =
      let next : w * suc j + a ≡ w + (w * j + a) = omega (arith, mul-suc w j) in
      rw next
      (part-behind l (joined ls) w (w * j + a) v s.0 ∙ part-joined ls s.1 j (le_of_suc-le-suc h) a v k)

-- one more loss, one more cell
pub cell-lines-append : (c i : ℕ) (a b : List Counts)
    → cell_lines c i (a ++ b) ≡ cell_lines c i a ++ cell_lines c (i + length a) b
unfolding cell_lines
cell-lines-append c i [] b = ap (λ j. cell_lines c j b) (omega arith)
cell-lines-append c i (k ∷ a) b =
    ap (λ r. loss_line c i k ∷ r)
    (cell-lines-append c (suc i) a b ∙ ap (λ j. cell_lines c (suc i) a ++ cell_lines c j b) (omega arith))

pub ledger-lines-append : (c : ℕ) (a b : List (List Counts))
    → ledger_lines c (a ++ b) ≡ ledger_lines c a ++ ledger_lines (c + length a) b
unfolding ledger_lines
ledger-lines-append c [] b = ap (λ j. ledger_lines j b) (omega arith)
ledger-lines-append c (ks ∷ a) b =
    ap (λ r. cell_lines c 0 ks ++ r)
    (ledger-lines-append (suc c) a b ∙ ap (λ j. ledger_lines (suc c) a ++ ledger_lines j b) (omega arith))
    ∙ sym (append_assoc (cell_lines c 0 ks) (ledger_lines (suc c) a) _)

-- the lines of a cell whose numbers fit
module _ (c : ℕ) (small : c < 100) where
  pub cell-lines-long : (i : ℕ) (ks : List Counts) → i + length ks < 10 → All (Within page_limit) ks
      → All (Long line_bytes) (cell_lines c i ks)
  unfolding cell_lines
  cell-lines-long i [] h a = tt
  cell-lines-long i (k ∷ ks) h a = (
    line-size _ _ (cell-size c i small (omega arith)) (loss-size c i small (omega arith)) k a.0,
    cell-lines-long (suc i) ks (omega arith) a.1,
  )

  -- what they show
  cell-lines-show : (q : Number) (i : ℕ) (ks : List Counts) → i + length ks < 10 → All (Within page_limit) ks
      → map (λ l. read_number (part (first_column q - 1) 11 l)) (cell_lines c i ks) ≡ map (number_of q) ks
  unfolding cell_lines
  cell-lines-show q i [] h a = refl
  cell-lines-show q i (k ∷ ks) h a =
      ap₂ (λ x y. x ∷ y)
      (number-columns _ _ (cell-size c i small (omega arith)) (loss-size c i small (omega arith)) k a.0 q)
      (cell-lines-show q (suc i) ks (omega arith) a.1)

pub cell-lines-count : (c i : ℕ) (ks : List Counts) → length (cell_lines c i ks) ≡ length ks
unfolding cell_lines
cell-lines-count c i [] = refl
cell-lines-count c i (k ∷ ks) = ap suc (cell-lines-count c (suc i) ks)

cell-line-at : (c i : ℕ) (ks : List Counts) (j : ℕ) (z : Counts) → j < length ks
    → get_or (cell_lines c i ks) j [] ≡ loss_line c (i + j) (get_or ks j z)
unfolding cell_lines
cell-line-at c i [] j z h = absurd (not-suc-le-zero h)
cell-line-at c i (k ∷ ks) zero z h = ap (λ n. loss_line c n k) (omega arith)
cell-line-at c i (k ∷ ks) (suc j) z h =
    cell-line-at c (suc i) ks j z (le_of_suc-le-suc h) ∙ ap (λ n. loss_line c n (get_or ks j z)) (omega arith)

-- the lines of all cells, each of six losses
abbrev pub Ledger : List (List Counts) → Type 0
Ledger cells = All (Each loss_count (Within page_limit)) cells

pub ledger-lines-count : (c : ℕ) (cells : List (List Counts)) → Ledger cells
    → length (ledger_lines c cells) ≡ loss_count * length cells
unfolding ledger_lines
ledger-lines-count c [] a = refl
ledger-lines-count c (ks ∷ cells) a =
    omega (
      arith,
      length-append (cell_lines c 0 ks) (ledger_lines (suc c) cells),
      cell-lines-count c 0 ks,
      a.0.0,
      ledger-lines-count (suc c) cells a.1,
    )

pub ledger-lines-long : (c : ℕ) (cells : List (List Counts)) → c + length cells < 100 → Ledger cells
    → All (Long line_bytes) (ledger_lines c cells)
unfolding ledger_lines
ledger-lines-long c [] h a = tt
ledger-lines-long c (ks ∷ cells) h a =
    all_append (Long line_bytes) (cell_lines c 0 ks) _
    (cell-lines-long c (omega arith) 0 ks (omega (arith, a.0.0)) a.0.1)
    (ledger-lines-long (suc c) cells (omega arith) a.1)

pub ledger-lines-show : (q : Number) (c : ℕ) (cells : List (List Counts)) → c + length cells < 100 → Ledger cells
    → map (λ l. read_number (part (first_column q - 1) 11 l)) (ledger_lines c cells) ≡ map (number_of q) (joined cells)
unfolding ledger_lines
ledger-lines-show q c [] h a = refl
ledger-lines-show q c (ks ∷ cells) h a =
    map-append _ (cell_lines c 0 ks) (ledger_lines (suc c) cells)
    ∙ ap₂ (λ x y. x ++ y) (cell-lines-show c (omega arith) q 0 ks (omega (arith, a.0.0)) a.0.1)
    (ledger-lines-show q (suc c) cells (omega arith) a.1)
    ∙ sym (map-append (number_of q) ks (joined cells))

pub ledger-line-at : (c : ℕ) (cells : List (List Counts)) → Ledger cells → (d i : ℕ) (z : Counts)
    → d < length cells → i < loss_count
    → get_or (ledger_lines c cells) (loss_count * d + i) [] ≡ loss_line (c + d) i (get_or (get_or cells d []) i z)
unfolding ledger_lines
ledger-line-at c [] a d i z h k = absurd (not-suc-le-zero h)
ledger-line-at c (ks ∷ cells) a zero i z h k =
    let here : i < length (cell_lines c 0 ks) = omega (arith, cell-lines-count c 0 ks, a.0.0) in
    let at : loss_count * zero + i ≡ i = omega arith in
    rw at
    (get_or-append (cell_lines c 0 ks) (ledger_lines (suc c) cells) [] i here
    ∙ cell-line-at c 0 ks i z (omega (arith, a.0.0))
    ∙ ap₂ (λ n j. loss_line n j (get_or ks i z)) (omega arith) (omega arith))
ledger-line-at c (ks ∷ cells) a (suc d) i z h k =
    let next : loss_count * suc d + i ≡ length (cell_lines c 0 ks) + (loss_count * d + i) =
    omega (arith, cell-lines-count c 0 ks, a.0.0) in
    rw next
    (get_or-append-add (cell_lines c 0 ks) (ledger_lines (suc c) cells) (loss_count * d + i) []
    ∙ ledger-line-at (suc c) cells a.1 d i z (le_of_suc-le-suc h) k
    ∙ ap (λ n. loss_line n i (get_or (get_or cells d []) i z)) (omega arith))

-- Two pages whose numbers differ in the edge counts alone: every byte outside the edge columns is equal.
use Prim.Native.Nat.{ℕ, zero, suc, ◌+◌, ◌-◌, ◌%◌, ◌≤◌, ◌<◌}
use mathlib.Core.Path.{◌≡◌, refl, sym, ap, ◌∙◌}
use mathlib.Core.Bool.{Bool, true, false, ◌&&◌}
use mathlib.Core.List.{List, [], ◌∷◌, ◌++◌}
use native.Mathlib.Omega.{arith}
use lib.Dec.{leb, ltb}
use lib.ListN.{length, get_or, get_or-append}
use lib.Seq.{get_or-append-add}
use borrow.Author.Tests.{ltb-true, ltb-false}
use Rattle.lta_spec.specs.Words.{joined}
use Rattle.lta_spec.specs.Decimal.{space, line_feed, right_aligned}
use Rattle.lta_spec.specs.Page.{Within, page_limit, page_line, line_bytes, cell_lines, ledger_lines, totals_line}
use Rattle.lta_spec.specs.Page.{page_of}
use Rattle.lta_spec.specs.TwoRuns.{Pairs}
use Rattle.lta_spec.specs.declared.Counts.{Counts}
use Rattle.lta_spec.proofs.TestLaws.{not-between}
use Rattle.lta_spec.proofs.LayoutLaws.{All}
use Rattle.lta_spec.proofs.PageLaws.{Ledger, column-size, cell-size, loss-size, line-size}

-- behind an equal front, and behind fronts of equal length
front-alike : (p q r : List ℕ) (a : ℕ) → ((b : ℕ) → length p + b ≡ a → get_or q b 0 ≡ get_or r b 0)
    → get_or (p ++ q) a 0 ≡ get_or (p ++ r) a 0
front-alike [] q r a h = h a (omega arith)
front-alike (x ∷ p) q r zero h = refl
front-alike (x ∷ p) q r (suc a) h = front-alike p q r a (λ b e. h b (omega arith))

rest-alike : (p q r : List ℕ) → length p ≡ length q → (b : ℕ) → length p ≤ b → get_or (p ++ r) b 0 ≡ get_or (q ++ r) b 0
rest-alike [] [] r e b h = refl
rest-alike [] (y ∷ q) r e b h = absurd (omega arith)
rest-alike (x ∷ p) [] r e b h = absurd (omega arith)
rest-alike (x ∷ p) (y ∷ q) r e zero h = absurd (omega arith)
rest-alike (x ∷ p) (y ∷ q) r e (suc b) h = rest-alike p q r (omega arith) b (omega arith)

-- a byte of a line that is not in its edge columns, 18 to 28 counted from 1
abbrev pub in_edge : (column : ℕ) → Bool
in_edge a = leb 17 a && ltb a 28

-- numbers that are equal but for the edge count, and lines of 41 bytes that are equal but in the edge columns
pub record CountsAlike (k k' : Counts) : Type 0 where
  pub ticks : k.ticks ≡ k'.ticks
  pub centre : k.centre ≡ k'.centre

record LinesAlike (l l' : List ℕ) : Type 0 where
  size : length l ≡ line_bytes
  size' : length l' ≡ line_bytes
  columns : (a : ℕ) → in_edge a ≡ false → get_or l a 0 ≡ get_or l' a 0

-- a line
module _ (cell loss : List ℕ) (two : length cell ≡ 2) (one : length loss ≡ 1) (k k' : Counts)
    (w : Within page_limit k) (w' : Within page_limit k') (same : CountsAlike k k') where
  abbrev ticks_text : List ℕ
  ticks_text = space ∷ right_aligned 11 k.ticks

  abbrev edge_text : (edge : ℕ) → List ℕ
  edge_text edge = space ∷ right_aligned 11 edge

  abbrev behind : List ℕ
  behind = (space ∷ right_aligned 11 k.centre) ++ line_feed ∷ []

  edge-size : length (edge_text k.edge) ≡ 12
  edge-size = column-size k.edge (omega (arith, w.ticks, w.edge))

  edge-size' : length (edge_text k'.edge) ≡ 12
  edge-size' = column-size k'.edge (omega (arith, w'.ticks, w'.edge))

  -- from the space in front of the edge count on
  edge-alike : (b : ℕ) → in_edge (16 + b) ≡ false
      → get_or (edge_text k.edge ++ behind) b 0 ≡ get_or (edge_text k'.edge ++ behind) b 0
  edge-alike zero out = refl
  edge-alike (suc b) out =
      rest-alike (edge_text k.edge) (edge_text k'.edge) behind (omega (arith, edge-size, edge-size')) (suc b)
      (omega (arith, edge-size, not-between 17 28 (16 + suc b) out (omega arith)))

  columns-alike : (a : ℕ) → in_edge a ≡ false → get_or (page_line cell loss k) a 0 ≡ get_or (page_line cell loss k') a 0
  unfolding page_line
  columns-alike a out =
      rw (sym same.ticks, sym same.centre)
      (front-alike cell _ _ a
      (λ b e.
      front-alike (space ∷ loss) _ _ b
      (λ c f.
      front-alike ticks_text _ _ c
      (λ d g.
      let at : a ≡ 16 + d = omega (arith, column-size k.ticks w.ticks) in
      edge-alike d (sym (ap in_edge at) ∙ out)))))

  line-alike : LinesAlike (page_line cell loss k) (page_line cell loss k')
  line-alike =
      record {
        size = line-size cell loss two one k w;
        size' = line-size cell loss two one k' w';
        columns = columns-alike;
      }

-- the lines of a cell, and of all cells
pairs-append : {A : Type 0} (R : A → A → Type 0) (a a' b b' : List A) → Pairs R a a' → Pairs R b b'
    → Pairs R (a ++ b) (a' ++ b')
pairs-append R [] [] b b' p q = q
pairs-append R [] (x' ∷ a') b b' p q = absurd p
pairs-append R (x ∷ a) [] b b' p q = absurd p
pairs-append R (x ∷ a) (x' ∷ a') b b' p q = (p.0, pairs-append R a a' b b' p.1 q)

cell-alike : (c : ℕ) → c < 100 → (i : ℕ) (ks ks' : List Counts) → i + length ks < 10 → All (Within page_limit) ks
    → All (Within page_limit) ks' → Pairs CountsAlike ks ks' → Pairs LinesAlike (cell_lines c i ks) (cell_lines c i ks')
unfolding cell_lines
cell-alike c small i [] [] h w w' p = tt
cell-alike c small i [] (k' ∷ ks') h w w' p = absurd p
cell-alike c small i (k ∷ ks) [] h w w' p = absurd p
cell-alike c small i (k ∷ ks) (k' ∷ ks') h w w' p = (
  line-alike _ _ (cell-size c i small (omega arith)) (loss-size c i small (omega arith)) k k' w.0 w'.0 p.0,
  cell-alike c small (suc i) ks ks' (omega arith) w.1 w'.1 p.1,
)

ledger-alike : (c : ℕ) (cells cells' : List (List Counts)) → c + length cells < 100 → Ledger cells → Ledger cells'
    → Pairs (Pairs CountsAlike) cells cells' → Pairs LinesAlike (ledger_lines c cells) (ledger_lines c cells')
unfolding ledger_lines
ledger-alike c [] [] h w w' p = tt
ledger-alike c [] (ks' ∷ cells') h w w' p = absurd p
ledger-alike c (ks ∷ cells) [] h w w' p = absurd p
ledger-alike c (ks ∷ cells) (ks' ∷ cells') h w w' p =
    pairs-append LinesAlike (cell_lines c 0 ks) (cell_lines c 0 ks') _ _
    (cell-alike c (omega arith) 0 ks ks' (omega (arith, w.0.0)) w.0.1 w'.0.1 p.0)
    (ledger-alike (suc c) cells cells' (omega arith) w.1 w'.1 p.1)

-- lines one behind the other
joined-alike : (ls ls' : List (List ℕ)) → Pairs LinesAlike ls ls' → (j : ℕ) → in_edge (j % line_bytes) ≡ false
    → get_or (joined ls) j 0 ≡ get_or (joined ls') j 0
joined-alike [] [] p j out = refl
joined-alike [] (l' ∷ ls') p j out = absurd p
joined-alike (l ∷ ls) [] p j out = absurd p
joined-alike (l ∷ ls) (l' ∷ ls') p j out =
    by-test (ltb j line_bytes) refl (j - line_bytes) refl (joined-alike ls ls' p.1 (j - line_bytes))
  where
    by-test : (q : Bool) → ltb j line_bytes ≡ q → (later : ℕ) → later ≡ j - line_bytes
        → (in_edge (later % line_bytes) ≡ false → get_or (joined ls) later 0 ≡ get_or (joined ls') later 0)
        → get_or (l ++ joined ls) j 0 ≡ get_or (l' ++ joined ls') j 0
    by-test true q later e rest =
        let inside = ltb-true j line_bytes q in
        let column : j % line_bytes ≡ j = omega arith in
        get_or-append l (joined ls) 0 j (omega (arith, p.0.size))
        ∙ p.0.columns j (rw column at out)
        ∙ sym (get_or-append l' (joined ls') 0 j (omega (arith, p.0.size')))
    by-test false q later e rest =
        let past = ltb-false j line_bytes q in
        let here : j ≡ length l + later = omega (arith, p.0.size) in
        let here' : j ≡ length l' + later = omega (arith, p.0.size') in
        let column : j % line_bytes ≡ later % line_bytes = omega arith in
        ap (λ i. get_or (l ++ joined ls) i 0) here
        ∙ get_or-append-add l (joined ls) later 0
        ∙ rest (rw column at out)
        ∙ sym (get_or-append-add l' (joined ls') later 0)
        ∙ ap (λ i. get_or (l' ++ joined ls') i 0) (sym here')

-- a page of numbers that fit
pub page-alike : (cells cells' : List (List Counts)) (totals totals' : Counts) → length cells ≤ 16
    → Ledger cells → Ledger cells' → Within page_limit totals → Within page_limit totals'
    → Pairs (Pairs CountsAlike) cells cells' → CountsAlike totals totals'
    → (j : ℕ) → in_edge (j % line_bytes) ≡ false → get_or (page_of cells totals) j 0 ≡ get_or (page_of cells' totals') j 0
unfolding page_of
page-alike cells cells' totals totals' few fit fit' w w' same all =
    let last = totals_line totals ∷ [] in
    let last' = totals_line totals' ∷ [] in
    joined-alike (ledger_lines 0 cells ++ last) (ledger_lines 0 cells' ++ last')
    (pairs-append LinesAlike (ledger_lines 0 cells) (ledger_lines 0 cells') last last'
    (ledger-alike 0 cells cells' (omega arith) fit fit' same)
    (line-alike _ _ refl refl totals totals' w w' all, tt))

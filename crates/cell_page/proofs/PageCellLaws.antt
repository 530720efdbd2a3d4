-- The losses of a cell on a page, one after the other: their ticks, their numbers and their lines.
use Prim.Native.Nat.{ℕ, suc, ◌+◌, ◌*◌, ◌≤◌, ◌<◌}
use mathlib.Core.Path.{◌≡◌, refl, sym, ap, ◌∙◌}
use mathlib.Core.Bool.{true}
use mathlib.Core.List.{List, [], ◌∷◌, ◌++◌, map, append-nil, map-append}
use native.Mathlib.Omega.{arith}
use lib.ListN.{length, get_or, take, length-map}
use lib.Seq.{take-suc, length-take-le}
use borrow.Author.Tests.{leb-true}
use Rattle.lta_spec.specs.Words.{splice, joined, over_all, every}
use Rattle.lta_spec.specs.Shape.{run_limit}
use Rattle.lta_spec.specs.Place.{Cell}
use Rattle.lta_spec.specs.Row.{ticks_of, row_ok, row_counts}
use Rattle.lta_spec.specs.Page.{Within, added, counts_sum, line_bytes, loss_line, cell_lines}
use Rattle.lta_spec.specs.Engine.{Row}
use Rattle.lta_spec.specs.Damage.{losses_ok, page_sound}
use Rattle.lta_spec.specs.declared.Counts.{Counts}
use Rattle.lta_spec.proofs.WordLaws.{splice-behind, joined-append, over-take}
use Rattle.lta_spec.proofs.TestLaws.{and_both, every-at, every_take}
use Rattle.lta_spec.proofs.RowLaws.{ticks-within}
use Rattle.lta_spec.proofs.PageLaws.{within_more, row_within, losses-within, rows-within}
use Rattle.lta_spec.proofs.PageLaws.{length-joined, cell-lines-append, cell-lines-long, cell-lines-count}
use Rattle.lta_spec.proofs.LedgerLaws.{counts-path, counts-append}

-- what the test of 11 says of the losses
pub record Sound (ls : List Row) : Type 0 where
  pub each : every (row_ok run_limit) ls ≡ true
  pub together : over_all ticks_of ls ≤ run_limit

pub sound : (c : Cell Row) → page_sound c ≡ true → Sound c.losses
unfolding page_sound losses_ok
sound c ok =
    let a = and_both (every (row_ok run_limit) c.losses) _ ok in
    record { each = a.0; together = leb-true _ run_limit a.1 }

pub no_lines : (c : ℕ) → [] ≡ joined (cell_lines c 0 [])
unfolding cell_lines
no_lines c = refl

one-sum : (k : Counts) → counts_sum (k ∷ []) ≡ k
unfolding counts_sum
one-sum k = counts-path (omega arith) (omega arith) (omega arith)

-- one loss more
module _ (ls : List Row) (i : ℕ) (d : Row) (inside : i < length ls) where
  counts-next : map row_counts (take (suc i) ls) ≡ map row_counts (take i ls) ++ row_counts (get_or ls i d) ∷ []
  counts-next = ap (map row_counts) (take-suc ls i d inside) ∙ map-append row_counts (take i ls) (get_or ls i d ∷ [])

  pub sum-next : counts_sum (map row_counts (take (suc i) ls))
      ≡ added (counts_sum (map row_counts (take i ls))) (row_counts (get_or ls i d))
  sum-next =
      ap counts_sum counts-next
      ∙ counts-append (map row_counts (take i ls)) (row_counts (get_or ls i d) ∷ [])
      ∙ ap (added (counts_sum (map row_counts (take i ls)))) (one-sum (row_counts (get_or ls i d)))

one_line : (c i : ℕ) (k : Counts) → joined (cell_lines c i (k ∷ [])) ≡ loss_line c i k
unfolding cell_lines
one_line c i k = append-nil (loss_line c i k)

-- of losses within their limits
module _ (ls : List Row) (ok : every (row_ok run_limit) ls ≡ true) where
  -- each loss
  pub loss-within : (i : ℕ) (d : Row) → i < length ls → Within run_limit (row_counts (get_or ls i d))
  loss-within i d h =
      let one = every-at (row_ok run_limit) ls ok i d h in
      within_more _ run_limit _ (ticks-within run_limit _ one) (row_within run_limit _ one)

  -- the first i together
  pub sum-within : (i : ℕ) → Within (over_all ticks_of ls) (counts_sum (map row_counts (take i ls)))
  sum-within i =
      within_more _ _ _ (over-take ticks_of ls i) (rows-within (take i ls) (every_take (row_ok run_limit) ls i ok))

  module _ (c : ℕ) (small : c < 100) (i : ℕ) (few : i < 10) (inside : i ≤ length ls) where
    abbrev counts : List Counts
    counts = map row_counts (take i ls)

    count : length counts ≡ i
    count = length-map (take i ls) row_counts ∙ length-take-le i ls inside

    -- the lines of the first i losses
    lines-size : length (joined (cell_lines c 0 counts)) ≡ line_bytes * i
    lines-size =
        length-joined line_bytes (cell_lines c 0 counts)
        (cell-lines-long c small 0 counts (omega (arith, count))
        (losses-within (take i ls) (every_take (row_ok run_limit) ls i ok)))
        ∙ ap (λ n. line_bytes * n) (cell-lines-count c 0 counts ∙ count)

    pub line-next : (before : List ℕ) (at : ℕ) (d : Row) → i < length ls
        → splice (splice before at (joined (cell_lines c 0 counts))) (at + line_bytes * i)
        (loss_line c i (row_counts (get_or ls i d)))
        ≡ splice before at (joined (cell_lines c 0 (map row_counts (take (suc i) ls))))
    line-next before at d more =
        let k = row_counts (get_or ls i d) in
        let here : 0 + length counts ≡ i = omega (arith, count) in
        let all : joined (cell_lines c 0 (map row_counts (take (suc i) ls)))
        ≡ joined (cell_lines c 0 counts) ++ loss_line c i k =
        ap (λ z. joined (cell_lines c 0 z)) (counts-next ls i d more)
        ∙ ap joined (cell-lines-append c 0 counts (k ∷ []))
        ∙ joined-append (cell_lines c 0 counts) (cell_lines c (0 + length counts) (k ∷ []))
        ∙ ap (λ j. joined (cell_lines c 0 counts) ++ joined (cell_lines c j (k ∷ []))) here
        ∙ ap (λ z. joined (cell_lines c 0 counts) ++ z) (one_line c i k) in
        splice-behind before at (joined (cell_lines c 0 counts)) (loss_line c i k) refl
        (omega (arith, lines-size)) refl
        ∙ ap (splice before at) (sym all)

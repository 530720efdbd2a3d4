-- From "any quantity sums over the places to its sum over the ticks": exactly once, sums of whole numbers, and the
-- numbers of sets.
use Prim.Native.Nat.{ℕ, zero, suc, ◌+◌, ◌≤◌, ◌<◌}
use mathlib.Core.Path.{◌≡◌, refl, sym, ap, ap₂, ◌∙◌, subst, fun_ext}
use mathlib.Core.Bool.{Bool, true, false, cond}
use mathlib.Core.List.{List, [], ◌∷◌, map}
use native.Mathlib.Nat.{not-suc-le-zero}
use native.Mathlib.Omega.{arith}
use lib.Dec.{eqb}
use lib.IntN.{ℤ, pos, negsuc, neg_ℤ, ◌+ℤ◌, ◌-ℤ◌, pos-+ℤ-pos, +ℤ_idr, +ℤ_idl, neg_ℤ-+ℤ}
use borrow.Author.Tests.{eqb-true, eqb-false, ne_eqb}
use Rattle.lta_spec.specs.Words.{over_all}
use Rattle.lta_spec.specs.Machine.{Ticks}
use Rattle.lta_spec.specs.Tick.{Sample, valid_at, in_phase_at, quadrature_at, edge_lag, centre_lag}
use Rattle.lta_spec.specs.Numbers.{up_to, sum_over, count_over, in_phase_sum, quadrature_sum, valid_count, set_sums}
use Rattle.lta_spec.specs.Demand.{is_tick, over_allℤ, ticks_below, AddUp}
use Rattle.lta_spec.specs.declared.Sums.{Sums}
use Rattle.lta_spec.proofs.SetLaws.{regroup}
use Rattle.lta_spec.proofs.WordLaws.{over-map}
use Rattle.lta_spec.proofs.Conserve.{tally, tally-ones}

-- tick i is once among the ticks below t, or not at all
pub none_below : (i t : ℕ) → t ≤ i → over_all (is_tick i) (ticks_below t) ≡ 0
none_below i zero h = refl
none_below i (suc t) h = rw (ne_eqb i t (omega arith)) (omega (arith, none_below i t (omega arith)))

pub one_below : (i t : ℕ) → i < t → over_all (is_tick i) (ticks_below t) ≡ 1
one_below i zero h = absurd (not-suc-le-zero h)
one_below i (suc t) h = by-test (eqb i t) refl (one_below i t)
  where
    by-test : (b : Bool) → eqb i t ≡ b → (i < t → over_all (is_tick i) (ticks_below t) ≡ 1)
        → cond b 1 0 + over_all (is_tick i) (ticks_below t) ≡ 1
    by-test true e ih = omega (arith, none_below i t (omega (arith, eqb-true i t e)))
    by-test false e ih = let n : (i ≡ t) → ⊥ = eqb-false i t e in omega (arith, ih (omega arith))

-- a whole number as a difference of naturals
abbrev up : ℤ → ℕ
up (pos n) = n
up (negsuc n) = 0

abbrev down : ℤ → ℕ
down (pos n) = 0
down (negsuc n) = suc n

apart : (z : ℤ) → z ≡ pos (up z) -ℤ pos (down z)
apart (pos n) = sym (+ℤ_idr (pos n))
apart (negsuc n) = sym (+ℤ_idl (negsuc n))

join : (a b c d : ℕ) → (pos a -ℤ pos b) +ℤ (pos c -ℤ pos d) ≡ pos (a + c) -ℤ pos (b + d)
join a b c d =
    regroup (pos a) (neg_ℤ (pos b)) (pos c) (neg_ℤ (pos d))
    ∙ ap₂ ◌+ℤ◌ (pos-+ℤ-pos a c) (sym (neg_ℤ-+ℤ (pos b) (pos d)) ∙ ap neg_ℤ (pos-+ℤ-pos b d))

module _ (f : ℕ → ℤ) where
  abbrev ups : ℕ → ℕ
  ups i = up (f i)

  abbrev downs : ℕ → ℕ
  downs i = down (f i)

  split-sum : (s : Ticks) → sum_over f s ≡ pos (over_all ups s) -ℤ pos (over_all downs s)
  split-sum [] = refl
  split-sum (i ∷ s) = ap₂ ◌+ℤ◌ (apart (f i)) (split-sum s) ∙ join (ups i) (downs i) _ _

  split-all : (ls : List Ticks)
      → over_allℤ (sum_over f) ls ≡ pos (over_all (over_all ups) ls) -ℤ pos (over_all (over_all downs) ls)
  split-all [] = refl
  split-all (s ∷ ls) = ap₂ ◌+ℤ◌ (split-sum s) (split-all ls) ∙ join (over_all ups s) (over_all downs s) _ _

  pub sums-add-up : (ls : List Ticks) (all : Ticks) → ((g : ℕ → ℕ) → over_all (over_all g) ls ≡ over_all g all)
      → over_allℤ (sum_over f) ls ≡ sum_over f all
  sums-add-up ls all h =
      split-all ls ∙ ap₂ (λ a b. pos a -ℤ pos b) (h ups) (h downs) ∙ sym (split-sum all)

-- a count is the sum of a one for each tick that counts
abbrev ones : (ℕ → Bool) → ℕ → ℕ
ones f i = cond (f i) 1 0

count-tally : (f : ℕ → Bool) (s : Ticks) → count_over f s ≡ tally (ones f) s
count-tally f [] = refl
count-tally f (i ∷ s) = ap (λ r. ones f i + r) (count-tally f s)

over-mapℤ : {A B : Type 0} (f : B → ℤ) (g : A → B) (l : List A) → over_allℤ f (map g l) ≡ over_allℤ (λ a. f (g a)) l
over-mapℤ f g [] = refl
over-mapℤ f g (x ∷ l) = ap (λ r. f (g x) +ℤ r) (over-mapℤ f g l)

-- the numbers of sets that have each tick once
module _ (n : ℕ) (xs ys : List Sample) (k : ℕ) (ls : List Ticks) (all : Ticks)
    (once : (g : ℕ → ℕ) → over_all (tally g) ls ≡ tally g all) where
  abbrev sums_of : Ticks → Sums
  sums_of s = set_sums n xs ys s k

  counts-add-up : (f : ℕ → Bool) → over_all (count_over f) ls ≡ count_over f all
  counts-add-up f =
      subst (λ q. over_all q ls ≡ q all) (sym (fun_ext (count-tally f))) (once (ones f))

  pub sets-add-up : AddUp (map sums_of ls) (sums_of all)
  unfolding in_phase_sum quadrature_sum valid_count
  sets-add-up =
      record {
        in_phase =
            over-mapℤ (λ p. p.i) sums_of ls
            ∙ sums-add-up (λ i. in_phase_at n (up_to xs i) (up_to ys i) k) ls all once;
        quadrature =
            over-mapℤ (λ p. p.q) sums_of ls
            ∙ sums-add-up (λ i. quadrature_at n (up_to xs i) (up_to ys i) k) ls all once;
        ticks =
            over-map (λ p. p.ticks) sums_of ls
            ∙ subst (λ q. over_all q ls ≡ q all) (fun_ext tally-ones) (once (λ i. 1));
        edge =
            over-map (λ p. p.edge) sums_of ls
            ∙ counts-add-up (λ i. valid_at n (up_to xs i) (up_to ys i) edge_lag);
        centre =
            over-map (λ p. p.centre) sums_of ls
            ∙ counts-add-up (λ i. valid_at n (up_to xs i) (up_to ys i) (centre_lag n));
      }

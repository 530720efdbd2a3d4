-- A test that antt computes at every number below a bound, and the law that gives it at each.
use Rattle.std.proofs.Common.{◌≡◌, ℕ, zero, suc, ◌<◌, ◌≤◌, Bool, true, false, ◌&&◌, T, eqb, leb, ℤ, pos, negsuc, sym, ap, subst, ⊎_elim, le_of_suc-le-suc, not-suc-le-zero, eq-or-lt_of_le, eqb→eq, leb→le}
use Rattle.lta_spec.proofs.TestLaws.{and_left, and_right}

abbrev pub below : ℕ → (ℕ → Bool) → Bool
below zero f = true
below (suc n) f = f n && below n f

below_at : (n : ℕ) (f : ℕ → Bool) → T (below n f) → (k : ℕ) → k < n → T (f k)
below_at zero f t k h = absurd (not-suc-le-zero h)
below_at (suc n) f t k h =
    ⊎_elim (λ e. subst (λ (m : ℕ). T (f m)) (sym e) (and_left (f n) (below n f) t))
    (λ l. below_at n f (and_right (f n) (below n f) t) k l) (eq-or-lt_of_le (le_of_suc-le-suc h))

-- two numbers below their bounds
abbrev pub below2 : (m n : ℕ) → (ℕ → ℕ → Bool) → Bool
below2 m n f = below m (λ a. below n (f a))

below-at2 : (m n : ℕ) (f : ℕ → ℕ → Bool) → T (below2 m n f) → (a b : ℕ) → a < m → b < n → T (f a b)
below-at2 m n f t a b ha hb = below_at n (f a) (below_at m (λ a. below n (f a)) t a ha) b hb

abbrev pub eq_z : ℤ → ℤ → Bool
eq_z (pos a) (pos b) = eqb a b
eq_z (pos a) (negsuc b) = false
eq_z (negsuc a) (pos b) = false
eq_z (negsuc a) (negsuc b) = eqb a b

eq_z-eq : (a b : ℤ) → T (eq_z a b) → a ≡ b
eq_z-eq (pos a) (pos b) t = ap pos (eqb→eq a b t)
eq_z-eq (pos a) (negsuc b) t = absurd t
eq_z-eq (negsuc a) (pos b) t = absurd t
eq_z-eq (negsuc a) (negsuc b) t = ap negsuc (eqb→eq a b t)

-- a rule on two numbers below their bounds, by one computed test
module _ (m n : ℕ) where
  pub le_below : (f g : ℕ → ℕ → ℕ) → T (below2 m n (λ a b. leb (f a b) (g a b))) → (a b : ℕ) → a < m → b < n
      → f a b ≤ g a b
  le_below f g t a b ha hb = leb→le (f a b) (g a b) (below-at2 m n (λ a b. leb (f a b) (g a b)) t a b ha hb)

  pub eq_z-below : (f g : ℕ → ℕ → ℤ) → T (below2 m n (λ a b. eq_z (f a b) (g a b))) → (a b : ℕ) → a < m → b < n
      → f a b ≡ g a b
  eq_z-below f g t a b ha hb = eq_z-eq (f a b) (g a b) (below-at2 m n (λ a b. eq_z (f a b) (g a b)) t a b ha hb)

use Rattle.std.proofs.Common.{◌≡◌, ℕ, ◌+◌, ◌⊎◌, get_or, sym, refl, inl, inr, ⊎_elim, add-one, arith}
use Rattle.words.proofs.MoveLaws.{folded-zero, folded-next, get_or-folded-out}
use Rattle.words.proofs.fold.Goals as goal
use Rattle.words.proofs.fold.Goals.{In-loop-i}

-- what a turn reads is what the words were at entry
read : (c : In-loop-i) (k : ℕ)
    → (k ≡ c.args.to + c.loop-i.i) ⊎ (k ≡ c.args.from + c.loop-i.i)
    → get_or c.loop-i.s k 0 ≡ get_or c.args.s.now k 0
read c k at =
    let a = c.args in
    let out = get_or-folded-out a.s.now a.from a.to c.loop-i.i (omega arith) (omega arith) k in
    rw c.loop-i.invariant
    (⊎_elim
    (λ d. ⊎_elim (λ w. out (inr (omega arith)) (inr (omega arith)))
    (λ w. out (inr (omega arith)) (inl (omega arith))) at)
    (λ d. ⊎_elim (λ w. out (inl (omega arith)) (inr (omega arith)))
    (λ w. out (inr (omega arith)) (inr (omega arith))) at)
    c.requires.apart)

pub loop-i-init : goal.loop-i-init
loop-i-init c = sym (folded-zero _ _ _)

pub overflow_add-s-in-loop-i-2 : goal.overflow_add-s-in-loop-i-2
overflow_add-s-in-loop-i-2 c =
    omega (
      arith,
      read (goal.at.overflow_add-s-in-loop-i-2 c).In-loop-i _ (inl refl),
      read (goal.at.overflow_add-s-in-loop-i-2 c).In-loop-i _ (inr refl),
      c.requires.fit c.loop-i.i c.loop-i-test.true,
    )

pub loop-i-preserved : goal.loop-i-preserved
loop-i-preserved c =
    let a = c.args in
    let l = a.s.now in
    let i = c.loop-i.i in
    let next = folded-next l a.from a.to i (omega arith) (omega arith)
    (⊎_elim (λ w. inl (omega arith)) (λ w. inr (omega arith)) c.requires.apart) in
    let was = read (goal.at.loop-i-preserved c).In-loop-i in
    rw (was (a.to + i) (inl refl), was (a.from + i) (inr refl), c.loop-i.invariant, add-one) next

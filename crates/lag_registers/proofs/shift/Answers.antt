-- The entries but the oldest move by one place, and the new one stands in front.
use Rattle.std.proofs.Common.{◌≡◌, ℕ, ◌-◌, List, ◌∷◌, length, set, take, ap, ◌∙◌, sym, arith, length-take-le}
use Rattle.lta_spec.specs.Words.{part, splice}
use Rattle.lta_spec.proofs.WordLaws.{lent, returned, length_part, splice-nil, part-zero}
use Rattle.lag_registers.proofs.Loops.{moved-next, moved-whole}
use Rattle.lag_registers.proofs.shift.Goals as goal

pub loop-j-init : goal.loop-j-init
loop-j-init c =
    let d = c.args.depth in
    let none : d - d ≡ 0 = omega arith in
    (omega arith, rw (none, part-zero) (sym (splice-nil _ _)))

pub loop-j-preserved : goal.loop-j-preserved
loop-j-preserved c =
    let a = c.args in
    let p : List ℕ = part a.at a.depth a.s.now in
    let e : length p ≡ a.depth = length_part a.s.now a.at a.depth c.requires.0 in
    let is : c.loop-j.register ≡ splice p c.loop-j.j (part (c.loop-j.j - 1) (a.depth - c.loop-j.j) p) =
    rw lent at c.loop-j.invariant.1 in
    (omega arith, rw lent (moved-next p c.loop-j.register c.loop-j.j a.depth e (omega arith) (omega arith) is))

pub returns : goal.returns
returns c =
    let a = c.args in
    let l = a.s.now in
    let p : List ℕ = part a.at a.depth l in
    let e : length p ≡ a.depth = length_part l a.at a.depth c.requires.0 in
    let one : c.loop-j.j ≡ 1 = omega arith in
    let is : c.loop-j.register ≡ splice p 1 (part 0 (a.depth - 1) p) = rw one at (rw lent at c.loop-j.invariant.1) in
    let front : set c.loop-j.register 0 a.entry ≡ take a.depth (a.entry ∷ p) =
    ap (λ (r : List ℕ). set r 0 a.entry) is ∙ moved-whole p a.depth a.entry e c.requires.1 in
    rw front
    (returned l a.at a.depth (take a.depth (a.entry ∷ p)) c.requires.0
    (length-take-le a.depth (a.entry ∷ p) (omega (arith, e))))

-- `call_dump::bin_rule` meets its contract.
use mathlib.Core.Bool.{and-false}
use Prim.Native.Nat.{suc, ◌+◌, ◌*◌, ◌≤◌}
use native.Mathlib.Nat.{mul-le-mul}
use native.Mathlib.Numerals.{add-one}
use native.Mathlib.Omega.{arith}
use borrow.Author.Tests.{lt-leb}
use Rattle.lta_spec.specs.Call.{phase_ok}
use Rattle.lta_spec.proofs.ShapeLaws.{shaped}
use Rattle.call_dump.proofs.bin_rule.Goals as goal

pub returns-then-phase-gt1000 : goal.returns-then-phase-gt1000
unfolding phase_ok
returns-then-phase-gt1000 c =
    let a = c.args in
    let k = shaped a.s c.requires in
    let m : 1001 * 1 ≤ suc a.phase * a.s.blocks = mul-le-mul {n₁ = 1001} {m₁ = 1} (omega arith) k.some-blocks in
    rw (lt-leb (suc a.phase * a.s.blocks) a.s.bins (omega (arith, k.bins))) (simp (and-false))

pub overflow_mul-result : goal.overflow_mul-result
overflow_mul-result c =
    let k = shaped c.args.s c.requires in
    let m : (c.args.phase + 1) * c.args.s.blocks ≤ 1001 * 256 =
    mul-le-mul {n₂ = 1001} {m₂ = 256} (omega arith) (omega (arith, k.blocks)) in
    omega arith

pub returns-else-phase-gt1000 : goal.returns-else-phase-gt1000
unfolding phase_ok
returns-else-phase-gt1000 c = simp (add-one)

use mathlib.Core.Path.{◌≡◌, refl, sym, ap, ◌∙◌}
use mathlib.Core.Bool.{◌&&◌, and_assoc, and-true}
use mathlib.Core.List.{List}
use Prim.Native.Nat.{ℕ, zero, suc, ◌+◌, ◌*◌}
use native.Mathlib.Numerals.{add-one}
use native.Mathlib.Omega.{arith}
use lib.Dec.{leb}
use lib.ListN.{get_or, drop}
use lib.Seq.{get_or-drop}
use Rattle.lta_spec.specs.Call.{validity_ok}
use Rattle.call_tick_tests.proofs.validity_ok.Goals as goal

-- one cell more
next : (c : ℕ) (samples : List ℕ)
    → validity_ok c samples && leb (get_or samples (3 * c + 2) 0) 3 ≡ validity_ok (suc c) samples
unfolding validity_ok
next zero samples = sym (and-true (leb (get_or samples 2 0) 3))
next (suc c) samples =
    let e : 3 * suc c + 2 ≡ 3 + (3 * c + 2) = omega arith in
    let first = leb (get_or samples 2 0) 3 in
    let byte : get_or samples (3 * suc c + 2) 0 ≡ get_or (drop 3 samples) (3 * c + 2) 0 =
    rw e (sym (get_or-drop 3 samples (3 * c + 2) 0)) in
    and_assoc first (validity_ok c (drop 3 samples)) (leb (get_or samples (3 * suc c + 2) 0) 3)
    ∙ ap (λ q. first && q) (rw byte (next c (drop 3 samples)))

pub loop-c-init : goal.loop-c-init
unfolding validity_ok
loop-c-init c = refl

pub loop-c-preserved : goal.loop-c-preserved
loop-c-preserved c =
    let samples = c.args.samples.now in
    let k = c.loop-c.c in
    rw (c.loop-c.invariant, add-one k) (next k samples)

pub returns : goal.returns
returns c =
    let past : c.loop-c.c ≡ c.args.cells = omega arith in
    rw past at c.loop-c.invariant

-- The label of an accepted dump: its bank and data bin are among the shape's, and a label that Held gets is sound.
use Prim.Native.Nat.{ℕ, ◌-◌, ◌<◌}
use mathlib.Core.Path.{◌≡◌}
use mathlib.Core.Bool.{true, false, ◌&&◌}
use native.Mathlib.Omega.{arith}
use lib.Dec.{eqb}
use borrow.Author.Tests.{ltb-true}
use Rattle.lta_spec.specs.Call.{speed, idle, discard, command_ok, phase_ok, bank_ok}
use Rattle.lta_spec.specs.Machine as M
use Rattle.lta_spec.specs.declared.Shape.{Shape}
use Rattle.lta_spec.proofs.TestLaws.{and_both}
use Rattle.lta_spec.proofs.BlockLaws.{CounterSound, command-kept, phase-below}
use Rattle.lta_spec.proofs.Sound.{LabelSound}

pub bin-kept : (sh : Shape) (command bank phase : ℕ) (k : M.Counter) → bank_ok bank && phase_ok sh phase ≡ true
    → CounterSound sh.start sh.blocks k
    → (bank < 2) × ((M.dump_label sh.start sh.blocks command bank phase k.block).bin < sh.bins)
bin-kept sh command bank phase k rule among =
    let a = and_both (bank_ok bank) _ rule in (
      ltb-true bank 2 a.0,
      phase-below sh phase (k.block - sh.start) a.1 (omega (arith, among.low, among.high)),
    )

pub label_kept : (sh : Shape) (command bank phase : ℕ) (k : M.Counter) → command_ok command ≡ true
    → bank_ok bank && phase_ok sh phase ≡ true → CounterSound sh.start sh.blocks k
    → eqb command speed ≡ false → eqb command idle ≡ false → eqb command discard ≡ false
    → LabelSound sh.bins (M.dump_label sh.start sh.blocks command bank phase k.block)
label_kept sh command bank phase k ok rule among s p q =
    let b = bin-kept sh command bank phase k rule among in
    record { command = command-kept command ok s p q; bank = b.0; bin = b.1 }

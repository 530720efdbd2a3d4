use mathlib.Core.Path.{◌≡◌, refl, ap, ◌∙◌}
use Prim.Native.Nat.{◌<◌}
use native.Mathlib.Numerals.{add-one}
use native.Mathlib.Omega.{arith}
use lib.ListN.{length}
use lib.Seq.{take_all}
use Rattle.lta_spec.specs.Step.{held_off}
use Rattle.cell_layout.proofs.LaysLaws.{lays-to}
use Rattle.call_run.specs.Runs.{run_of}
use Rattle.call_run.proofs.RunLaws.{shape_is, whole, units-length}
use Rattle.call_tick.proofs.CellsLaws.{ticked-all, one_at_most}
use Rattle.call_tick.proofs.CellsLaws.{size-kept, may-tick, has-ticked, held_more}
use Rattle.call_tick.proofs.tick_cells.Goals as goal

pub loop-c-init : goal.loop-c-init
unfolding held_off
loop-c-init c =
    (whole c.args.s c.args.mem.now c.requires.0, refl, omega arith)

pub overflow_mul-i : goal.overflow_mul-i
overflow_mul-i c =
    omega (arith, (shape_is c.args.s c.args.mem.now c.requires.0).cells)

pub overflow_add-valid : goal.overflow_add-valid
overflow_add-valid c =
    omega (arith, (shape_is c.args.s c.args.mem.now c.requires.0).cells)

pub bounds-samples-i : goal.bounds-samples-i
bounds-samples-i c = omega (arith, c.requires.1)

pub bounds-samples-i-in-loop-c : goal.bounds-samples-i-in-loop-c
bounds-samples-i-in-loop-c c = omega (arith, c.requires.1)

pub overflow_add-i : goal.overflow_add-i
overflow_add-i c =
    omega (arith, (shape_is c.args.s c.args.mem.now c.requires.0).cells)

pub bounds-samples-i-in-loop-c-2 : goal.bounds-samples-i-in-loop-c-2
bounds-samples-i-in-loop-c-2 c =
    omega (arith, c.requires.1)

pub tick_at-held-requires : goal.tick_at-held-requires
tick_at-held-requires c =
    let a = c.args in
    may-tick a.s a.mem.now c.requires.0 a.samples.now c.loop-c.c c.loop-c.mem c.loop-c.invariant.0
    (omega arith) c.requires.2

pub overflow_add-held : goal.overflow_add-held
overflow_add-held c =
    let small = (shape_is c.args.s c.args.mem.now c.requires.0).cells in
    omega (arith, small, c.loop-c.invariant.2, one_at_most c.tick_at-held.ensures)

pub loop-c-preserved : goal.loop-c-preserved
loop-c-preserved c =
    let a = c.args in
    let k = c.loop-c.c in
    let ticked = rw (c.entry_of-x.ensures, c.entry_of-y.ensures) at c.tick_at-held.ensures in
    let inside : k < a.s.cells = omega arith in
    let words =
    has-ticked a.s a.mem.now c.requires.0 a.samples.now k c.loop-c.mem c.loop-c.invariant.0 inside _ _ ticked
    in
    let more =
    held_more a.s a.mem.now c.requires.0 a.samples.now k c.loop-c.mem c.loop-c.invariant.0 inside
    c.loop-c.held _ _ _ _ c.loop-c.invariant.1 ticked in
    rw (add-one k) (words, more, omega (arith, c.loop-c.invariant.2, one_at_most ticked))

pub shape_of-mem : goal.shape_of-mem
shape_of-mem c =
    size-kept c.args.s c.args.mem.now c.requires.0 c.args.samples.now c.loop-c.c c.loop-c.mem
    c.loop-c.invariant.0

pub returns : goal.returns
returns c =
    let a = c.args in
    let r = run_of a.s a.mem.now in
    let e : c.loop-c.c ≡ length r.units = omega (arith, units-length a.s a.mem.now c.requires.0) in
    let all = ticked-all a.s a.samples.now r.units in (
      c.loop-c.invariant.1 ∙ ap (held_off a.s) (take_all c.loop-c.c r.units (omega (arith, e))),
      lays-to c.loop-c.invariant.0 (rw e (ap (λ us. record { t = r.t; next = r.next; units = us }) all)),
    )

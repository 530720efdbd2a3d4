use Prim.Native.Nat.{◌+◌}
use mathlib.Core.Path.{◌≡◌, refl, sym, ap, ◌∙◌}
use mathlib.Core.Bool.{false}
use native.Mathlib.Omega.{arith}
use lib.ListN.{drop}
use Rattle.script_records.specs.declared.Next.{Next}
use Rattle.script_records.specs.declared.Record.{Record}
use Rattle.script_records.specs.declared.Next.TheVariants as next
use Rattle.script_bytes.specs.Bytes.{is_record}
use Rattle.script_bytes.proofs.HeadLaws.{wanted}
use Rattle.script.proofs.RunLaws.{
  Ran,
  at_first,
  room,
  moves,
  ends-mem,
  ends_at,
  ends-len,
  ends-lines,
  ends-few,
}
use Rattle.script.proofs.run_records.Goals as goal
use Rattle.script.proofs.run_records.Goals.{After-size_at}

-- behind `else` stand the end and a cut record
no_record : (n : Next) → ((r : Record) → n ≡ next.Record r → ⊥) → is_record n ≡ false
no_record (next.Record r) h = absurd (h r refl)
no_record next.End h = refl
no_record next.Cut h = refl

-- the bytes, the run and the lines behind a record
behind : (c : After-size_at)
    → let a = c.args in
    Ran a.b.now a.mem.now a.lines.now (c.loop-r.ran.at + c.size_at.result) c.run.new.mem
    c.run.new.lines c.run.result
behind c =
    let e = c.run.ensures in
    rw c.size_at.ensures
    (moves _ _ _ _ _ _ _ c.loop-r.invariant _ (sym c.next_at.ensures ∙ c.in-Record.is) e.leaves e.behind
    e.line e.few)

pub loop-r-init : goal.loop-r-init
loop-r-init c = at_first _ _ _

pub returns-in_default : goal.returns-in_default
returns-in_default c =
    let ran = c.loop-r.invariant in
    let none = ap is_record (sym c.next_at.ensures) ∙ no_record c.next_at.result c.in_default.not-Record in
    record {
      leaves = ends-mem _ _ _ _ _ _ _ ran none;
      stops = ends_at _ _ _ _ _ _ _ ran none;
      counts = ends-len _ _ _ _ _ _ _ ran none;
      prints = ends-lines _ _ _ _ _ _ _ ran none;
      few = ends-few _ _ _ _ _ _ _ ran none;
    }

pub run-requires : goal.run-requires
run-requires c =
    room _ _ _ _ _ _ _ c.loop-r.invariant _ (sym c.next_at.ensures ∙ c.in-Record.is) c.requires

pub overflow_add-ran : goal.overflow_add-ran
overflow_add-ran c = omega (arith, (behind (goal.at.overflow_add-ran c).After-size_at).inside)

pub loop-r-smaller : goal.loop-r-smaller
loop-r-smaller c =
    let b = c.args.b.now in
    omega (
      arith,
      (behind (goal.at.loop-r-smaller c).After-size_at).inside,
      c.size_at.ensures,
      (wanted (drop c.loop-r.ran.at b)).least,
    )

pub loop-r-preserved : goal.loop-r-preserved
loop-r-preserved c = behind (goal.at.loop-r-preserved c).After-size_at

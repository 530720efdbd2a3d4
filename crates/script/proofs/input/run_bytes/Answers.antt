-- The lines and the END line, where there is room; what is left of the bytes stands behind the place where the
-- records stopped.
use Prim.Native.Nat.{◌+◌, ◌*◌, ◌≤◌}
use mathlib.Core.Path.{◌≡◌, sym, ap, ◌∙◌}
use mathlib.Core.Bool.{true}
use native.Mathlib.Omega.{arith}
use lib.Dec.{leb}
use lib.ListN.{length, drop}
use borrow.Author.Tests.{leb-true}
use Rattle.std.specs.Prelude.{Ok, Err}
use Rattle.std.proofs.lemmas.Result.{err_from_is_err_and}
use Rattle.lta_spec.specs.Answer.{numbered_as}
use Rattle.lta_spec.specs.declared.Refusal.TheVariants.{ShortBuffer}
use Rattle.lta_spec.proofs.TestLaws.{pass}
use Rattle.script_bytes.specs.Bytes.{records_in}
use Rattle.script_bytes.proofs.ListLaws.{rest}
use Rattle.script_block.specs.Block.{end_number}
use Rattle.script_lines.specs.Lines.{end_line}
use Rattle.script.specs.Text.{text_room}
use Rattle.script.proofs.TextLaws.{end_short, short, length-inside, refused-inside, refused-text, accepted-text}
use Rattle.script.proofs.input.run_bytes.Goals as goal
use Rattle.script.proofs.input.run_bytes.Goals.{After-end_number-number, In_ok-unless}

-- the buffer has room
enough : (c : In_ok-unless) → leb (text_room (length c.args.b.now)) (length c.args.out.now) ≡ true
enough c = sym c.has_room.ensures ∙ (pass _ (Ok tt) ShortBuffer (sym c.unless.ensures ∙ c.in_ok-unless.was)).0

room : (c : In_ok-unless)
    → let a = c.args in
    24 * length a.b.now + 7 ≤ length a.out.now
room c =
    let a = c.args in
    leb-true (24 * length a.b.now + 7) (length a.out.now) (enough c)

-- the number behind END
ends : (c : After-end_number-number)
    → let b = c.args.b.now in
    c.end_number-number.result ≡ end_number (records_in b).left
ends c =
    let b = c.args.b.now in
    let left =
    c.tail.ensures ∙ (ap (λ k. drop k b) c.run_records-ran.ensures.stops ∙ sym (rest b).is) in
    c.end_number-number.ensures ∙ ap end_number left

-- the END line ends inside the buffer
inside : (c : After-end_number-number)
    → let a = c.args in
    24 * length a.b.now + 7 ≤ length a.out.now
    → c.run_records-ran.result.len + length (end_line c.end_number-number.result) ≤ length a.out.now
inside c room =
    omega (
      arith,
      room,
      c.run_records-ran.ensures.few,
      end_short (records_in c.args.b.now).left (ends c),
    )

pub run_records-ran-requires : goal.run_records-ran-requires
run_records-ran-requires c = omega (arith, room (goal.at.run_records-ran-requires c).In_ok-unless)

pub put_end-len-requires : goal.put_end-len-requires
put_end-len-requires c =
    let here = (goal.at.put_end-len-requires c).After-end_number-number in
    omega (arith, inside here (room (goal.at.put_end-len-requires c).In_ok-unless), c.run_records-ran.auto.lines)

pub returns-in_err-unless : goal.returns-in_err-unless
returns-in_err-unless c =
    let a = c.args in
    let test = short _ _ (sym c.unless.ensures ∙ c.in_err-unless.was) in
    let told = err_from_is_err_and c.from_residual.result c.from_residual.ensures.1 in
    let refused = told.1 ∙ ap Err (told.2 ∙ sym test.1) in
    let text = refused-text a.b.now a.out.now a.mem.now (sym c.has_room.ensures ∙ test.0) in
    record {
      answer = ap numbered_as refused ∙ text.0;
      text = text.1.0;
      leaves = text.1.1;
      inside = rw refused (refused-inside a.out.now);
    }

pub returns : goal.returns
returns c =
    let a = c.args in
    let e = c.run_records-ran.ensures in
    let end = c.put_end-len in
    let here = (goal.at.returns c).After-end_number-number in
    let ok = (goal.at.returns c).In_ok-unless in
    let text =
    accepted-text a.b.now a.out.now a.mem.now (enough ok) e.leaves e.counts e.prints (ends here)
    end.ensures.behind end.ensures.leaves in
    record {
      answer = text.0;
      text = text.1.0;
      leaves = text.1.1;
      inside = length-inside end.result a.out.now (omega (arith, inside here (room ok), end.ensures.behind));
    }

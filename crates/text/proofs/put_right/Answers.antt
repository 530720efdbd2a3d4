-- The digits at the end of the columns, and spaces in front of them.
use mathlib.Core.Path.{◌∙◌}
use native.Mathlib.Omega.{arith}
use Rattle.text.proofs.TextLaws.{part-filled, right-put}
use Rattle.text.proofs.put_right.Goals as goal

pub returns-clause-leaves : goal.returns-clause-leaves
returns-clause-leaves c =
    let a = c.args in
    let put = c.put_digits-start in
    let filled = part-filled put.new.out a.at put.result (omega (arith, put.ensures.starts, c.requires.0))
    (omega (arith, put.ensures.starts, put.auto.out, c.requires.1)) (c.fill.ensures.after (λ y same. same)) in
    filled ∙ rw put.ensures.leaves (right-put a.out.now a.at a.w a.n put.result put.ensures.starts c.requires.0)

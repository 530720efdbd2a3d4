-- One digit, or one more than the tenth part has.
use Prim.Native.Nat.{◌/◌}
use mathlib.Core.Path.{sym}
use native.Mathlib.Omega.{arith}
use Rattle.lta_spec.proofs.DecimalLaws.{few-digits}
use Rattle.text.proofs.TextLaws.{digits-one, digits-next}
use Rattle.text.proofs.+digits.Goals as goal

pub overflow_add-result : goal.overflow_add-result
overflow_add-result t c = omega (arith, c.digits.ensures, few-digits 18 (c.args.n / 10) (omega arith))

pub returns-then-n-lt10 : goal.returns-then-n-lt10
returns-then-n-lt10 t c = sym (digits-one c.args.n c.if-n-lt10.true)

pub returns-else-n-lt10 : goal.returns-else-n-lt10
returns-else-n-lt10 t c = omega (arith, c.digits.ensures, digits-next c.args.n c.if-n-lt10.false)

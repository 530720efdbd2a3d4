-- 41 × (6C + 1).
use native.Mathlib.Omega.{arith}
use Rattle.call_page.proofs.PageRunLaws.{page-bytes}
use Rattle.call_page.proofs.page_length.Goals as goal

pub returns : goal.returns
returns c = omega (arith, page-bytes c.args.cells)

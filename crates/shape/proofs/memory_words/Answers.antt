-- `shape::memory_words` meets its contract.
use Prim.Native.Nat.{◌+◌, ◌*◌, ◌≤◌}
use mathlib.Core.Path.{ap}
use native.Mathlib.Omega.{arith}
use Rattle.lta_spec.specs.Size.{memory_words}
use Rattle.lta_spec.proofs.ShapeLaws.{shaped, all_small}
use Rattle.shape.proofs.memory_words.Goals as goal
use Rattle.shape.proofs.memory_words.Goals.{After-cell_words}

-- the words of all cells
few : (c : After-cell_words) → let s = c.args.s in s.cells * c.cell_words.result ≤ 9600000
few c =
    let s = c.args.s in rw c.cell_words.ensures.0 (all_small s (shaped s c.requires))

pub cell_words-requires : goal.cell_words-requires
cell_words-requires c = let k = shaped c.args.s c.requires in (k.lags, k.bins)

pub overflow_mul-result : goal.overflow_mul-result
overflow_mul-result c = omega (arith, few (goal.at.overflow_mul-result c).After-cell_words)

pub overflow_add-result : goal.overflow_add-result
overflow_add-result c = omega (arith, few (goal.at.overflow_add-result c).After-cell_words)

pub returns : goal.returns
unfolding memory_words
returns c =
    let s = c.args.s in
    (ap (λ k. 2 + s.cells * k) c.cell_words.ensures.0, omega (arith, few (goal.at.returns c).After-cell_words))

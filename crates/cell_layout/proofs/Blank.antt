-- Values whose words are all zeros: a fresh run is one.
use mathlib.Core.Path.{◌≡◌, refl, ap, ◌∙◌}
use Prim.Native.Nat.{ℕ, zero, suc, ◌+◌, ◌*◌}
use native.Mathlib.Nat.{zero-mul, suc-mul}
use native.Mathlib.Omega.{arith}
use lib.ListN.{replicate}
use Rattle.lta_spec.specs.Words.{zeros}
use Rattle.lta_spec.specs.Size.{row_words, depth, memory_words}
use Rattle.lta_spec.specs.Place.{loss_count}
use Rattle.lta_spec.specs.Layout.{Layout, word, block, pair, many, fields, put_all}
use Rattle.lta_spec.specs.Memory.{bin_layout, unit_layout, run_layout, start}
use Rattle.lta_spec.specs.Engine.{free_bin, fresh_unit}
use Rattle.lta_spec.specs.declared.Shape.{Shape}
use Rattle.lta_spec.proofs.WordLaws.{zeros-add}
use Rattle.lta_spec.proofs.MemoryLaws.{run-width}

-- a value whose words are zeros
abbrev Blank : {A : Type 0} → Layout A → A → Type 0
Blank a v = a.put v ≡ zeros a.width

blank-word : Blank word 0
unfolding word
blank-word = refl

blank-block : (n : ℕ) → Blank (block n) (zeros n)
unfolding block
blank-block n = refl

module _ {A B : Type 0} (a : Layout A) (b : Layout B) where
  blank-pair : {x : A} {y : B} → Blank a x → Blank b y → Blank (pair a b) (x, y)
  unfolding pair
  blank-pair p q = rw (p, q) (zeros-add a.width b.width)

module _ {A : Type 0} (a : Layout A) {x : A} (p : Blank a x) where
  blank-many : (n : ℕ) → Blank (many n a) (replicate n x)
  unfolding many
  blank-many zero = rw zero-mul
  blank-many (suc n) =
      let q : put_all a (replicate n x) ≡ zeros (n * a.width) = blank-many n in
      let e : a.width + n * a.width ≡ n * a.width + a.width = omega arith in
      rw (p, q, suc-mul) (zeros-add a.width (n * a.width) ∙ ap zeros e)

blank-bin : (n : ℕ) → Blank (bin_layout n) (free_bin n)
unfolding bin_layout fields
blank-bin n = blank-pair _ _ blank-word (blank-pair _ _ blank-word (blank-block _))

blank-unit : (n bins : ℕ) → Blank (unit_layout n bins) (fresh_unit n bins)
unfolding unit_layout fields
blank-unit n bins =
    let w = blank-word in
    let row = blank-block (row_words n) in
    let regs = blank-block (depth n) in
    let bins = blank-many (bin_layout n) (blank-bin n) (2 * bins) in
    let losses = blank-many (block (row_words n)) row loss_count in
    let rows = blank-pair _ _ row
    (blank-pair _ _ row (blank-pair _ _ losses (blank-pair _ _ regs (blank-pair _ _ regs bins)))) in
    let picks = blank-pair _ _ w (blank-pair _ _ w rows) in
    let counter = blank-pair _ _ w (blank-pair _ _ w picks) in
    let times = blank-pair _ _ w (blank-pair _ _ w counter) in
    blank-pair _ _ w (blank-pair _ _ w (blank-pair _ _ w (blank-pair _ _ w times)))

blank-run : (sh : Shape) → Blank (run_layout sh) (start sh)
unfolding run_layout fields
blank-run sh =
    let cells = blank-many (unit_layout sh.lags sh.bins) (blank-unit sh.lags sh.bins) sh.cells in
    blank-pair _ _ blank-word (blank-pair _ _ cells blank-word)

-- "Setup clears the memory and gives a fresh run"
pub start-blank : (sh : Shape) → (run_layout sh).put (start sh) ≡ zeros (memory_words sh)
start-blank sh = blank-run sh ∙ ap zeros (run-width sh)

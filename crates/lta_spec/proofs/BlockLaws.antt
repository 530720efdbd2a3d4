-- The block counter: the engine's step is the machine's, and the block stays one of S to S + M - 1.
use Prim.Native.Nat.{ℕ, zero, suc, ◌+◌, ◌*◌, ◌-◌, ◌≤◌, ◌<◌}
use mathlib.Core.Path.{◌≡◌, refl, sym, ap, ◌∙◌, subst}
use mathlib.Core.Bool.{Bool, true, false, cond, ◌&&◌, ◌||◌}
use native.Mathlib.Nat.{suc-mul}
use native.Mathlib.Omega.{arith}
use lib.Dec.{leb, ltb, eqb}
use borrow.Author.Tests.{leb-true, ltb-true, eqb-true, eqb-false, ne_eqb, lt-ltb, le-ltb, le-leb, lt-leb}
use Rattle.lta_spec.specs.Call.{save, add, last, speed, discard, idle, command_ok, phase_ok}
use Rattle.lta_spec.specs.Machine as M
use Rattle.lta_spec.specs.Machine.{Latest}
use Rattle.lta_spec.specs.Machine.Latest.{none, was}
use Rattle.lta_spec.specs.Engine as E
use Rattle.lta_spec.specs.Damage as D
use Rattle.lta_spec.specs.Demand.{last_of}
use Rattle.lta_spec.specs.declared.Shape.{Shape}
use Rattle.lta_spec.proofs.TestLaws.{and_both}

-- what the engine stores of the machine's counter
abbrev code_of : Latest → ℕ
code_of none = 0
code_of (was command) = suc command

abbrev pub stored : (start : ℕ) → M.Counter → E.Counter
stored start k = record { offset = k.block - start; last_code = code_of k.last_command }

pub last_stored : (l : Latest) → last_of (code_of l) ≡ l
last_stored none = refl
last_stored (was command) = refl

abbrev known : (code : ℕ) → Bool
known code = leb code (suc last) || eqb code (suc discard)

-- what holds of a counter in a run
pub record CounterSound (start blocks : ℕ) (k : M.Counter) : Type 0 where
  pub low : start ≤ k.block
  pub high : k.block < start + blocks
  pub command : known (code_of k.last_command) ≡ true

-- 000 and 001 by their codes
save-or-add : (c : ℕ) → eqb c save || eqb c add ≡ leb (suc c) 2
save-or-add zero = refl
save-or-add (suc zero) = refl
save-or-add (suc (suc c)) =
    rw (
      ne_eqb (suc (suc c)) save (λ e. omega arith),
      ne_eqb (suc (suc c)) add (λ e. omega arith),
      lt-leb (suc (suc (suc c))) 2 (omega arith),
    )

returns-same : (command : ℕ) (l : Latest) → M.returns command l ≡ E.resets command (code_of l)
unfolding M.returns E.resets
returns-same command none = refl
returns-same command (was c) =
    rw (ne_eqb (suc c) 0 (λ e. omega arith))
    (ap (λ b. eqb command discard || (eqb command last && b)) (save-or-add c))

-- the commands whose label Held gets
pub command-kept : (c : ℕ) → command_ok c ≡ true → eqb c speed ≡ false → eqb c idle ≡ false → eqb c discard ≡ false
    → c ≤ last
unfolding command_ok
command-kept c ok s p q = by-test (leb c discard) refl (rw p at ok)
  where
    by-test : (b : Bool) → leb c discard ≡ b → b || false ≡ true → c ≤ last
    by-test true e h =
        let low : c ≤ discard = leb-true c discard e in
        let other : c ≡ discard → ⊥ = eqb-false c discard q in
        let slow : c ≡ speed → ⊥ = eqb-false c speed s in
        omega arith
    by-test false e h = let z : ◌≡◌ {A = ℕ} 0 1 = cc in absurd (omega arith)

-- what an accepted command but 111 counts as is known as a last command
command-known : (c : ℕ) → command_ok c ≡ true → eqb (M.counts_as c) idle ≡ false → known (suc (M.counts_as c)) ≡ true
unfolding M.counts_as
command-known c ok = by-test (eqb c speed) (eqb c discard) refl refl
  where
    by-test : (a d : Bool) → eqb c speed ≡ a → eqb c discard ≡ d → eqb (cond a add c) idle ≡ false
        → known (suc (cond a add c)) ≡ true
    by-test true d p r i = refl
    by-test false true p r i = ap (λ x. known (suc x)) (eqb-true c discard r)
    by-test false false p r i = rw (le-leb (suc c) (suc last) (omega (arith, command-kept c ok p i r)))

module _ (start blocks : ℕ) (k : M.Counter) (s : CounterSound start blocks k) where
  -- one on
  on_same : M.one_on start blocks k.block - start
      ≡ cond (ltb (suc (k.block - start)) blocks) (suc (k.block - start)) 0
  unfolding M.one_on
  on_same = by-test (eqb k.block (start + blocks - 1)) refl
    where
      by-test : (b : Bool) → eqb k.block (start + blocks - 1) ≡ b
          → cond b start (suc k.block) - start
          ≡ cond (ltb (suc (k.block - start)) blocks) (suc (k.block - start)) 0
      by-test true e =
          let at : k.block ≡ start + blocks - 1 = eqb-true _ _ e in
          rw (le-ltb (suc (k.block - start)) blocks (omega (arith, s.low, s.high))) (omega arith)
      by-test false e =
          let off : k.block ≡ start + blocks - 1 → ⊥ = eqb-false _ _ e in
          rw (lt-ltb (suc (k.block - start)) blocks (omega (arith, s.low, s.high))) (omega (arith, s.low))

  on-sound : (start ≤ M.one_on start blocks k.block) × (M.one_on start blocks k.block < start + blocks)
  unfolding M.one_on
  on-sound = by-test (eqb k.block (start + blocks - 1)) refl
    where
      by-test : (b : Bool) → eqb k.block (start + blocks - 1) ≡ b
          → (start ≤ cond b start (suc k.block)) × (cond b start (suc k.block) < start + blocks)
      by-test true e = (omega arith, omega (arith, s.low, s.high))
      by-test false e =
          let off : k.block ≡ start + blocks - 1 → ⊥ = eqb-false _ _ e in
          (omega (arith, s.low), omega (arith, s.high))

  -- the step of a dump with a command other than 011
  plain-same : (command : ℕ) → eqb command speed ≡ false
      → stored start (M.counted start blocks command k) ≡ E.counted blocks command (stored start k)
  unfolding M.counted E.counted E.offset_after E.kept_as
  plain-same command plain =
      rw (plain, ← on_same, ← returns-same command k.last_command)
      (by-test (eqb command idle) (M.returns command k.last_command))
    where
      by-test : (i r : Bool)
          → stored start
          (cond i k
          (record { block = cond r start (M.one_on start blocks k.block); last_command = was command }))
          ≡ cond i (stored start k)
          (record { offset = cond r 0 (M.one_on start blocks k.block - start); last_code = suc command })
      by-test true r = refl
      by-test false true = ap (λ o. record { offset = o; last_code = suc command }) (omega arith)
      by-test false false = refl

  as-add : E.counted blocks add (stored start k) ≡ E.counted blocks speed (stored start k)
  unfolding E.counted E.offset_after E.resets E.kept_as
  as-add = refl

  -- the step of a dump: 011 as 001
  pub counted_same : (command : ℕ)
      → stored start (M.counted start blocks (M.counts_as command) k) ≡ E.counted blocks command (stored start k)
  unfolding M.counts_as
  counted_same command = by-test (eqb command speed) refl
    where
      by-test : (b : Bool) → eqb command speed ≡ b
          → stored start (M.counted start blocks (cond b add command) k) ≡ E.counted blocks command (stored start k)
      by-test true e =
          plain-same add refl
          ∙ subst (λ c. E.counted blocks add (stored start k) ≡ E.counted blocks c (stored start k))
          (sym (eqb-true command speed e)) as-add
      by-test false e = plain-same command e

  plain-sound : (command : ℕ) → (eqb command idle ≡ false → known (suc command) ≡ true)
      → CounterSound start blocks (M.counted start blocks command k)
  unfolding M.counted
  plain-sound command code = by-test (eqb command idle) (M.returns command k.last_command) refl
    where
      by-test : (i r : Bool) → eqb command idle ≡ i
          → CounterSound start blocks
          (cond i k
          (record { block = cond r start (M.one_on start blocks k.block); last_command = was command }))
      by-test true r e = s
      by-test false true e = record { low = omega arith; high = omega (arith, s.low, s.high); command = code e }
      by-test false false e = record { low = on-sound.0; high = on-sound.1; command = code e }

  pub counted-sound : (command : ℕ) → command_ok command ≡ true
      → CounterSound start blocks (M.counted start blocks (M.counts_as command) k)
  counted-sound command ok = plain-sound (M.counts_as command) (command-known command ok)

  pub counter-ok : D.counter_ok blocks (stored start k) ≡ true
  unfolding D.counter_ok
  counter-ok = rw (lt-ltb (k.block - start) blocks (omega (arith, s.low, s.high)), s.command)

-- the offset that a dump labels with is one of as many as there are blocks
pub offset-below : (blocks command : ℕ) (k : E.Counter) → D.counter_ok blocks k ≡ true
    → (E.counted blocks command k).offset < blocks
unfolding D.counter_ok E.counted E.offset_after
offset-below blocks command k ok =
    let at : k.offset < blocks = ltb-true _ _ (and_both (ltb k.offset blocks) _ ok).0 in
    by-test (eqb command idle) (E.resets command k.last_code) (ltb (suc k.offset) blocks) refl at
  where
    by-test : (i r b : Bool) → ltb (suc k.offset) blocks ≡ b → k.offset < blocks
        → let next = cond r 0 (cond b (suc k.offset) 0) in
        (cond i k (record { offset = next; last_code = suc (E.kept_as command) })).offset < blocks
    by-test true r b e h = h
    by-test false true b e h = omega arith
    by-test false false true e h = ltb-true (suc k.offset) blocks e
    by-test false false false e h = omega arith

-- so its data bin is one of the bank's
pub phase-below : (sh : Shape) (phase offset : ℕ) → phase_ok sh phase ≡ true → offset < sh.blocks
    → phase * sh.blocks + offset < sh.bins
unfolding phase_ok
phase-below sh phase offset ok h =
    omega (arith, suc-mul phase sh.blocks, leb-true (suc phase * sh.blocks) sh.bins ok)

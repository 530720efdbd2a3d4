-- A run of the records of one block after another.
use Prim.Native.Nat.{ℕ}
use mathlib.Core.Path.{◌≡◌, refl, sym, ap, ◌∙◌}
use mathlib.Core.List.{List, [], ◌∷◌, ◌++◌}
use native.Mathlib.Omega.{arith}
use lib.ListN.{take, drop, take-append-drop}
use lib.Seq.{take-take}
use Rattle.lta_spec.specs.Demand.{engine_mem}
use Rattle.lta_spec.specs.Edges.{script_shape}
use Rattle.script_records.specs.declared.Record.{Record}
use Rattle.script_bytes.specs.Bytes.{records_in, records_within}
use Rattle.script_bytes.proofs.Blocks.{in_blocks}
use Rattle.script_block.specs.Block.{Filled, Left}
use Rattle.script.specs.Run.{listed, script_leaves}
use Rattle.script.specs.Input.{ReadOn}

-- records behind records: the memory that the first leave is what the others find
engine-behind : (rs ss : List Record) (mem : List ℕ)
    → engine_mem script_shape (listed (rs ++ ss)) mem
    ≡ engine_mem script_shape (listed ss) (engine_mem script_shape (listed rs) mem)
unfolding engine_mem
engine-behind [] ss mem = refl
engine-behind (r ∷ rs) ss mem = engine-behind rs ss _

pub leaves-joined : (a b mem : List ℕ)
    → script_leaves (a ++ b) mem ≡ script_leaves ((records_in a).left ++ b) (script_leaves a mem)
unfolding script_leaves
leaves-joined a b mem =
    rw (in_blocks.joins a b) (engine-behind (records_in a).list (records_in ((records_in a).left ++ b)).list mem)

pub nothing_read : (mem block : List ℕ) → ReadOn mem mem 0 block
unfolding script_leaves engine_mem records_in records_within
nothing_read mem block = record { input = []; leaves = refl; left = record { inside = omega arith; is = refl } }

module _ (before mem block : List ℕ) (kept n : ℕ) (filled : List ℕ) (read : ReadOn before mem kept block)
    (more : Filled kept block n filled) where
  -- no byte came
  pub none_came : ReadOn before mem kept filled
  none_came =
      record {
        input = read.input;
        leaves = read.leaves;
        left = record { inside = omega (arith, more.more, more.inside); is = more.same ∙ read.left.is };
      }

  -- the records of what was kept and what came: those of all that was read
  pub block_read : (after moved : List ℕ) (left : ℕ) → after ≡ script_leaves (take n filled) mem
      → Left (take n filled) left moved → ReadOn before after left moved
  block_read after moved left run rest =
      let came = drop kept (take n filled) in
      let old = read.input in
      let front : take kept (take n filled) ≡ (records_in old).left =
      take-take kept n filled more.more ∙ (more.same ∙ read.left.is) in
      let split : take n filled ≡ (records_in old).left ++ came =
      sym (take-append-drop kept (take n filled)) ∙ ap (λ l. l ++ came) front in
      record {
        input = old ++ came;
        leaves =
            run
            ∙ (ap (λ l. script_leaves l mem) split
            ∙ (ap (script_leaves ((records_in old).left ++ came)) read.leaves
            ∙ sym (leaves-joined old came before)));
        left =
            record {
              inside = rest.inside;
              is =
                  rest.is
                  ∙ (ap (λ l. (records_in l).left) split ∙ sym (ap (λ r. r.left) (in_blocks.joins old came)));
            };
      }

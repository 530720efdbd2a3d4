-- A run of records, one after the other: what the rest leaves and prints is what all of them leave and print.
use Prim.Native.Nat.{ℕ, ◌+◌, ◌*◌, ◌≤◌}
use mathlib.Core.Path.{◌≡◌, refl, sym, ap, ◌∙◌}
use mathlib.Core.Bool.{false}
use mathlib.Core.List.{List, [], ◌++◌, append_assoc, append-nil}
use native.Mathlib.Omega.{arith}
use lib.ListN.{length, drop, length-append, length-drop}
use lib.Seq.{drop-drop}
use Rattle.lta_spec.specs.Words.{splice}
use Rattle.lta_spec.specs.Demand.{engine_mem, engine_returns}
use Rattle.lta_spec.proofs.WordLaws.{length-splice, splice-nil, splice-behind}
use Rattle.script_records.specs.declared.Record.{Record}
use Rattle.script_records.specs.declared.Next.TheVariants as next
use Rattle.script_bytes.specs.Bytes.{size_in, next_in, next_at, is_record, records_in, stops_at}
use Rattle.script_bytes.proofs.HeadLaws.{whole}
use Rattle.script_bytes.proofs.ListLaws.{first, no_more}
use Rattle.script_calls.specs.Calls.{step_of}
use Rattle.script_lines.specs.Lines.{line, most_bytes}
use Rattle.script_lines.proofs.LengthLaws.{line-room}
use Rattle.script.specs.Run.{blank, script_leaves}
use Rattle.script.specs.Text.{record_line, script_lines}

-- the bytes from `at` on are still to be run; the lines of those before them were put
pub record Ran (b mem₀ lines₀ : List ℕ) (at : ℕ) (mem lines : List ℕ) (len : ℕ) : Type 0 where
  pub inside : at ≤ length b
  pub leaves : script_leaves (drop at b) mem ≡ script_leaves b mem₀
  pub left : (records_in (drop at b)).left ≡ (records_in b).left
  pub printed : List ℕ
  pub prints : printed ++ script_lines (drop at b) mem ≡ script_lines b mem₀
  pub is : lines ≡ splice lines₀ 0 printed
  pub counts : len ≡ length printed
  pub few : len ≤ 24 * at

pub at_first : (b mem lines : List ℕ) → Ran b mem lines 0 mem lines 0
at_first b mem lines =
    record {
      inside = omega arith;
      leaves = refl;
      left = refl;
      printed = [];
      prints = refl;
      is = sym (splice-nil lines 0);
      counts = refl;
      few = omega arith;
    }

-- a record at the head, or none
module _ (b mem : List ℕ) where
  module _ (r : Record) (e : next_in b ≡ next.Record r) where
    first-leaves : script_leaves (drop (size_in b) b) (step_of r blank mem).mem ≡ script_leaves b mem
    unfolding script_leaves engine_mem
    first-leaves = rw (first b r e) refl

    first-left : (records_in (drop (size_in b) b)).left ≡ (records_in b).left
    first-left = rw (first b r e) refl

    first-prints : record_line r mem ++ script_lines (drop (size_in b) b) (step_of r blank mem).mem ≡ script_lines b mem
    unfolding script_lines engine_returns
    first-prints = rw (first b r e) refl

  module _ (h : is_record (next_in b) ≡ false) where
    none-leaves : script_leaves b mem ≡ mem
    unfolding script_leaves engine_mem
    none-leaves = rw (no_more b h) refl

    none-prints : script_lines b mem ≡ []
    unfolding script_lines
    none-prints = rw (no_more b h) refl

module _ (b mem₀ lines₀ : List ℕ) (at : ℕ) (mem lines : List ℕ) (len : ℕ) (ran : Ran b mem₀ lines₀ at mem lines len)
  where
    -- a record stands next
    module _ (r : Record) (e : next_at b at ≡ next.Record r) where
      here-inside : at + size_in (drop at b) ≤ length b
      here-inside = omega (arith, ran.inside, length-drop at b, whole (drop at b) (ap is_record e))

      -- room for its line
      pub room : 24 * length b ≤ length lines₀ → len + most_bytes r ≤ length lines
      room h =
          omega (
            arith,
            here-inside,
            line-room (drop at b) r e,
            ran.few,
            ap length ran.is,
            length-splice lines₀ 0 ran.printed,
          )

      -- behind it
      pub moves : {mem' lines' : List ℕ} {len' : ℕ} → mem' ≡ (step_of r blank mem).mem
          → len' ≡ len + length (record_line r mem) → lines' ≡ splice lines len (record_line r mem)
          → len' ≤ len + most_bytes r → Ran b mem₀ lines₀ (at + size_in (drop at b)) mem' lines' len'
      moves m n l few =
          let here = drop at b in
          let rest = drop-drop (size_in here) at b in
          let new = record_line r mem in
          record {
            inside = here-inside;
            leaves = rw (m, ← rest) (first-leaves here mem r e ∙ ran.leaves);
            left = rw (← rest) (first-left here mem r e ∙ ran.left);
            printed = ran.printed ++ new;
            prints =
                rw (m, ← rest)
                (append_assoc ran.printed new _
                ∙ (ap (λ l. ran.printed ++ l) (first-prints here mem r e) ∙ ran.prints));
            is = splice-behind lines₀ 0 ran.printed new ran.is (omega (arith, ran.counts)) l;
            counts = omega (arith, n, ran.counts, length-append ran.printed new);
            few = omega (arith, few, ran.few, line-room here r e);
          }

    -- where no record stands
    module _ (h : is_record (next_at b at) ≡ false) where
      pub ends-mem : mem ≡ script_leaves b mem₀
      ends-mem = sym (none-leaves (drop at b) mem h) ∙ ran.leaves

      pub ends_at : at ≡ stops_at b
      ends_at =
          let here = drop at b in
          let all : length here ≡ length (records_in b).left =
          ap length (sym (ap (λ x. x.left) (no_more here h)) ∙ ran.left) in
          omega (arith, ran.inside, length-drop at b)

      all-printed : ran.printed ≡ script_lines b mem₀
      all-printed =
          sym (append-nil ran.printed)
          ∙ (ap (λ l. ran.printed ++ l) (sym (none-prints (drop at b) mem h)) ∙ ran.prints)

      pub ends-len : len ≡ length (script_lines b mem₀)
      ends-len = ran.counts ∙ ap length all-printed

      pub ends-lines : lines ≡ splice lines₀ 0 (script_lines b mem₀)
      ends-lines = ran.is ∙ ap (splice lines₀ 0) all-printed

      pub ends-few : len ≤ 24 * length b
      ends-few = omega (arith, ran.few, ran.inside)

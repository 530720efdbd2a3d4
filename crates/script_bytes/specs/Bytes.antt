-- What stands at the head of some bytes, and the records that they hold. A cut record and an unknown mark are 17; where
-- nothing is left, the script ends.
use Rattle.std.specs.Prelude.{ℕ, zero, suc, ◌-◌, Bool, true, false, cond, ◌&&◌, eqb, leb, ltb}
use Rattle.std.specs.Prelude.{List, [], ◌∷◌, ◌++◌, length, drop, Option, None}
use Rattle.std.specs.Result.{result_ok}
use Rattle.script_records.specs.Records.{kind_of, record_size, two_at, marked_in}
use Rattle.script_records.specs.declared.Kind.{Kind}
use Rattle.script_records.specs.declared.Record.{Record}
use Rattle.script_records.specs.declared.Next.{Next}
use Rattle.script_records.specs.declared.Next.TheVariants as next

-- the kind of the record whose letters stand at the head of some bytes
unfoldable pub kind_in : List ℕ → Option Kind
kind_in b = cond (ltb (length b) 2) None (result_ok (kind_of (two_at b 0)))

-- how many bytes the head of some bytes wants: two letters, and then as many as they say
unfoldable pub size_in : List ℕ → ℕ
size_in b = cond (ltb (length b) 2) 2 (record_size (two_at b 0))

-- what stands at the head of some bytes: nothing, a record that the bytes end in, or what its letters say
unfoldable pub next_in : List ℕ → Next
next_in b = cond (eqb (length b) 0) next.End (cond (ltb (length b) (size_in b)) next.Cut (marked_in (two_at b 0) b))

-- what stands at a position
abbrev pub next_at : List ℕ → (at : ℕ) → Next
next_at b at = next_in (drop at b)

abbrev pub is_record : Next → Bool
is_record (next.Record r) = true
is_record next.End = false
is_record next.Cut = false

-- two letters that are no record's
abbrev pub unknown_mark : List ℕ → Bool
unknown_mark b = leb 2 (length b) && eqb (size_in b) 2

-- the records at the head of some bytes, and the bytes that are left where no whole record stands any more
pub record Records : Type 0 where
  pub list : List Record
  pub left : List ℕ

abbrev pub none : List ℕ → Records
none b = record { list = []; left = b }

-- records behind others
abbrev pub behind : List Record → Records → Records
behind rs further = record { list = rs ++ further.list; left = further.left }

-- a record and what stands behind it, or nothing more
abbrev pub goes_on : Next → (here further : Records) → Records
goes_on (next.Record r) here further = behind (r ∷ []) further
goes_on next.End here further = here
goes_on next.Cut here further = here

-- at most so many records; bytes hold fewer records than bytes
unfoldable pub records_within : (most : ℕ) → List ℕ → Records
records_within zero b = none b
records_within (suc most) b = goes_on (next_in b) (none b) (records_within most (drop (size_in b) b))

unfoldable pub records_in : List ℕ → Records
records_in b = records_within (length b) b

-- the position behind the last whole record
abbrev pub stops_at : (bytes : List ℕ) → ℕ
stops_at bytes = length bytes - length (records_in bytes).left

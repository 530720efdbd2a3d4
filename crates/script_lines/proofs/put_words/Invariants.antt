-- The first i words were put.
use Rattle.lta_spec.specs.Bytes.{words_of}
use Rattle.script_lines.proofs.PutLaws.{Put}
use Rattle.script_lines.proofs.FieldLaws.{words}
use Rattle.script_lines.proofs.put_words.Given as goal

abbrev pub invariant-loop-i : goal.invariant-loop-i
invariant-loop-i l = Put l.initial.lines l.at (words l.printed (words_of l.body) l.k l.i) l.end l.lines

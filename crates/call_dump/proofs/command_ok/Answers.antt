-- `call_dump::command_ok` meets its contract.
use mathlib.Core.Path.{refl}
use Rattle.lta_spec.specs.Call.{command_ok}
use Rattle.call_dump.proofs.command_ok.Goals as goal

pub returns : goal.returns
unfolding command_ok
returns c = refl

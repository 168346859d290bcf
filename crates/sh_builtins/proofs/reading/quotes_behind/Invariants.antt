use Rattle.std.proofs.Common.{◌≡◌, drop, false}
use Rattle.sh_builtins.specs.Lines.{quotes_behind}
use Rattle.sh_builtins.proofs.reading.quotes_behind.Given as goal

abbrev pub invariant-loop-b : goal.invariant-loop-b
invariant-loop-b l = quotes_behind l.quoted (drop l.b-index l.text) ≡ quotes_behind false l.text

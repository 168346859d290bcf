use Rattle.std.proofs.Common.{◌≡◌, ◌+◌, drop}
use Rattle.std.specs.List.{prefix_len}
use Rattle.sh_meaning.specs.builtins.Export.{is_before_equals}
use Rattle.sh_builtins.proofs.operands.equals_at.Given as goal

abbrev pub invariant-loop-at : goal.invariant-loop-at
invariant-loop-at l = l.at + prefix_len is_before_equals (drop l.at l.operand) ≡ prefix_len is_before_equals l.operand

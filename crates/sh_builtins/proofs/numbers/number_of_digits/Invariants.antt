use Rattle.std.proofs.Common.{◌≡◌, drop, Some, ◌≤◌}
use Rattle.arith64.specs.Digits.{number_after}
use Rattle.sh_builtins.proofs.numbers.number_of_digits.Given as goal

abbrev pub invariant-loop-byte : goal.invariant-loop-byte
invariant-loop-byte l = (number_after l.most 10 (Some l.number) (drop l.byte-index l.digits) ≡ number_after l.most 10 (Some 0) l.digits) × (l.number ≤ l.most)

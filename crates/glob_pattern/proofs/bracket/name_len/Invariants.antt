use Rattle.std.proofs.Common.{◌≡◌, ◌+◌, drop}
use Rattle.std.specs.List.{prefix_len}
use Rattle.glob_pattern.specs.Brackets.{is_in_name}
use Rattle.glob_pattern.proofs.bracket.name_len.Given as goal

abbrev pub invariant-loop-i : goal.invariant-loop-i
invariant-loop-i l = l.i + prefix_len is_in_name (drop l.i l.signs) ≡ prefix_len is_in_name l.signs

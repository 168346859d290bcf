use Rattle.std.proofs.Common.{◌≡◌, ◌+◌, drop}
use Rattle.shell_world.specs.Lines.{line_len}
use Rattle.shell_world.proofs.lines.line_len.Given as goal

abbrev pub invariant-loop-at : goal.invariant-loop-at
invariant-loop-at l = l.at + line_len (drop l.at l.text) ≡ line_len l.text

use Rattle.std.proofs.Common.{◌≡◌, ◌-◌, ◌≤◌, length, drop}
use Rattle.glob_pattern.specs.Brackets.{plus, close_len}
use Rattle.glob_pattern.proofs.bracket.close_len.Given as goal

abbrev pub invariant-elements : goal.invariant-elements
invariant-elements l = (l.n ≤ length l.signs) × (plus l.n (close_len 0 (drop l.n l.signs)) ≡ close_len l.first l.signs)

abbrev pub decreases-elements : goal.decreases-elements
decreases-elements l = length l.signs - l.n

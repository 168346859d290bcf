use Rattle.std.proofs.Common.{◌≡◌, ℕ, ◌<◌, false}
use Rattle.glob_pattern.specs.Lengths.{end_matches}
use Rattle.glob_pattern.proofs.lengths.shortest_end.Given as goal

abbrev pub invariant-loop-n : goal.invariant-loop-n
invariant-loop-n l = (k : ℕ) → k < l.n → end_matches l.pieces l.text k ≡ false

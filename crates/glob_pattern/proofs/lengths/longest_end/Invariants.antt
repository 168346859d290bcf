use Rattle.std.proofs.Common.{◌≡◌, ℕ, ◌<◌, ◌≤◌, false, length}
use Rattle.glob_pattern.specs.Lengths.{end_matches}
use Rattle.glob_pattern.proofs.lengths.longest_end.Given as goal

abbrev pub invariant-ends : goal.invariant-ends
invariant-ends l = (l.n ≤ length l.text) × ((k : ℕ) → l.n < k → k ≤ length l.text → end_matches l.pieces l.text k ≡ false)

abbrev pub decreases-ends : goal.decreases-ends
decreases-ends l = l.n

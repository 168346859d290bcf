use Rattle.std.proofs.Common.{◌≡◌, ℕ, ◌<◌, ◌≤◌, false, length}
use Rattle.glob_pattern.specs.Lengths.{front_matches}
use Rattle.glob_pattern.proofs.lengths.longest_front.Given as goal

abbrev pub invariant-fronts : goal.invariant-fronts
invariant-fronts l = (l.n ≤ length l.text) × ((k : ℕ) → l.n < k → k ≤ length l.text → front_matches l.pieces l.text k ≡ false)

abbrev pub decreases-fronts : goal.decreases-fronts
decreases-fronts l = l.n

use Rattle.std.proofs.Common.{◌≡◌, ℕ, ◌<◌, get_or, true}
use Rattle.span_text.specs.Classes.{holds}
use Rattle.span_text.proofs.scan.run_len.Given as goal

abbrev pub invariant-loop-i : goal.invariant-loop-i
invariant-loop-i l = (k : ℕ) → k < l.i → holds l.class (get_or l.bytes k 0) ≡ true

use Rattle.std.proofs.Common.{◌≡◌, length, false}
use Rattle.bash_grammar.specs.Bytes.{counted_from, is_literal, opening, closing}
use Rattle.bash_tokens.specs.Kinds.{context, spot}
use Rattle.bash_tokens.specs.Runs.{counted_to, counted_run}
use Rattle.bash_tokens.proofs.runs.counted_at.Given as goal

abbrev pub invariant-run : goal.invariant-run
invariant-run l = counted_to l.text.items (counted_from (opening (spot l.place.spot)) (closing (spot l.place.spot)) (is_literal (context l.place)) l.level l.end false l.rest) ≡ counted_run (context l.place) l.opened l.bytes

abbrev pub decreases-run : goal.decreases-run
decreases-run l = length l.rest

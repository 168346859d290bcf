use Rattle.std.proofs.Common.{◌≡◌, length, false}
use Rattle.bash_grammar.specs.Bytes.{run_from}
use Rattle.bash_tokens.specs.Runs.{goes_on, joined_to}
use Rattle.bash_tokens.proofs.runs.run_at.Given as goal

abbrev pub invariant-run : goal.invariant-run
invariant-run l = joined_to l.text.items (run_from (goes_on l.run) l.end false l.rest) ≡ run_from (goes_on l.run) l.bytes false l.bytes

abbrev pub decreases-run : goal.decreases-run
decreases-run l = length l.rest

use Rattle.std.proofs.Common.{◌≡◌, length, false}
use Rattle.bash_grammar.specs.Bytes.{run_from}
use Rattle.bash_tokens.specs.Runs.{goes_on}
use Rattle.bash_tokens.proofs.runs.run_end.Given as goal

abbrev pub invariant-run : goal.invariant-run
invariant-run l = (run_from (goes_on l.run) l.end false l.rest).1 ≡ (run_from (goes_on l.run) l.bytes false l.bytes).1

abbrev pub decreases-run : goal.decreases-run
decreases-run l = length l.rest

use Rattle.std.proofs.Common.{◌≡◌, length, false, ◌++◌}
use Rattle.sh_grammar.specs.Bytes as bytes_of
use Rattle.sh_parser.specs.Kinds as kinds
use Rattle.sh_parser.proofs.runs.run_of.Given as goal

abbrev pub invariant-run : goal.invariant-run
invariant-run l =
    (l.text.items ++ (bytes_of.run_from (kinds.goes_on l.run) false l.rest).0 ≡ (bytes_of.run_from (kinds.goes_on l.run) false l.bytes).0)
    × ((bytes_of.run_from (kinds.goes_on l.run) false l.rest).1 ≡ (bytes_of.run_from (kinds.goes_on l.run) false l.bytes).1)

abbrev pub decreases-run : goal.decreases-run
decreases-run l = length l.rest

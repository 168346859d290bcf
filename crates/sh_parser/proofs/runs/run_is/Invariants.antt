use Rattle.std.proofs.Common.{◌≡◌, length, false}
use Rattle.sh_grammar.specs.Bytes as bytes_of
use Rattle.sh_parser.specs.Kinds as kinds
use Rattle.span_text.specs.KnownNames.{same_text}
use Rattle.sh_parser.proofs.runs.run_is.Given as goal

abbrev pub invariant-run : goal.invariant-run
invariant-run l = same_text (bytes_of.run_from (kinds.goes_on l.run) false l.rest).0 l.wanted ≡ same_text (bytes_of.run_from (kinds.goes_on l.run) false l.bytes).0 l.text

abbrev pub decreases-run : goal.decreases-run
decreases-run l = length l.rest

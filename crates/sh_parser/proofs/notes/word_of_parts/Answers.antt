use Rattle.sh_parser.proofs.Rolls.{word_rolled}
use Rattle.sh_parser.proofs.notes.word_of_parts.Goals as goal

pub returns : goal.returns
returns c = word_rolled c.args.parts c.span_of.result

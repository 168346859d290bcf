use Rattle.sh_printer.proofs.LastWords.{many_parts}
use Rattle.sh_printer.proofs.last.is_reserved_word.Goals as goal

pub returns-in-len2-up : goal.returns-in-len2-up
returns-in-len2-up c = many_parts c.args.parts.now c.in-len2-up.len_at_least

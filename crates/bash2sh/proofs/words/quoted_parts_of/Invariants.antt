use Rattle.std.proofs.Common.{length}
use Rattle.span_text.specs.Scanning.{starts}
use Rattle.bash2sh.specs.Model.{is_quote, quoted_part_at, quoted_parts_at}
use Rattle.bash2sh.specs.Views.{parts_seen}
use Rattle.bash2sh.proofs.Loops.{Items}
use Rattle.bash2sh.proofs.words.quoted_parts_of.Given as goal

abbrev pub invariant-parts : goal.invariant-parts
invariant-parts l = Items quoted_part_at (starts is_quote) quoted_parts_at l.bytes l.rest (parts_seen l.parts)

abbrev pub decreases-parts : goal.decreases-parts
decreases-parts l = length l.rest

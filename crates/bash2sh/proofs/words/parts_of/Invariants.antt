use Rattle.std.proofs.Common.{length}
use Rattle.span_text.specs.Scanning.{ends_word}
use Rattle.bash2sh.specs.Model.{part_at, parts_at}
use Rattle.bash2sh.specs.Views.{parts_seen}
use Rattle.bash2sh.proofs.Loops.{Items}
use Rattle.bash2sh.proofs.words.parts_of.Given as goal

abbrev pub invariant-parts : goal.invariant-parts
invariant-parts l = Items part_at ends_word parts_at l.bytes l.rest (parts_seen l.parts)

abbrev pub decreases-parts : goal.decreases-parts
decreases-parts l = length l.rest

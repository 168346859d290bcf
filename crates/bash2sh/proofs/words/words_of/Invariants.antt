use Rattle.std.proofs.Common.{length}
use Rattle.bash2sh.specs.Views.{words_seen}
use Rattle.bash2sh.proofs.Loops.{Words}
use Rattle.bash2sh.proofs.words.words_of.Given as goal

abbrev pub invariant-words : goal.invariant-words
invariant-words l = Words l.bytes l.rest (words_seen l.words)

abbrev pub decreases-words : goal.decreases-words
decreases-words l = length l.rest

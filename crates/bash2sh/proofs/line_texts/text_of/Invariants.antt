use Rattle.std.proofs.Common.{length}
use Rattle.bash2sh.proofs.LineTexts.{Made}
use Rattle.bash2sh.proofs.line_texts.text_of.Given as goal

abbrev pub invariant-lines : goal.invariant-lines
invariant-lines l = Made l.text l.rest l.written.text

abbrev pub decreases-lines : goal.decreases-lines
decreases-lines l = length l.rest

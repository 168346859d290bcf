use Rattle.std.proofs.Common.{◌≡◌, length}
use Rattle.std.specs.Cmp.Lexicographic.{pointwise}
use Rattle.span_text.specs.KnownNames.{same_text}
use Rattle.sh_parser.proofs.knowing.are_same.Given as goal

abbrev pub invariant-texts : goal.invariant-texts
invariant-texts l = pointwise same_text l.some l.more ≡ pointwise same_text l.texts l.others

abbrev pub decreases-texts : goal.decreases-texts
decreases-texts l = length l.some

use Rattle.std.proofs.Common.{ℕ, List, length}
use Rattle.sh_grammar.specs.Bytes.{Text, in_word}
use Rattle.sh_parser.specs.Values.{part_nodes}
use Rattle.sh_parser.specs.Views.{state}
use Rattle.sh_parser.proofs.AtOnce.{PartsSoFar}
use Rattle.sh_parser.proofs.direct.parts_of.Given as goal

abbrev pub invariant-parts : goal.invariant-parts
invariant-parts l = (n : ℕ) (ds : List Text) → PartsSoFar n ds in_word (state l.bytes l.notes) (state l.rest l.notes) (part_nodes l.parts)

abbrev pub decreases-parts : goal.decreases-parts
decreases-parts l = length l.rest

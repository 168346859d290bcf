use Rattle.std.proofs.Common.{◌≡◌, take}
use Rattle.std.specs.Prelude.{map}
use Rattle.sh_syntax.specs.View.{view_part}
use Rattle.bash2sh.specs.Trees.{part_lowered}
use Rattle.bash2sh.proofs.lowering.+lower.Given as goal

abbrev pub invariant-lower_parts-loop-part : goal.invariant-lower_parts-loop-part
invariant-lower_parts-loop-part l = map view_part l.lowered ≡ map part_lowered (take l.part-index l.parts)

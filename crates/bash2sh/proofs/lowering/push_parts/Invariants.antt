use Rattle.std.proofs.Common.{◌≡◌, ◌++◌, take}
use Rattle.std.specs.Prelude.{map}
use Rattle.sh_syntax.specs.View.{view_part}
use Rattle.bash2sh.specs.Trees.{part_lowered}
use Rattle.bash2sh.proofs.lowering.push_parts.Given as goal

abbrev pub invariant-loop-part : goal.invariant-loop-part
invariant-loop-part l = map view_part l.into ≡ map view_part l.initial.into ++ map part_lowered (take l.part-index l.parts)

use Rattle.std.proofs.Common.{◌≡◌, drop}
use Rattle.std.specs.Prelude.{map}
use Rattle.sh_syntax.specs.View.{view_part, parts_of}
use Rattle.sh_checks.specs.Roles.{behind_inside}
use Rattle.sh_checks.proofs.roles.behind_inside.Given as goal

abbrev pub invariant-loop-part : goal.invariant-loop-part
invariant-loop-part l = behind_inside (parts_of (map view_part (drop l.part-index l.parts))) l.rest ≡ behind_inside (parts_of (map view_part l.parts)) l.fn.text

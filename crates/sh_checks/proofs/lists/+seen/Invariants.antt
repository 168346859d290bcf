use Rattle.std.proofs.Common.{◌≡◌, drop}
use Rattle.std.specs.Prelude.{map}
use Rattle.sh_meaning.specs.Lists.{seen_in}
use Rattle.sh_syntax.specs.View.{view_part, parts_of}
use Rattle.sh_checks.specs.Counts.{seen_of, with_both}
use Rattle.sh_checks.proofs.lists.+seen.Given as goal

abbrev pub invariant-seen_in-loop-part : goal.invariant-seen_in-loop-part
invariant-seen_in-loop-part l = with_both l.seen (seen_of (seen_in l.quoted (parts_of (map view_part (drop l.part-index l.parts))))) ≡ seen_of (seen_in l.quoted (parts_of (map view_part l.parts)))

use Rattle.std.proofs.Common.{◌≡◌, take}
use Rattle.std.specs.Prelude.{map}
use Rattle.bash2sh.specs.Trees.{link_seen, link_lowered}
use Rattle.bash2sh.proofs.lowering.lower_links.Given as goal

abbrev pub invariant-loop-link : goal.invariant-loop-link
invariant-loop-link l = map link_seen l.lowered ≡ map link_lowered (take l.link-index l.links)

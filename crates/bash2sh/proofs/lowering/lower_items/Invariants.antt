use Rattle.std.proofs.Common.{◌≡◌, take}
use Rattle.std.specs.Prelude.{map}
use Rattle.sh_syntax.specs.View.{view_item}
use Rattle.bash2sh.specs.Trees.{item_lowered}
use Rattle.bash2sh.proofs.lowering.lower_items.Given as goal

abbrev pub invariant-loop-item : goal.invariant-loop-item
invariant-loop-item l = map view_item l.lowered ≡ map item_lowered (take l.item-index l.items)

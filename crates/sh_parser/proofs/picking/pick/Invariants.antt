use Rattle.std.proofs.Common.{◌≡◌, length}
use Rattle.std.specs.Vec.Iter.{into_iter_items, into_iter_len}
use Rattle.sh_parser.specs.Picking as picking
use Rattle.sh_parser.proofs.picking.pick.Given as goal

abbrev pub invariant-loop-value : goal.invariant-loop-value
invariant-loop-value l = record {
  so_far : picking.puts l.picked (into_iter_items l.value-iterator) ≡ picking.pick l.fn.values;
  counted : into_iter_len l.value-iterator ≡ length (into_iter_items l.value-iterator);
}

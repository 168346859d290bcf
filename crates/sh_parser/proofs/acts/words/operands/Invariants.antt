use Rattle.std.proofs.Common.{◌≡◌, ◌++◌, length}
use Rattle.std.specs.Prelude.{map}
use Rattle.std.specs.Vec.Iter.{into_iter_items, into_iter_len}
use Rattle.sh_syntax.specs.View.{view_word}
use Rattle.sh_parser.specs.Picking.{operand}
use Rattle.sh_parser.proofs.acts.words.operands.Given as goal

abbrev pub invariant-loop-part : goal.invariant-loop-part
invariant-loop-part l = record {
  so_far : map view_word l.words ++ map operand (into_iter_items l.part-iterator) ≡ map operand l.fn.parts;
  counted : into_iter_len l.part-iterator ≡ length (into_iter_items l.part-iterator);
}

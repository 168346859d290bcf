use Rattle.std.proofs.Common.{◌∷◌, [], true, false}
use Rattle.sh_grammar.specs.Bytes.{in_word}
use Rattle.sh_grammar.specs.State.{part_node}
use Rattle.sh_syntax.specs.View.{view_part}
use Rattle.sh_parser.specs.Values.{part_nodes}
use Rattle.sh_parser.specs.Views.{state}
use Rattle.sh_parser.proofs.AtOnce.{parts_end, part_more, part_nodes_more, unit_here}
use Rattle.sh_parser.proofs.direct.parts_of.Goals as goal

pub returns-then-not-unit_starts-clause-read : goal.returns-then-not-unit_starts-clause-read
returns-then-not-unit_starts-clause-read c = λ n ds.
    let m = state c.parts.rest.now c.args.notes.now in
    rw (c.tight.ensures) (parts_end n ds in_word (state c.args.bytes.now c.args.notes.now) m (part_nodes c.parts.parts) (unit_here in_word m c.clear.result.now c.unit_starts.result false c.clear.ensures c.unit_starts.ensures c.if-not-unit_starts.true) (c.parts.invariant n ds))

pub parts-preserved : goal.parts-preserved
parts-preserved c = λ n ds.
    let m = state c.parts.rest.now c.args.notes.now in
    rw (c.in_ok-push-in-Some.ensures.ok, part_nodes_more c.parts.parts c.in-Some.part) (part_more n ds in_word (state c.args.bytes.now c.args.notes.now) m (state c.in-Some.after.now c.args.notes.now) (part_nodes c.parts.parts) (part_node (view_part c.in-Some.part) ∷ []) (unit_here in_word m c.clear.result.now c.unit_starts.result true c.clear.ensures c.unit_starts.ensures c.if-not-unit_starts.false) ((rw (c.in-Some.is) at c.in_ok-part.ensures.read) n ds) (c.parts.invariant n ds))

use Rattle.std.proofs.Common.{true, false}
use Rattle.sh_grammar.specs.Bytes.{in_word}
use Rattle.sh_parser.specs.Values.{part_nodes}
use Rattle.sh_parser.specs.Views.{state}
use Rattle.sh_parser.proofs.AtOnce.{word_of_parts_is, parts_among, tilde_here, unit_here}
use Rattle.sh_parser.proofs.direct.word.Goals as goal

pub returns-in-Some-clause-read : goal.returns-in-Some-clause-read
returns-in-Some-clause-read c = λ n ds.
    let s = state c.args.bytes.now c.args.notes.now in
    let p = state c.in-Ok.place.now c.args.notes.now in
    let m = state c.in-Some.rest.now c.args.notes.now in
    rw (c.word_of_parts.ensures, ← parts_among c.in-Some.parts)
    (word_of_parts_is n ds s m c.in-Ok.place.now (part_nodes c.in-Some.parts) c.in-Ok.ensures (tilde_here p c.tilde_next.result false c.tilde_next.ensures c.if-tilde_next.false) (unit_here in_word p c.clear.result.now c.unit_starts.result true c.clear.ensures c.unit_starts.ensures c.if-not-unit_starts.false) ((rw (c.in-Some.is) at c.in_ok-parts_of.ensures.read) n ds))

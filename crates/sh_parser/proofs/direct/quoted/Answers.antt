use Rattle.sh_syntax.proofs.Views.{double_is}
use Rattle.sh_parser.specs.Values.{part_nodes}
use Rattle.sh_parser.specs.Views.{state}
use Rattle.sh_parser.proofs.AtOnce.{quote_read, quotes_are, parts_among}
use Rattle.sh_parser.proofs.direct.quoted.Goals as goal

pub returns-clause-read : goal.returns-clause-read
returns-clause-read c = λ n ds.
    let s = state c.args.bytes.now c.args.notes.now in
    let i = state c.in-Ok.inside.now c.args.notes.now in
    let o = state c.in-Some.after.now c.args.notes.now in
    let e = state c.in-Ok-byte_of.rest.now c.args.notes.now in
    rw (c.part_of_kind.ensures, double_is c.in-Some.parts, ← parts_among c.in-Some.parts)
    (quotes_are n ds s i o (part_nodes c.in-Some.parts) (quote_read n ds s c.in-Ok.inside.now c.in-Ok.ensures) ((rw (c.in-Some.is) at c.in_ok-parts.ensures.read) n ds) e (quote_read n ds o c.in-Ok-byte_of.rest.now c.in-Ok-byte_of.ensures))

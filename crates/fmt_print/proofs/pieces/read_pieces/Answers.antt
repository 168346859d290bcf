use Rattle.std.proofs.Common.{List, subst, sym}
use Rattle.fmt_print.specs.declared.pieces.Piece.{Piece}
use Rattle.fmt_print.proofs.Shorter.{piece_shrinks}
use Rattle.fmt_print.proofs.Units.{ReadsPieces, reads_more, reads_all}
use Rattle.fmt_print.proofs.pieces.read_pieces.Goals as goal

pub pieces-smaller : goal.pieces-smaller
pieces-smaller c = piece_shrinks.less c.pieces.rest.now c.in-Some.piece c.in-Some.behind.now (sym c.in-Some.ensures)

pub pieces-preserved : goal.pieces-preserved
pieces-preserved c =
    let more = reads_more c.args.format.now c.pieces.rest.now c.in-Some.behind.now c.pieces.read c.in-Some.piece c.pieces.invariant (sym c.in-Some.ensures) in
    let P : List Piece → Type 0 = λ read. ReadsPieces c.args.format.now read c.in-Some.behind.now in
    subst P (sym c.in_ok-push.ensures.ok) more

pub returns-clause-pieces : goal.returns-clause-pieces
returns-clause-pieces c = (reads_all c.args.format.now c.pieces.rest.now c.pieces.read c.pieces.invariant (sym c.in_default.ensures)).0

pub returns-clause-rest : goal.returns-clause-rest
returns-clause-rest c = (reads_all c.args.format.now c.pieces.rest.now c.pieces.read c.pieces.invariant (sym c.in_default.ensures)).1

pub returns-clause-bound : goal.returns-clause-bound
returns-clause-bound c = c.pieces.invariant.shorter

use Rattle.std.proofs.Common.{length}
use Rattle.fmt_print.proofs.Units.{ReadsPieces}
use Rattle.fmt_print.proofs.pieces.read_pieces.Given as goal

abbrev pub invariant-pieces : goal.invariant-pieces
invariant-pieces l = ReadsPieces l.format l.read l.rest

abbrev pub decreases-pieces : goal.decreases-pieces
decreases-pieces l = length l.rest

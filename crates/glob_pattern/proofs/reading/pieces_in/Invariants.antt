use Rattle.std.proofs.Common.{◌≡◌, ◌++◌, length}
use Rattle.glob_pattern.specs.Brackets.{parts}
use Rattle.glob_pattern.specs.Reading.{piece_len, piece_at}
use Rattle.glob_pattern.proofs.reading.pieces_in.Given as goal

abbrev pub invariant-pieces : goal.invariant-pieces
invariant-pieces l = l.pieces ++ parts piece_len piece_at 0 l.rest ≡ parts piece_len piece_at 0 l.signs

abbrev pub decreases-pieces : goal.decreases-pieces
decreases-pieces l = length l.rest

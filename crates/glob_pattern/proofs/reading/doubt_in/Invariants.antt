use Rattle.std.proofs.Common.{◌≡◌, length}
use Rattle.glob_pattern.specs.Brackets.{parts, lesser, least_place}
use Rattle.glob_pattern.specs.Reading.{piece_len, piece_doubt}
use Rattle.glob_pattern.proofs.reading.doubt_in.Given as goal

abbrev pub invariant-pieces : goal.invariant-pieces
invariant-pieces l = lesser l.place (least_place (parts piece_len (piece_doubt l.purpose) 0 l.rest)) ≡ least_place (parts piece_len (piece_doubt l.purpose) 0 l.signs)

abbrev pub decreases-pieces : goal.decreases-pieces
decreases-pieces l = length l.rest

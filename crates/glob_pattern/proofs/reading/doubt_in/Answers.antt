use Rattle.std.proofs.Common.{◌≡◌, false, length, sym, ◌∙◌}
use Rattle.std.specs.Prelude.{◌==◌}
use Rattle.glob_pattern.specs.Brackets.{parts, least_place}
use Rattle.glob_pattern.specs.Reading.{piece_len, piece_doubt}
use Rattle.glob_pattern.proofs.Parts.{least_next}
use Rattle.glob_pattern.proofs.reading.doubt_in.Goals as goal

pub pieces-preserved : goal.pieces-preserved
pieces-preserved c =
    let e : (length c.pieces.rest.now == 0) ≡ false = sym c.is_empty.ensures ∙ c.pieces-test.true in
    rw (c.from-rest.ensures, c.lesser-place.ensures, c.piece_doubt.ensures)
    (least_next piece_len (piece_doubt c.args.purpose) c.pieces.rest.now c.piece_len.result c.pieces.place (least_place (parts piece_len (piece_doubt c.args.purpose) 0 c.args.signs.now)) e c.piece_len.ensures.some (sym c.piece_len.ensures.len) c.pieces.invariant)

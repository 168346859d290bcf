use Rattle.std.proofs.Common.{◌≡◌, false, length, sym, ◌∙◌}
use Rattle.std.specs.Prelude.{◌==◌}
use Rattle.glob_pattern.specs.Brackets.{parts}
use Rattle.glob_pattern.specs.Reading.{piece_len, piece_at}
use Rattle.glob_pattern.proofs.Parts.{list_next}
use Rattle.glob_pattern.proofs.reading.pieces_in.Goals as goal

pub pieces-preserved : goal.pieces-preserved
pieces-preserved c =
    let e : (length c.pieces.rest.now == 0) ≡ false = sym c.is_empty.ensures ∙ c.pieces-test.true in
    rw (c.from-rest.ensures, c.in_ok-push.ensures.ok, c.in_ok-piece.ensures)
    (list_next piece_len piece_at c.pieces.rest.now c.piece_len.result c.pieces.pieces (parts piece_len piece_at 0 c.args.signs.now) e c.piece_len.ensures.some (sym c.piece_len.ensures.len) c.pieces.invariant)

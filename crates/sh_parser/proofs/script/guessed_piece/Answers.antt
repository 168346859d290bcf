use Rattle.std.proofs.Common.{◌≡◌, sym, ◌∙◌}
use Rattle.sh_parser.specs.Values.{nodes}
use Rattle.sh_parser.specs.Views.{state}
use Rattle.sh_parser.proofs.Guessed.{they_may_be, same_texts}
use Rattle.sh_parser.proofs.Turns.{next_guessed}
use Rattle.sh_parser.proofs.script.guessed_piece.Goals as goal

pub returns-then-are_same-clause-read : goal.returns-then-are_same-clause-read
returns-then-are_same-clause-read c =
    let b = c.args.bytes.now in
    let ds = c.piece_of.new.bodies.texts in
    let found : c.piece_of.new.notes.found ≡ ds = same_texts c.piece_of.new.notes.found ds (rw (c.as_slice.ensures, c.as_slice-in-Ok.ensures) at (sym c.are_same.ensures ∙ c.if-are_same.true)) in
    next_guessed ds b (nodes c.in-Ok.piece.0) (state c.in-Ok.piece.1.now c.piece_of.new.notes) (rw (← c.fresh-notes.ensures b) (c.in-Ok.ensures.gives ds (they_may_be c.piece_of.new.bodies))) found

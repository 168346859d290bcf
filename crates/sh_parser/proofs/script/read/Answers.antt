use Rattle.std.proofs.Common.{◌≡◌, ◌++◌, None, subst}
use Rattle.text_grammar.proofs.Tools.{some_is}
use Rattle.sh_grammar.specs.State.{chains_in}
use Rattle.sh_syntax.specs.View.{view}
use Rattle.sh_grammar.specs.Spelling.{Reads}
use Rattle.sh_parser.specs.Turns.{next_at}
use Rattle.sh_parser.specs.Values.{nodes}
use Rattle.sh_parser.proofs.Turns.{all_read, none_reads, error_there, next_shorter, so_far_more, SoFar}
use Rattle.sh_parser.proofs.script.read.Goals as goal

pub returns-in-Err-Bad-clause-refused : goal.returns-in-Err-Bad-clause-refused
returns-in-Err-Bad-clause-refused c =
    let w = c.pieces in
    let e : next_at w.rest.now ≡ None = rw c.in-Err-Bad.field-0-is at c.in-Err-Bad.ensures in
    none_reads c.args.text.now w.rest.now (nodes w.values) (rw (← c.gap.ensures, ← c.is_empty.ensures) c.if-is_empty.false) e w.invariant

pub returns-in-Err-Bad-clause-place : goal.returns-in-Err-Bad-clause-place
returns-in-Err-Bad-clause-place c =
    let w = c.pieces in
    let e : next_at w.rest.now ≡ None = rw c.in-Err-Bad.field-0-is at c.in-Err-Bad.ensures in
    error_there c.args.text.now w.rest.now (nodes w.values) c.place_of.result (rw (← c.gap.ensures, ← c.is_empty.ensures) c.if-is_empty.false) e c.place_of.ensures w.invariant

pub pieces-smaller : goal.pieces-smaller
pieces-smaller c = next_shorter c.pieces.rest.now c.in-Ok-next_piece.after.now (nodes c.in-Ok-next_piece.more) c.in-Ok-next_piece.ensures

pub pieces-preserved : goal.pieces-preserved
pieces-preserved c =
    let w = c.pieces in
    subst (SoFar c.args.text.now c.in-Ok-next_piece.after.now) (some_is (nodes w.values ++ nodes c.in-Ok-next_piece.more) (nodes c.in-Ok-joined.all) c.in-Ok-joined.ensures)
    (so_far_more c.args.text.now w.rest.now c.in-Ok-next_piece.after.now (nodes w.values) (nodes c.in-Ok-next_piece.more) c.in-Ok-next_piece.ensures w.invariant)

pub returns-in-Ok-clause-read : goal.returns-in-Ok-clause-read
returns-in-Ok-clause-read c =
    let w = c.pieces in
    subst (Reads c.args.text.now) (some_is (chains_in (nodes w.values)) (view c.in-Ok.script) c.in-Ok.ensures)
    (all_read c.args.text.now w.rest.now (nodes w.values) (rw (← c.gap.ensures, ← c.is_empty.ensures) c.if-is_empty.true) w.invariant)

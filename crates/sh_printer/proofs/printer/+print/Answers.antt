use Rattle.std.proofs.Common.{rules, ◌≡◌, ℕ, ◌+◌, ◌-◌, ◌^◌, max, min, true, false, subst, ◌++◌, ◌∷◌, [], Bool, Ok, drop, refl, sym, ap, ◌∙◌, append_assoc, arith}
use Rattle.std.proofs.lemmas.List.{drop_all}
use Rattle.std.proofs.lemmas.Result.{err_from_is_err_and}
use Rattle.std.specs.Prelude.{map}
use Rattle.span_text.specs.declared.fault.Failed.{Failed}
use Rattle.sh_syntax.specs.declared.tree.Redirect.{out-Redirect}
use Rattle.sh_syntax.specs.declared.tree.Word.{out-Word}
use Rattle.sh_printer.specs.Owed.{body_text}
use Rattle.sh_printer.specs.Pieces.{leaf_text, here_start, here_end, here_text, inner_text, delimiter_of, owed_of, owed_weight, node_weight, piece_text, piece_weight}
use Rattle.sh_printer.specs.Weights.{parts_weight}
use Rattle.sh_syntax.specs.View.{view_part, view_redirect, parts_of}
use Rattle.sh_printer.proofs.RedirectTexts.{redirect_weighs, rest_less, bodies_next, body_weighs, here_parts, body_parts, no_body}
use Rattle.sh_printer.specs.Covers.{Covers, CoversLines}
use Rattle.sh_printing.specs.Delimiters.{delimiter, free_from, numbered, tries}
use Rattle.sh_printer.proofs.Covers.{covers_as, covers_none}
use Rattle.sh_printer.proofs.Numbers.{covers_lines, lines_none}
use Rattle.sh_printer.proofs.Gathers.{gathered_none, gathered_more, gathered_done, lines_start, lines_more, lines_all, lines_as, covers_here, delimiter_is, whole_open, whole_closed, ends_after, next_free, stop_free, last_free, if_ok}
use Rattle.sh_printer.proofs.GatheredBodies.{lines_of_body}
use Rattle.sh_printer.proofs.Puts.{put_none}
use Rattle.sh_printer.proofs.Walks.{walked_none, walked_done, walked_more, walked_fails, walked_all, walked_start, start_fails}
use Rattle.sh_printer.proofs.printer.+print.Goals as goal

pub ends_line-print_piece-requires : goal.ends_line-print_piece-requires
ends_line-print_piece-requires g t c κs within = (omega (arith, c.inside.ensures.weight), search rules)

pub has_line-print_piece-requires : goal.has_line-print_piece-requires
has_line-print_piece-requires g t c κs within = (omega (arith, c.inside.ensures.weight), search rules)

pub free_number-gather-requires : goal.free_number-gather-requires
free_number-gather-requires g t c κs within = (omega (arith, c.inside.ensures.weight), search rules)

pub first_free-has_line-requires : goal.first_free-has_line-requires
first_free-has_line-requires g t c κs within = (omega (arith), search rules)

pub free_number-first_free-requires : goal.free_number-first_free-requires
free_number-first_free-requires g t c κs within = (omega (arith), search rules)

pub print_delimiter-free_number-requires : goal.print_delimiter-free_number-requires
print_delimiter-free_number-requires g t c κs within = (omega (arith), search rules)

pub print_here-print_delimiter-requires : goal.print_here-print_delimiter-requires
print_here-print_delimiter-requires g t c κs within = (omega (arith), search rules)

pub print_body-print_piece-requires : goal.print_body-print_piece-requires
print_body-print_piece-requires g t c κs within =
    let e = body_weighs c.args.redirect.now in
    (omega (arith, rw c.as_slice-body.ensures at c.inside.ensures.weight, e), search rules)

pub print_body-print_delimiter-requires : goal.print_body-print_delimiter-requires
print_body-print_delimiter-requires g t c κs within =
    let e = body_weighs c.args.redirect.now in
    (rw c.as_slice-body.ensures (omega (arith, e)), search rules)

pub print_line-print_body-requires : goal.print_line-print_body-requires
print_line-print_body-requires g t c κs within =
    let k = redirect_weighs c.args.owed.now c.loop-redirect.redirect-index c.redirect-item.result c.loop-redirect-test.true c.redirect-item.is in
    let l = rest_less c.args.owed.now c.loop-redirect.redirect-index in
    (omega (arith, k, l), search rules)

pub number_behind-gather-requires : goal.number_behind-gather-requires
number_behind-gather-requires g t c κs within =
    let e = body_weighs c.args.redirect.now in
    (omega (arith, rw c.as_slice-body.ensures at c.inside.ensures.weight, e), search rules)

pub number_behind-ends_line-requires : goal.number_behind-ends_line-requires
number_behind-ends_line-requires g t c κs within =
    let e = body_weighs c.args.redirect.now in
    (rw c.as_slice-body.ensures (omega (arith, e)), search rules)

pub number_behind-first_free-requires : goal.number_behind-first_free-requires
number_behind-first_free-requires g t c κs within =
    let e = body_weighs c.args.redirect.now in
    (rw c.as_slice-body.ensures (omega (arith, e)), search rules)

pub gather_line-number_behind-requires : goal.gather_line-number_behind-requires
gather_line-number_behind-requires g t c κs within =
    let k = redirect_weighs c.args.owed.now c.loop-redirect.redirect-index c.redirect-item.result c.loop-redirect-test.true c.redirect-item.is in
    let l = rest_less c.args.owed.now c.loop-redirect.redirect-index in
    (omega (arith, k, l), search rules)

pub gather-gather_line-requires : goal.gather-gather_line-requires
gather-gather_line-requires g t c κs within =
    let e : piece_weight c.pieces.now ≡ owed_weight c.in-Line.owed.now + 2 = ap piece_weight c.in-Line.is in
    (omega (arith, e, c.pieces.invariant.1.0), search rules)

pub gather-gather-requires : goal.gather-gather-requires
gather-gather-requires g t c κs within =
    let e : piece_weight c.pieces.now ≡ node_weight c.in-Node.node = ap piece_weight c.in-Node.is in
    (omega (arith, e, c.pieces.invariant.1.0, c.apart-split.ensures.first_less), search rules)

pub gather-gather-requires-in-Node : goal.gather-gather-requires-in-Node
gather-gather-requires-in-Node g t c κs within =
    let e : piece_weight c.pieces.now ≡ node_weight c.in-Node.node = ap piece_weight c.in-Node.is in
    (omega (arith, e, c.pieces.invariant.1.0, c.apart-split.ensures.second_less), search rules)

pub print_piece-print_here-requires : goal.print_piece-print_here-requires
print_piece-print_here-requires g t c κs within =
    let e : piece_weight c.pieces.now ≡ parts_weight (parts_of (map view_part c.in-Here.body.now)) + 14 = ap piece_weight c.in-Here.is in
    (omega (arith, e, c.pieces.invariant.1), search rules)

pub print_piece-print_line-requires : goal.print_piece-print_line-requires
print_piece-print_line-requires g t c κs within =
    let e : piece_weight c.pieces.now ≡ owed_weight c.in-Line.owed.now + 2 = ap piece_weight c.in-Line.is in
    (omega (arith, e, c.pieces.invariant.1), search rules)

pub print_piece-print_piece-requires : goal.print_piece-print_piece-requires
print_piece-print_piece-requires g t c κs within =
    let e : piece_weight c.pieces.now ≡ node_weight c.in-Node.node = ap piece_weight c.in-Node.is in
    (omega (arith, e, c.pieces.invariant.1, c.apart-split.ensures.first_less), search rules)

pub print_piece-print_piece-requires-in-Node : goal.print_piece-print_piece-requires-in-Node
print_piece-print_piece-requires-in-Node g t c κs within =
    let e : piece_weight c.pieces.now ≡ node_weight c.in-Node.node = ap piece_weight c.in-Node.is in
    (omega (arith, e, c.pieces.invariant.1, c.apart-split.ensures.second_less), search rules)

pub print_piece-pieces-init : goal.print_piece-pieces-init
print_piece-pieces-init g t c = (walked_none Failed g.K.Sink.held g.K.Sink.faults c.args.search.now c.args.out.now (λ full. piece_text full c.args.piece), omega arith)

pub print_piece-returns-in-Leaf : goal.print_piece-returns-in-Leaf
print_piece-returns-in-Leaf g t c =
    walked_done Failed g.K.Sink.held g.K.Sink.faults c.args.search.now c.pieces.search c.print_leaf.new.search c.args.out.now c.pieces.out c.print_leaf.new.out (λ full. piece_text full c.args.piece) (λ full. piece_text full c.pieces.now) c.print_leaf.result c.pieces.invariant.0 (rw c.in-Leaf.is c.print_leaf.ensures)

pub print_piece-returns-in-Here : goal.print_piece-returns-in-Here
print_piece-returns-in-Here g t c =
    walked_done Failed g.K.Sink.held g.K.Sink.faults c.args.search.now c.pieces.search c.print_here.new.search c.args.out.now c.pieces.out c.print_here.new.out (λ full. piece_text full c.args.piece) (λ full. piece_text full c.pieces.now) c.print_here.result c.pieces.invariant.0 (rw c.in-Here.is c.print_here.ensures)

pub print_piece-returns-in-Line : goal.print_piece-returns-in-Line
print_piece-returns-in-Line g t c =
    walked_done Failed g.K.Sink.held g.K.Sink.faults c.args.search.now c.pieces.search c.print_line.new.search c.args.out.now c.pieces.out c.print_line.new.out (λ full. piece_text full c.args.piece) (λ full. piece_text full c.pieces.now) c.print_line.result c.pieces.invariant.0 (rw c.in-Line.is c.print_line.ensures)

pub print_piece-returns-in_err-print_piece-in-Node : goal.print_piece-returns-in_err-print_piece-in-Node
print_piece-returns-in_err-print_piece-in-Node g t c =
    let p = err_from_is_err_and c.from_residual.result c.from_residual.ensures.1 in
    walked_fails Failed g.K.Sink.held g.K.Sink.faults c.args.search.now c.pieces.search c.print_piece.new.search c.args.out.now c.pieces.out c.print_piece.new.out (λ full. piece_text full c.args.piece) (λ full. piece_text full c.pieces.now) (λ full. piece_text full c.apart-split.result.first) (λ full. piece_text full c.apart-split.result.second ++ piece_text full c.apart-split.result.rest) c.from_residual.result _ p.1 c.pieces.invariant.0 c.in_err-print_piece-in-Node.ensures (λ full. rw c.in-Node.is (sym (append_assoc (piece_text full c.apart-split.result.first) (piece_text full c.apart-split.result.second) (piece_text full c.apart-split.result.rest)) ∙ c.apart-split.ensures.whole full))

pub print_piece-returns-in_err-print_piece-in-Node-2 : goal.print_piece-returns-in_err-print_piece-in-Node-2
print_piece-returns-in_err-print_piece-in-Node-2 g t c =
    let p = err_from_is_err_and c.from_residual-in_err-print_piece-in-Node-2.result c.from_residual-in_err-print_piece-in-Node-2.ensures.1 in
    let w = walked_more Failed g.K.Sink.held g.K.Sink.faults c.args.search.now c.pieces.search c.print_piece.new.search c.args.out.now c.pieces.out c.print_piece.new.out (λ full. piece_text full c.args.piece) (λ full. piece_text full c.pieces.now) (λ full. piece_text full c.apart-split.result.first) (λ full. piece_text full c.apart-split.result.second ++ piece_text full c.apart-split.result.rest) c.pieces.invariant.0 c.in_ok-print_piece-in-Node.ensures (λ full. rw c.in-Node.is (sym (append_assoc (piece_text full c.apart-split.result.first) (piece_text full c.apart-split.result.second) (piece_text full c.apart-split.result.rest)) ∙ c.apart-split.ensures.whole full)) in
    walked_fails Failed g.K.Sink.held g.K.Sink.faults c.args.search.now c.print_piece.new.search c.print_piece-in-Node.new.search c.args.out.now c.print_piece.new.out c.print_piece-in-Node.new.out (λ full. piece_text full c.args.piece) (λ full. piece_text full c.apart-split.result.second ++ piece_text full c.apart-split.result.rest) (λ full. piece_text full c.apart-split.result.second) (λ full. piece_text full c.apart-split.result.rest) c.from_residual-in_err-print_piece-in-Node-2.result _ p.1 w c.in_err-print_piece-in-Node-2.ensures (λ full. refl)

pub print_piece-pieces-smaller : goal.print_piece-pieces-smaller
print_piece-pieces-smaller g t c = rw c.in-Node.is c.apart-split.ensures.rest_less

pub print_piece-pieces-preserved : goal.print_piece-pieces-preserved
print_piece-pieces-preserved g t c =
    let w = walked_more Failed g.K.Sink.held g.K.Sink.faults c.args.search.now c.pieces.search c.print_piece.new.search c.args.out.now c.pieces.out c.print_piece.new.out (λ full. piece_text full c.args.piece) (λ full. piece_text full c.pieces.now) (λ full. piece_text full c.apart-split.result.first) (λ full. piece_text full c.apart-split.result.second ++ piece_text full c.apart-split.result.rest) c.pieces.invariant.0 c.in_ok-print_piece-in-Node.ensures (λ full. rw c.in-Node.is (sym (append_assoc (piece_text full c.apart-split.result.first) (piece_text full c.apart-split.result.second) (piece_text full c.apart-split.result.rest)) ∙ c.apart-split.ensures.whole full)) in
    (walked_more Failed g.K.Sink.held g.K.Sink.faults c.args.search.now c.print_piece.new.search c.print_piece-in-Node.new.search c.args.out.now c.print_piece.new.out c.print_piece-in-Node.new.out (λ full. piece_text full c.args.piece) (λ full. piece_text full c.apart-split.result.second ++ piece_text full c.apart-split.result.rest) (λ full. piece_text full c.apart-split.result.second) (λ full. piece_text full c.apart-split.result.rest) w c.in_ok-print_piece-in-Node-2.ensures (λ full. refl), omega (arith, ap piece_weight c.in-Node.is, c.pieces.invariant.1, c.apart-split.ensures.rest_less))

pub print_here-returns-in_err-put : goal.print_here-returns-in_err-put
print_here-returns-in_err-put g t c =
    let p = err_from_is_err_and c.from_residual.result c.from_residual.ensures.1 in
    start_fails Failed g.K.Sink.held g.K.Sink.faults c.args.search.now c.put.new.search c.args.out.now c.put.new.out (λ full. here_text c.args.quoted (delimiter_of full (parts_of (map view_part c.args.body.now)))) (λ full. here_start c.args.quoted) (λ full. delimiter_of full (parts_of (map view_part c.args.body.now)) ++ here_end c.args.quoted) c.from_residual.result _ p.1 (rw c.here_start.ensures at c.in_err-put.ensures) (λ full. here_parts c.args.quoted (delimiter_of full (parts_of (map view_part c.args.body.now))))

pub print_here-returns-in_err-print_delimiter : goal.print_here-returns-in_err-print_delimiter
print_here-returns-in_err-print_delimiter g t c =
    let p = err_from_is_err_and c.from_residual-in_err-print_delimiter.result c.from_residual-in_err-print_delimiter.ensures.1 in
    let w = walked_start Failed g.K.Sink.held g.K.Sink.faults c.args.search.now c.put.new.search c.args.out.now c.put.new.out (λ full. here_text c.args.quoted (delimiter_of full (parts_of (map view_part c.args.body.now)))) (λ full. here_start c.args.quoted) (λ full. delimiter_of full (parts_of (map view_part c.args.body.now)) ++ here_end c.args.quoted) (rw c.here_start.ensures at c.in_ok-put.ensures) (λ full. here_parts c.args.quoted (delimiter_of full (parts_of (map view_part c.args.body.now)))) in
    walked_fails Failed g.K.Sink.held g.K.Sink.faults c.args.search.now c.put.new.search c.print_delimiter.new.search c.args.out.now c.put.new.out c.print_delimiter.new.out (λ full. here_text c.args.quoted (delimiter_of full (parts_of (map view_part c.args.body.now)))) (λ full. delimiter_of full (parts_of (map view_part c.args.body.now)) ++ here_end c.args.quoted) (λ full. delimiter_of full (parts_of (map view_part c.args.body.now))) (λ full. here_end c.args.quoted) c.from_residual-in_err-print_delimiter.result _ p.1 w (c.in_err-print_delimiter.ensures) (λ full. refl)

pub print_here-returns : goal.print_here-returns
print_here-returns g t c =
    let w = walked_start Failed g.K.Sink.held g.K.Sink.faults c.args.search.now c.put.new.search c.args.out.now c.put.new.out (λ full. here_text c.args.quoted (delimiter_of full (parts_of (map view_part c.args.body.now)))) (λ full. here_start c.args.quoted) (λ full. delimiter_of full (parts_of (map view_part c.args.body.now)) ++ here_end c.args.quoted) (rw c.here_start.ensures at c.in_ok-put.ensures) (λ full. here_parts c.args.quoted (delimiter_of full (parts_of (map view_part c.args.body.now)))) in
    let v = walked_more Failed g.K.Sink.held g.K.Sink.faults c.args.search.now c.put.new.search c.print_delimiter.new.search c.args.out.now c.put.new.out c.print_delimiter.new.out (λ full. here_text c.args.quoted (delimiter_of full (parts_of (map view_part c.args.body.now)))) (λ full. delimiter_of full (parts_of (map view_part c.args.body.now)) ++ here_end c.args.quoted) (λ full. delimiter_of full (parts_of (map view_part c.args.body.now))) (λ full. here_end c.args.quoted) w (c.in_ok-print_delimiter.ensures) (λ full. refl) in
    walked_done Failed g.K.Sink.held g.K.Sink.faults c.args.search.now c.print_delimiter.new.search c.put-2.new.search c.args.out.now c.print_delimiter.new.out c.put-2.new.out (λ full. here_text c.args.quoted (delimiter_of full (parts_of (map view_part c.args.body.now)))) (λ full. here_end c.args.quoted) c.put-2.result v (rw c.here_end.ensures at c.put-2.ensures)

pub print_body-returns-in_err-print_piece : goal.print_body-returns-in_err-print_piece
print_body-returns-in_err-print_piece g t c =
    let p = err_from_is_err_and c.from_residual.result c.from_residual.ensures.1 in
    start_fails Failed g.K.Sink.held g.K.Sink.faults c.args.search.now c.print_piece.new.search c.args.out.now c.print_piece.new.out (λ full. body_text full (view_redirect c.args.redirect.now)) (λ full. inner_text full (out-Word (out-Redirect c.args.redirect.now).word).parts) (λ full. delimiter_of full (parts_of (map view_part (out-Word (out-Redirect c.args.redirect.now).word).parts)) ++ 10 ∷ []) c.from_residual.result _ p.1 (rw (c.inside.ensures.text c.args.search.now.writes, c.as_slice-body.ensures) at c.in_err-print_piece.ensures) (λ full. body_parts full c.args.redirect.now (sym c.is_here.ensures ∙ c.if-not-is_here.false))

pub print_body-returns-in_err-print_delimiter : goal.print_body-returns-in_err-print_delimiter
print_body-returns-in_err-print_delimiter g t c =
    let p = err_from_is_err_and c.from_residual-in_err-print_delimiter.result c.from_residual-in_err-print_delimiter.ensures.1 in
    let w = walked_start Failed g.K.Sink.held g.K.Sink.faults c.args.search.now c.print_piece.new.search c.args.out.now c.print_piece.new.out (λ full. body_text full (view_redirect c.args.redirect.now)) (λ full. inner_text full (out-Word (out-Redirect c.args.redirect.now).word).parts) (λ full. delimiter_of full (parts_of (map view_part (out-Word (out-Redirect c.args.redirect.now).word).parts)) ++ 10 ∷ []) (rw (c.inside.ensures.text c.args.search.now.writes, c.as_slice-body.ensures) at c.in_ok-print_piece.ensures) (λ full. body_parts full c.args.redirect.now (sym c.is_here.ensures ∙ c.if-not-is_here.false)) in
    walked_fails Failed g.K.Sink.held g.K.Sink.faults c.args.search.now c.print_piece.new.search c.print_delimiter.new.search c.args.out.now c.print_piece.new.out c.print_delimiter.new.out (λ full. body_text full (view_redirect c.args.redirect.now)) (λ full. delimiter_of full (parts_of (map view_part (out-Word (out-Redirect c.args.redirect.now).word).parts)) ++ 10 ∷ []) (λ full. delimiter_of full (parts_of (map view_part (out-Word (out-Redirect c.args.redirect.now).word).parts))) (λ full. 10 ∷ []) c.from_residual-in_err-print_delimiter.result _ p.1 w (rw c.as_slice-body.ensures at c.in_err-print_delimiter.ensures) (λ full. refl)

pub print_body-returns : goal.print_body-returns
print_body-returns g t c =
    let w = walked_start Failed g.K.Sink.held g.K.Sink.faults c.args.search.now c.print_piece.new.search c.args.out.now c.print_piece.new.out (λ full. body_text full (view_redirect c.args.redirect.now)) (λ full. inner_text full (out-Word (out-Redirect c.args.redirect.now).word).parts) (λ full. delimiter_of full (parts_of (map view_part (out-Word (out-Redirect c.args.redirect.now).word).parts)) ++ 10 ∷ []) (rw (c.inside.ensures.text c.args.search.now.writes, c.as_slice-body.ensures) at c.in_ok-print_piece.ensures) (λ full. body_parts full c.args.redirect.now (sym c.is_here.ensures ∙ c.if-not-is_here.false)) in
    let v = walked_more Failed g.K.Sink.held g.K.Sink.faults c.args.search.now c.print_piece.new.search c.print_delimiter.new.search c.args.out.now c.print_piece.new.out c.print_delimiter.new.out (λ full. body_text full (view_redirect c.args.redirect.now)) (λ full. delimiter_of full (parts_of (map view_part (out-Word (out-Redirect c.args.redirect.now).word).parts)) ++ 10 ∷ []) (λ full. delimiter_of full (parts_of (map view_part (out-Word (out-Redirect c.args.redirect.now).word).parts))) (λ full. 10 ∷ []) w (rw c.as_slice-body.ensures at c.in_ok-print_delimiter.ensures) (λ full. refl) in
    walked_done Failed g.K.Sink.held g.K.Sink.faults c.args.search.now c.print_delimiter.new.search c.put.new.search c.args.out.now c.print_delimiter.new.out c.put.new.out (λ full. body_text full (view_redirect c.args.redirect.now)) (λ full. 10 ∷ []) c.put.result v (c.put.ensures)

pub print_body-returns-then-not-is_here : goal.print_body-returns-then-not-is_here
print_body-returns-then-not-is_here g t c = rw (no_body c.args.search.now.writes c.args.redirect.now (sym c.is_here.ensures ∙ c.if-not-is_here.true)) (put_none g.K.Sink.held g.K.Sink.faults c.args.search.now c.args.out.now)

pub print_line-returns-in_err-put : goal.print_line-returns-in_err-put
print_line-returns-in_err-put g t c =
    let p = err_from_is_err_and c.from_residual.result c.from_residual.ensures.1 in
    start_fails Failed g.K.Sink.held g.K.Sink.faults c.args.search.now c.put.new.search c.args.out.now c.put.new.out (λ full. 10 ∷ owed_of full c.args.owed.now) (λ full. 10 ∷ []) (λ full. owed_of full c.args.owed.now) c.from_residual.result _ p.1 c.in_err-put.ensures (λ full. refl)

pub print_line-loop-redirect-init : goal.print_line-loop-redirect-init
print_line-loop-redirect-init g t c = walked_none Failed g.K.Sink.held g.K.Sink.faults c.put.new.search c.put.new.out (λ full. owed_of full c.args.owed.now)

pub print_line-loop-redirect-preserved : goal.print_line-loop-redirect-preserved
print_line-loop-redirect-preserved g t c = walked_more Failed g.K.Sink.held g.K.Sink.faults c.put.new.search c.loop-redirect.search c.print_body.new.search c.put.new.out c.loop-redirect.out c.print_body.new.out (λ full. owed_of full c.args.owed.now) (λ full. owed_of full (drop c.loop-redirect.redirect-index c.args.owed.now)) (λ full. body_text full (view_redirect c.redirect-item.result)) (λ full. owed_of full (drop (c.loop-redirect.redirect-index + 1) c.args.owed.now)) c.loop-redirect.invariant c.in_ok-print_body.ensures (λ full. bodies_next full c.args.owed.now c.loop-redirect.redirect-index c.redirect-item.result c.loop-redirect-test.true c.redirect-item.is)

pub print_line-returns-in_err-print_body : goal.print_line-returns-in_err-print_body
print_line-returns-in_err-print_body g t c =
    let p = err_from_is_err_and c.from_residual-in_err-print_body.result c.from_residual-in_err-print_body.ensures.1 in
    let w = walked_start Failed g.K.Sink.held g.K.Sink.faults c.args.search.now c.put.new.search c.args.out.now c.put.new.out (λ full. 10 ∷ owed_of full c.args.owed.now) (λ full. 10 ∷ []) (λ full. owed_of full c.args.owed.now) c.in_ok-put.ensures (λ full. refl) in
    walked_done Failed g.K.Sink.held g.K.Sink.faults c.args.search.now c.put.new.search c.print_body.new.search c.args.out.now c.put.new.out c.print_body.new.out (λ full. 10 ∷ owed_of full c.args.owed.now) (λ full. owed_of full c.args.owed.now) c.from_residual-in_err-print_body.result w (walked_fails Failed g.K.Sink.held g.K.Sink.faults c.put.new.search c.loop-redirect.search c.print_body.new.search c.put.new.out c.loop-redirect.out c.print_body.new.out (λ full. owed_of full c.args.owed.now) (λ full. owed_of full (drop c.loop-redirect.redirect-index c.args.owed.now)) (λ full. body_text full (view_redirect c.redirect-item.result)) (λ full. owed_of full (drop (c.loop-redirect.redirect-index + 1) c.args.owed.now)) c.from_residual-in_err-print_body.result _ p.1 c.loop-redirect.invariant c.in_err-print_body.ensures (λ full. bodies_next full c.args.owed.now c.loop-redirect.redirect-index c.redirect-item.result c.loop-redirect-test.true c.redirect-item.is))

pub print_line-returns : goal.print_line-returns
print_line-returns g t c =
    let w = walked_start Failed g.K.Sink.held g.K.Sink.faults c.args.search.now c.put.new.search c.args.out.now c.put.new.out (λ full. 10 ∷ owed_of full c.args.owed.now) (λ full. 10 ∷ []) (λ full. owed_of full c.args.owed.now) c.in_ok-put.ensures (λ full. refl) in
    walked_done Failed g.K.Sink.held g.K.Sink.faults c.args.search.now c.put.new.search c.loop-redirect.search c.args.out.now c.put.new.out c.loop-redirect.out (λ full. 10 ∷ owed_of full c.args.owed.now) (λ full. owed_of full c.args.owed.now) (Ok tt) w (walked_all Failed g.K.Sink.held g.K.Sink.faults c.put.new.search c.loop-redirect.search c.put.new.out c.loop-redirect.out (λ full. owed_of full c.args.owed.now) (λ full. owed_of full (drop c.loop-redirect.redirect-index c.args.owed.now)) c.loop-redirect.invariant (λ full. rw (drop_all c.loop-redirect.redirect-index c.args.owed.now c.loop-redirect-test.false) refl))

-- ---- the numbers of delimiters

pub ends_line-returns-clause-line : goal.ends_line-returns-clause-line
ends_line-returns-clause-line g t c =
    let p = c.in_ok-print_piece.ensures.seeks c.seeking-search.ensures.seeks in
    c.is_next.ensures.is ∙ ends_after c.seeking-search.result c.print_piece.new.search (piece_text c.seeking-search.result.writes c.inside.result) (inner_text false c.args.body.now) c.seeking-search.ensures.name c.seeking-search.ensures.begins p.0 (ap (λ (w : Bool). piece_text w c.inside.result) c.seeking-search.ensures.seeks ∙ c.inside.ensures.text false)

pub first_free-loop-number-init : goal.first_free-loop-number-init
first_free-loop-number-init g t c = (refl, (λ le. le, refl))

pub first_free-loop-number-preserved : goal.first_free-loop-number-preserved
first_free-loop-number-preserved g t c = (c.in_ok-has_line.ensures.out ∙ c.loop-number.invariant.0, (λ le. omega (arith, c.loop-number-test.true), next_free c.loop-number.number c.args.from (inner_text false c.args.body.now) (omega (arith, c.loop-number-test.true)) (sym c.in_ok-has_line.ensures.line ∙ c.if-not-branch.false) c.loop-number.invariant.1.1))

pub first_free-returns-then-not-branch-clause-out : goal.first_free-returns-then-not-branch-clause-out
first_free-returns-then-not-branch-clause-out g t c = c.in_ok-has_line.ensures.out ∙ c.loop-number.invariant.0

pub first_free-returns-clause-out : goal.first_free-returns-clause-out
first_free-returns-clause-out g t c = c.loop-number.invariant.0

pub first_free-returns-then-not-branch-clause-number : goal.first_free-returns-then-not-branch-clause-number
first_free-returns-then-not-branch-clause-number g t c = λ le. stop_free c.loop-number.number c.args.from (inner_text false c.args.body.now) (omega (arith, c.loop-number-test.true)) (sym c.in_ok-has_line.ensures.line ∙ c.if-not-branch.true) c.loop-number.invariant.1.1

pub first_free-returns-clause-number : goal.first_free-returns-clause-number
first_free-returns-clause-number g t c = λ le. let small = c.loop-number.invariant.1.0 le in last_free c.loop-number.number c.args.from (inner_text false c.args.body.now) (omega (arith, c.loop-number-test.false, small)) c.loop-number.invariant.1.1

pub free_number-returns-clause-number : goal.free_number-returns-clause-number
free_number-returns-clause-number g t c =
    let p = covers_as (piece_text true c.inside.result) (piece_text false c.inside.result) (inner_text true c.args.body.now) (inner_text false c.args.body.now) 0 c.in_ok-least.least c.in_ok-least.ensures.covers (c.inside.ensures.text true) (c.inside.ensures.text false) in
    if_ok c.first_free.result (λ n. n ≡ free_from (tries - c.in_ok-least.least) c.in_ok-least.least (inner_text false c.args.body.now)) (λ n. delimiter (inner_text true c.args.body.now) ≡ numbered n) (c.first_free.ensures.number (p.small (omega arith))) (λ n e. delimiter_is (inner_text true c.args.body.now) (inner_text false c.args.body.now) c.in_ok-least.least n p e)

pub gather-pieces-init : goal.gather-pieces-init
gather-pieces-init g t c = (refl, (omega arith, gathered_none (λ full. piece_text full c.args.piece) c.args.from))

pub gather-returns-in-Leaf-clause-out : goal.gather-returns-in-Leaf-clause-out
gather-returns-in-Leaf-clause-out g t c = c.pieces.invariant.0

pub gather-returns-in-Here-clause-out : goal.gather-returns-in-Here-clause-out
gather-returns-in-Here-clause-out g t c = c.pieces.invariant.0

pub gather-returns-in-Leaf-clause-covers : goal.gather-returns-in-Leaf-clause-covers
gather-returns-in-Leaf-clause-covers g t c = gathered_done (λ full. piece_text full c.args.piece) (λ full. piece_text full c.pieces.now) c.args.from c.pieces.least c.pieces.least c.pieces.invariant.1.1 (rw c.in-Leaf.is (covers_none (leaf_text c.in-Leaf.field-0) c.pieces.least))

pub gather-returns-in-Here-clause-covers : goal.gather-returns-in-Here-clause-covers
gather-returns-in-Here-clause-covers g t c = gathered_done (λ full. piece_text full c.args.piece) (λ full. piece_text full c.pieces.now) c.args.from c.pieces.least c.pieces.least c.pieces.invariant.1.1 (rw c.in-Here.is (covers_here c.in-Here.field-1 (inner_text true c.in-Here.field-0.now) c.pieces.least))

pub gather-returns-in-Line-clause-covers : goal.gather-returns-in-Line-clause-covers
gather-returns-in-Line-clause-covers g t c = if_ok c.gather_line.result (λ n. CoversLines (owed_of true c.in-Line.owed.now) (owed_of false c.in-Line.owed.now) c.pieces.least n) (λ n. Covers (piece_text true c.args.piece) (piece_text false c.args.piece) c.args.from n) c.gather_line.ensures.lines (λ n p. gathered_done (λ full. piece_text full c.args.piece) (λ full. piece_text full c.pieces.now) c.args.from c.pieces.least n c.pieces.invariant.1.1 (rw c.in-Line.is (covers_lines (owed_of true c.in-Line.owed.now) (owed_of false c.in-Line.owed.now) c.pieces.least n p)))

pub gather-pieces-preserved : goal.gather-pieces-preserved
gather-pieces-preserved g t c =
    let w = gathered_more (λ full. piece_text full c.args.piece) (λ full. piece_text full c.pieces.now) (λ full. piece_text full c.apart-split.result.first) (λ full. piece_text full c.apart-split.result.second ++ piece_text full c.apart-split.result.rest) c.args.from c.pieces.least c.in_ok-least-in-Node.least c.pieces.invariant.1.1 c.in_ok-least-in-Node.ensures.covers (λ full. rw c.in-Node.is (sym (append_assoc (piece_text full c.apart-split.result.first) (piece_text full c.apart-split.result.second) (piece_text full c.apart-split.result.rest)) ∙ c.apart-split.ensures.whole full)) in
    (c.in_ok-least-in-Node-2.ensures.out ∙ c.in_ok-least-in-Node.ensures.out ∙ c.pieces.invariant.0, (omega (arith, ap piece_weight c.in-Node.is, c.pieces.invariant.1.0, c.apart-split.ensures.rest_less), gathered_more (λ full. piece_text full c.args.piece) (λ full. piece_text full c.apart-split.result.second ++ piece_text full c.apart-split.result.rest) (λ full. piece_text full c.apart-split.result.second) (λ full. piece_text full c.apart-split.result.rest) c.args.from c.in_ok-least-in-Node.least c.in_ok-least-in-Node-2.least w c.in_ok-least-in-Node-2.ensures.covers (λ full. refl)))

pub gather_line-loop-redirect-init : goal.gather_line-loop-redirect-init
gather_line-loop-redirect-init g t c = (refl, lines_start (λ full. owed_of full c.args.owed.now) c.args.from)

pub gather_line-loop-redirect-preserved : goal.gather_line-loop-redirect-preserved
gather_line-loop-redirect-preserved g t c = (c.in_ok-least.ensures.out ∙ c.loop-redirect.invariant.0, lines_more (λ full. owed_of full c.args.owed.now) (λ full. owed_of full (drop c.loop-redirect.redirect-index c.args.owed.now)) (λ full. body_text full (view_redirect c.redirect-item.result)) (λ full. owed_of full (drop (c.loop-redirect.redirect-index + 1) c.args.owed.now)) c.args.from c.loop-redirect.least c.in_ok-least.least c.loop-redirect.invariant.1 c.in_ok-least.ensures.lines (λ full. bodies_next full c.args.owed.now c.loop-redirect.redirect-index c.redirect-item.result c.loop-redirect-test.true c.redirect-item.is))

pub gather_line-returns-clause-lines : goal.gather_line-returns-clause-lines
gather_line-returns-clause-lines g t c = lines_all (λ full. owed_of full c.args.owed.now) (λ full. owed_of full (drop c.loop-redirect.redirect-index c.args.owed.now)) c.args.from c.loop-redirect.least c.loop-redirect.invariant.1 (λ full. rw (drop_all c.loop-redirect.redirect-index c.args.owed.now c.loop-redirect-test.false) refl)

pub number_behind-returns-then-not-is_here-clause-lines : goal.number_behind-returns-then-not-is_here-clause-lines
number_behind-returns-then-not-is_here-clause-lines g t c =
    let none = sym c.is_here.ensures ∙ c.if-not-is_here.true in
    lines_as [] [] (body_text true (view_redirect c.args.redirect.now)) (body_text false (view_redirect c.args.redirect.now)) c.args.from c.args.from (lines_none c.args.from) (sym (no_body true c.args.redirect.now none)) (sym (no_body false c.args.redirect.now none))

pub number_behind-returns-then-not-branch-clause-lines : goal.number_behind-returns-then-not-branch-clause-lines
number_behind-returns-then-not-branch-clause-lines g t c =
    let here = sym c.is_here.ensures ∙ c.if-not-is_here.false in
    let p = covers_as (piece_text true c.inside.result) (piece_text false c.inside.result) (inner_text true c.as_slice-body.result.now) (inner_text false c.as_slice-body.result.now) 0 c.in_ok-least.least c.in_ok-least.ensures.covers (c.inside.ensures.text true) (c.inside.ensures.text false) in
    subst (λ (k : ℕ). CoversLines (body_text true (view_redirect c.args.redirect.now)) (body_text false (view_redirect c.args.redirect.now)) c.args.from k) (sym c.max.ensures)
    (lines_of_body c.args.redirect.now c.as_slice-body.result.now c.args.from (max c.args.from c.in_ok-least.least) c.as_slice-body.ensures here (whole_open (inner_text true c.as_slice-body.result.now) (inner_text false c.as_slice-body.result.now) c.args.from c.in_ok-least.least p (sym c.in_ok-ends_line.ensures.line ∙ c.if-not-branch.true)))

pub number_behind-returns-clause-lines : goal.number_behind-returns-clause-lines
number_behind-returns-clause-lines g t c =
    let here = sym c.is_here.ensures ∙ c.if-not-is_here.false in
    let p = covers_as (piece_text true c.inside.result) (piece_text false c.inside.result) (inner_text true c.as_slice-body.result.now) (inner_text false c.as_slice-body.result.now) 0 c.in_ok-least.least c.in_ok-least.ensures.covers (c.inside.ensures.text true) (c.inside.ensures.text false) in
    subst (λ (k : ℕ). CoversLines (body_text true (view_redirect c.args.redirect.now)) (body_text false (view_redirect c.args.redirect.now)) c.args.from k) (sym c.greatest_behind.ensures)
    (lines_of_body c.args.redirect.now c.as_slice-body.result.now c.args.from (max c.args.from (min (c.in_ok-number.number + 1) (2 ^ 64 - 1))) c.as_slice-body.ensures here (whole_closed (inner_text true c.as_slice-body.result.now) (inner_text false c.as_slice-body.result.now) c.args.from c.in_ok-least.least c.in_ok-number.number p (sym c.in_ok-ends_line.ensures.line ∙ c.if-not-branch.false) (c.in_ok-number.ensures.number (p.small (omega arith)))))

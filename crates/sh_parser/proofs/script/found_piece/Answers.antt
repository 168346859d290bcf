use Rattle.std.proofs.Common.{◌≡◌, [], length, subst, sym, ◌∙◌, arith}
use Rattle.std.proofs.lemmas.Bool.Decides.{nat_tests}
use Rattle.std.proofs.lemmas.Result.{err_from_is_err_and}
use Rattle.text_grammar.specs.Grammar.{rule}
use Rattle.text_grammar.specs.Values.{vals}
use Rattle.text_grammar.specs.Answers.{FailsAs}
use Rattle.sh_grammar.specs.State.{State}
use Rattle.sh_grammar.specs.Table.{piece}
use Rattle.sh_grammar.specs.Spelling.{sh_with}
use Rattle.sh_parser.specs.Answers.{is_memory}
use Rattle.sh_parser.specs.Values.{nodes}
use Rattle.sh_parser.specs.Views.{state}
use Rattle.sh_parser.proofs.Guessed.{all_known}
use Rattle.sh_parser.proofs.Turns.{next_fails, next_again, next_plain, gives_seen}
use Rattle.sh_parser.proofs.script.found_piece.Goals as goal

pub returns-in_err-values : goal.returns-in_err-values
returns-in_err-values c =
    let p = err_from_is_err_and c.from_residual.result c.from_residual.ensures.1 in
    let b = c.args.bytes.now in
    let q = is_memory c.in_err-values.field-0.0 in
    let k = all_known c.all-none.result c.piece_of.new.bodies [] c.all-none.ensures.all (sym (c.all-none.ensures.texts ∙ c.new.ensures)) c.in_err-values.ensures.grows in
    rw (p.1, p.2) (next_fails q b (subst (λ (s : State). FailsAs q (vals (sh_with []) (rule piece) s)) (c.fresh-first.ensures b) (c.in_err-values.ensures.gives [] k)))

pub returns-then-len-eq0 : goal.returns-then-len-eq0
returns-then-len-eq0 c =
    let b = c.args.bytes.now in
    let k = all_known c.all-none.result c.piece_of.new.bodies [] c.all-none.ensures.all (sym (c.all-none.ensures.texts ∙ c.new.ensures)) c.in_ok-values.ensures.grows in
    let none : length c.piece_of.new.notes.found ≡ 0 = grind (arith, nat_tests, c.len.ensures, c.if-len-eq0.true) in
    next_plain b (nodes c.in_ok-values.values) (state c.in_ok-values.rest.now c.piece_of.new.notes) none (rw (← c.fresh-first.ensures b) (c.in_ok-values.ensures.gives [] k))

pub returns : goal.returns
returns c =
    let b = c.args.bytes.now in
    let m = state c.in_ok-values.rest.now c.piece_of.new.notes in
    let k = all_known c.all-none.result c.piece_of.new.bodies [] c.all-none.ensures.all (sym (c.all-none.ensures.texts ∙ c.new.ensures)) c.in_ok-values.ensures.grows in
    let l = all_known c.all-bodies.result c.piece_of-2.new.bodies m.found c.all-bodies.ensures.all (sym c.all-bodies.ensures.texts) c.piece_of-2.ensures.grows in
    let again = next_again b (nodes c.in_ok-values.values) m (rw (← c.fresh-first.ensures b) (c.in_ok-values.ensures.gives [] k)) in
    let read = gives_seen (λ x. (nodes x.0, state x.1.now c.piece_of-2.new.notes)) c.piece_of-2.result (vals (sh_with m.found) (rule piece) (state b c.fresh-second.result)) (c.piece_of-2.ensures.gives m.found l) in
    rw (again, ← c.fresh-second.ensures b) read

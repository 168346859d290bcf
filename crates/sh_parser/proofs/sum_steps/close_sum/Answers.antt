use Rattle.std.proofs.lemmas.Result.{err_from_is_err_and}
use Rattle.sh_grammar.specs.Steps.{run_step}
use Rattle.sh_grammar.specs.Expansions.{behind_two}
use Rattle.sh_parser.specs.Answers.{is_memory}
use Rattle.sh_parser.specs.Views.{state}
use Rattle.sh_parser.proofs.Opened.{sum_closed, sum_unclosed}
use Rattle.sh_parser.proofs.sum_steps.close_sum.Goals as goal

pub returns-in_err-expr : goal.returns-in_err-expr
unfolding run_step
returns-in_err-expr c =
    let p = err_from_is_err_and c.from_residual-in_err-expr.result c.from_residual-in_err-expr.ensures.1 in
    rw (p.1, p.2) (λ k. sum_unclosed (is_memory c.in_err-expr.field-0.0) (state c.args.bytes.now c.args.notes.now) (behind_two 41 41 c.args.bytes.now) c.in_ok-rest.rest.now c.in_ok-rest.ensures (c.in_err-expr.ensures c.in_ok-rest.rest.now))

pub returns : goal.returns
unfolding run_step
returns c = λ k. sum_closed (state c.args.bytes.now c.args.notes.now) (behind_two 41 41 c.args.bytes.now) c.in_ok-rest.rest.now c.in_ok-expr.expr (state c.in_ok-rest.rest.now c.close.new.notes) c.in_ok-rest.ensures (c.in_ok-expr.ensures c.in_ok-rest.rest.now)

use Rattle.std.specs.Prelude.{nat_lt}
use Rattle.std.proofs.lemmas.Result.{err_from_is_err_and}
use Rattle.sh_grammar.specs.Steps.{run_step}
use Rattle.sh_parser.specs.Answers.{is_memory}
use Rattle.sh_parser.specs.Views.{state}
use Rattle.sh_parser.proofs.Opened.{when_done, when_fails}
use Rattle.sh_parser.proofs.taking.enter_step.Goals as goal

pub returns-in_err-enter : goal.returns-in_err-enter
unfolding run_step
returns-in_err-enter c =
    let p = err_from_is_err_and c.from_residual.result c.from_residual.ensures.1 in
    rw (p.1, p.2) (λ k. when_fails (is_memory c.in_err-enter.field-0.0) (nat_lt c.args.notes.now.depth 1000) _ (c.in_err-enter.ensures c.args.bytes.now))

pub returns : goal.returns
unfolding run_step
returns c = λ k. when_done (nat_lt c.args.notes.now.depth 1000) _ (state c.args.bytes.now c.enter.new.notes) (c.in_ok-enter.ensures c.args.bytes.now)

use Rattle.std.proofs.Common.{[], ◌∷◌}
use Rattle.std.proofs.lemmas.Result.{err_from_is_err_and}
use Rattle.sh_grammar.specs.Steps.{run_step, behind}
use Rattle.sh_parser.specs.Answers.{is_memory}
use Rattle.sh_parser.specs.Views.{state}
use Rattle.sh_parser.proofs.Opened.{paren_done, memory_only}
use Rattle.sh_parser.proofs.sum_steps.sum_open.Goals as goal

pub returns-in_err-append : goal.returns-in_err-append
returns-in_err-append c =
    let p = err_from_is_err_and c.from_residual-in_err-append.result c.from_residual-in_err-append.ensures.1 in
    rw (p.1, p.2) (λ k. memory_only (is_memory c.in_err-append.field-0.0) _ _ (c.in_err-append.ensures c.args.bytes.now))

pub returns : goal.returns
unfolding run_step
returns c = λ k. paren_done (state c.args.bytes.now c.args.notes.now) (40 ∷ []) (behind 40 c.args.bytes.now) c.in_ok-rest.rest.now (state c.in_ok-rest.rest.now c.append.new.notes) c.in_ok-rest.ensures (c.in_ok-append.ensures c.in_ok-rest.rest.now)

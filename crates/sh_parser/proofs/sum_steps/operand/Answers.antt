use Rattle.std.proofs.Common.{[], Some, ap}
use Rattle.std.proofs.lemmas.Result.{err_from_is_err_and}
use Rattle.text_grammar.proofs.Tools.{some_is}
use Rattle.sh_grammar.specs.State.{State}
use Rattle.sh_grammar.specs.Steps.{run_step}
use Rattle.sh_parser.specs.Answers.{is_memory}
use Rattle.sh_parser.specs.Views.{state}
use Rattle.sh_parser.proofs.Opened.{memory_only}
use Rattle.sh_parser.proofs.sum_steps.operand.Goals as goal

pub returns-in_err-append_operand : goal.returns-in_err-append_operand
returns-in_err-append_operand c =
    let p = err_from_is_err_and c.from_residual.result c.from_residual.ensures.1 in
    rw (p.1, p.2) (λ k. memory_only (is_memory c.in_err-append_operand.field-0.0) _ _ (c.in_err-append_operand.ensures c.args.bytes.now))

pub returns : goal.returns
unfolding run_step
returns c = λ k. ap (λ (z : State). Some ([], z)) (some_is _ (state c.args.bytes.now c.append_operand.new.notes) (c.in_ok-append_operand.ensures c.args.bytes.now))

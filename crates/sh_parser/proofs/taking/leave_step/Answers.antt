use Rattle.std.proofs.Common.{[], Some, sym, ap}
use Rattle.sh_grammar.specs.State.{State}
use Rattle.sh_grammar.specs.Steps.{run_step}
use Rattle.sh_parser.proofs.taking.leave_step.Goals as goal

pub returns : goal.returns
unfolding run_step
returns c = λ k. ap (λ (z : State). Some ([], z)) (sym (c.leave.ensures c.args.bytes.now))

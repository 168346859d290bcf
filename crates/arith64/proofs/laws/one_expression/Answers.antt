use Rattle.arith64.proofs.Complete.{unique}
use Rattle.arith64.proofs.laws.one_expression.Goals as goal

pub returns : goal.returns
returns c = unique

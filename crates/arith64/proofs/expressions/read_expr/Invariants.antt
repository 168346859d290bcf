use Rattle.arith64.proofs.Loop.{Kept}
use Rattle.arith64.proofs.expressions.read_expr.Given as goal

abbrev pub invariant-loop-at : goal.invariant-loop-at
invariant-loop-at l = Kept l.text l.operands l.at l.number l.spans l.reader

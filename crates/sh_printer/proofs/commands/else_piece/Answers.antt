use Rattle.std.proofs.Common.{refl, arith}
use Rattle.sh_printer.proofs.commands.else_piece.Goals as goal

pub returns-in-None-clause-text : goal.returns-in-None-clause-text
returns-in-None-clause-text c = λ full. rw c.in-None.is refl

pub returns-in-Some-clause-text : goal.returns-in-Some-clause-text
returns-in-Some-clause-text c = λ full. rw (c.in-Some.is, c.between.ensures.text full) refl

pub returns-in-Some-clause-weight : goal.returns-in-Some-clause-weight
returns-in-Some-clause-weight c = rw (c.in-Some.is, c.between.ensures.weight) (omega arith)

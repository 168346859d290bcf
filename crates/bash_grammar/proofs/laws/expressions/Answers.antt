use Rattle.bash_grammar.proofs.Outcomes as outcomes
use Rattle.bash_grammar.proofs.laws.expressions.Goals as goal

pub returns-clause-complete : goal.returns-clause-complete
returns-clause-complete c = outcomes.sum_complete

pub returns-clause-fails : goal.returns-clause-fails
returns-clause-fails c = outcomes.sum_none

pub returns-clause-place : goal.returns-clause-place
returns-clause-place c = outcomes.sum_place

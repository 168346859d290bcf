use Rattle.bash_grammar.proofs.Whole as whole
use Rattle.bash_grammar.proofs.laws.piecewise.Goals as goal

pub returns-clause-fails : goal.returns-clause-fails
returns-clause-fails c = whole.reads_none

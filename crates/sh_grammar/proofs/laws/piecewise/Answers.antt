use Rattle.sh_grammar.proofs.Whole as whole
use Rattle.sh_grammar.proofs.laws.piecewise.Goals as goal

pub returns-clause-fails : goal.returns-clause-fails
returns-clause-fails c = whole.reads_none

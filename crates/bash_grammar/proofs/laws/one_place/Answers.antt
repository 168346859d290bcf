use Rattle.bash_grammar.proofs.Pieces as pieces
use Rattle.bash_grammar.proofs.laws.one_place.Goals as goal

pub returns-clause-one : goal.returns-clause-one
returns-clause-one c = pieces.one_error

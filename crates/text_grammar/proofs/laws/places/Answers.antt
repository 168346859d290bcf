use Rattle.text_grammar.proofs.Pieces as pieces
use Rattle.text_grammar.proofs.laws.places.Goals as goal

pub returns-clause-one : goal.returns-clause-one
returns-clause-one g c = pieces.one_place_at

use Rattle.text_grammar.proofs.Pieces as pieces
use Rattle.text_grammar.proofs.laws.whole_texts.Goals as goal

pub returns-clause-one : goal.returns-clause-one
returns-clause-one g c = pieces.one_whole_at

pub returns-clause-place : goal.returns-clause-place
returns-clause-place g c = pieces.whole_place_at

pub returns-clause-values : goal.returns-clause-values
returns-clause-values g c = pieces.one_text_at

use Rattle.bash_grammar.proofs.Spelled as spelled
use Rattle.bash_grammar.proofs.laws.one_script.Goals as goal

pub returns : goal.returns
returns c = spelled.one_script

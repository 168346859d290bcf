-- What the code finds at the front, as the grammar says it.
use Rattle.std.specs.Prelude.{Option, Some}
use Rattle.bash_grammar.specs.Bytes.{Text}
use Rattle.bash_grammar.specs.Tokens.{◌>>=◌, name_at}

-- what follows the name here
abbrev pub name_rest : Text → Option Text
name_rest bytes = name_at bytes >>= λ x. Some x.1

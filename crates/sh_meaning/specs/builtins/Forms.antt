-- A simple command as it is written, where that decides what a built-in does.
use Rattle.std.specs.Prelude.{List, [], ◌∷◌}
use Rattle.shell_world.specs.Texts.{Text}
use Rattle.sh_grammar.specs.Shape.{Part, Parts, no_part, part, Words, no_word, word}

pub record Form : Type 0 where
  -- the functions that the script defines anywhere
  pub functions : List Text
  -- the names of the prefix assignments
  pub prefix : List Text
  -- the command's words, its name among them
  pub words : Words

abbrev pub list_of_parts : Parts → List Part
list_of_parts no_part = []
list_of_parts (part p ps) = p ∷ list_of_parts ps

abbrev pub list_of_words : Words → List Parts
list_of_words no_word = []
list_of_words (word w ws) = w ∷ list_of_words ws

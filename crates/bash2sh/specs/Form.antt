-- The scripts that are taken today: each command is one assignment, or a literal name that no shell knows with its arguments.
use Rattle.std.specs.Prelude.{ℕ, Bool, true, false, not, ◌&&◌, ◌||◌, List, [], ◌++◌}
use Rattle.span_text.specs.Names.{is_reserved}
use Rattle.span_text.specs.KnownNames.{is_known_command, is_special_name}
use Rattle.bash_tree.specs.Shape.{Part, plain, exact, double, param, Parts, no_part, part, Words, no_word, word, Value, no_value, value, no_assign, assign, Command, simple}

-- a variable that no shell sets by itself, and that isn't the translation's own
abbrev pub is_free_name : List ℕ → Bool
is_free_name name = not (is_special_name name || is_reserved name)

abbrev pub parts_form : (Part → Bool) → Parts → Bool
parts_form f no_part = true
parts_form f (part p ps) = f p && parts_form f ps

abbrev pub quoted_form : Part → Bool
quoted_form (plain text) = true
quoted_form (param name) = is_free_name name
quoted_form (exact text) = false
quoted_form (double ps) = false

abbrev pub part_form : Part → Bool
part_form (plain text) = true
part_form (exact text) = true
part_form (double ps) = parts_form quoted_form ps
part_form (param name) = false

abbrev pub word_form : Parts → Bool
word_form ps = parts_form part_form ps

abbrev pub words_form : Words → Bool
words_form no_word = true
words_form (word w ws) = word_form w && words_form ws

abbrev pub value_form : Value → Bool
value_form no_value = true
value_form (value w) = word_form w

-- ---- literal words: nothing in them is expanded

abbrev pub is_plain : Part → Bool
is_plain (plain text) = true
is_plain (exact text) = false
is_plain (double ps) = false
is_plain (param name) = false

abbrev pub is_literal_part : Part → Bool
is_literal_part (plain text) = true
is_literal_part (exact text) = true
is_literal_part (double ps) = parts_form is_plain ps
is_literal_part (param name) = false

abbrev pub is_literal : Parts → Bool
is_literal ps = parts_form is_literal_part ps

abbrev pub plain_text : Part → List ℕ
plain_text (plain text) = text
plain_text (exact text) = []
plain_text (double ps) = []
plain_text (param name) = []

abbrev pub texts_of : (Part → List ℕ) → Parts → List ℕ
texts_of f no_part = []
texts_of f (part p ps) = f p ++ texts_of f ps

abbrev pub literal_part_text : Part → List ℕ
literal_part_text (plain text) = text
literal_part_text (exact text) = text
literal_part_text (double ps) = texts_of plain_text ps
literal_part_text (param name) = []

abbrev pub literal_text : Parts → List ℕ
literal_text ps = texts_of literal_part_text ps

-- ---- commands

-- the name of a command that the table answers
abbrev pub is_free_command : List ℕ → Bool
is_free_command name = not (is_known_command name || is_reserved name)

abbrev pub name_form : Parts → Bool
name_form w = is_literal w && is_free_command (literal_text w)

abbrev pub command_form : Command → Bool
command_form (simple no_assign no_word) = false
command_form (simple no_assign (word w ws)) = name_form w && words_form ws
command_form (simple (assign name append v no_assign) no_word) = is_free_name name && value_form v
command_form (simple (assign name append v no_assign) (word w ws)) = false
command_form (simple (assign name append v (assign name' append' v' more)) ws) = false

-- What is refused of the names of variables, functions and commands.
use Rattle.std.specs.Prelude.{ℕ, Bool, ◌&&◌, not, List, [], ◌∷◌, ◌++◌, map, flat_map, Option, Some, None, if◌then◌else◌, codes}
use Rattle.span_text.specs.Names.{is_reserved}
use Rattle.span_text.specs.KnownNames.{same_text, is_among, is_special_name}
use Rattle.bash_grammar.specs.Bytes.{Text}
use Rattle.bash_grammar.specs.Shape.{Name, param, Word, Words, no_word, next_word, named, member, members, arith, assign, command, simple, walk, function}
use Rattle.bash_profile.specs.Sites.{Site, command_site, assign_site, part_site, sum_site}
use Rattle.bash_profile.specs.Literals.{is_literal, literal_name, operand_name, member_name}
use Rattle.bash_profile.specs.Kinds.{options_of}
use Rattle.bash_profile.specs.Known.{place_if, holds_of, word_from, name_from, command_name, command_from, arguments}

-- a name of a variable, and where it stands
pub record Named : Type 0 where
  pub text : Text
  pub from : ℕ

abbrev named_by : Name → Named
named_by n = record { text = n.text; from = n.span.from }

-- a word that names a variable, at its first byte
abbrev as_named : Option Text → Word → List Named
as_named None w = []
as_named (Some text) w = record { text = text; from = word_from w } ∷ []

abbrev pub operands : Words → List Named
operands no_word = []
operands (next_word w ws) = as_named (operand_name w) w ++ operands ws

abbrev or_member : Option Text → Option Text → Option Text
or_member None o = o
or_member (Some text) o = Some text

abbrev pub unset_names : Words → List Named
unset_names no_word = []
unset_names (next_word w ws) = as_named (or_member (member_name w) (literal_name w)) w ++ unset_names ws

abbrev pub literal_names : Words → List Named
literal_names no_word = []
literal_names (next_word w ws) = as_named (literal_name w) w ++ literal_names ws

-- of `printf -v NAME`
abbrev pub printed : Words → List Named
printed no_word = []
printed (next_word w no_word) = []
printed (next_word w (next_word v ws)) = if is_literal (codes "-v") w then as_named (literal_name v) v else []

abbrev operand_commands : List Text
operand_commands = codes "local" ∷ codes "declare" ∷ codes "typeset" ∷ codes "export" ∷ codes "readonly" ∷ []

abbrev reading_commands : List Text
reading_commands = codes "read" ∷ codes "mapfile" ∷ codes "readarray" ∷ []

-- the variables that the words of a built-in name
abbrev pub names_by : Text → Words → List Named
names_by name ws =
    if is_among operand_commands name then operands (options_of ws).operands
    else (if is_among reading_commands name then literal_names (options_of ws).operands
    else (if same_text (codes "unset") name then unset_names (options_of ws).operands
    else (if same_text (codes "printf") name then printed ws else [])))

abbrev names_if : Option Text → Words → List Named
names_if None ws = []
names_if (Some name) ws = names_by name ws

-- the names of variables that a node reads or assigns
abbrev pub names_at : Site → List Named
names_at (part_site a w (param (named n) o) s) = named_by n ∷ []
names_at (part_site a w (param (member n i) o) s) = named_by n ∷ []
names_at (part_site a w (param (members n b) o) s) = named_by n ∷ []
names_at (sum_site a r (arith e ws ns effects s)) = map named_by ns
names_at (assign_site a r (assign n i more v s)) = named_by n ∷ []
names_at (command_site a (command (walk n ws s) rs t)) = named_by n ∷ []
names_at (command_site a (command (simple xs ws) rs t)) = names_if (command_name ws) (arguments ws)
names_at x = []

-- ---- 19 special-name: a variable that shells set or read by themselves, other than IFS

abbrev is_special : Text → Bool
is_special name = is_special_name name && not (same_text (codes "IFS") name)

abbrev special_named : Named → List ℕ
special_named n = place_if (is_special n.text) n.from

abbrev pub special_name : Site → List ℕ
special_name x = flat_map special_named (names_at x)

-- ---- 20 reserved-prefix: a variable, a function or a literal name of a command that begins with `__bs_`

abbrev reserved_named : Named → List ℕ
reserved_named n = place_if (is_reserved n.text) n.from

abbrev reserved_command : Site → List ℕ
reserved_command (command_site a (command (simple xs ws) rs s)) = place_if (holds_of is_reserved (command_name ws)) (command_from ws)
reserved_command (command_site a (command (function n c) rs s)) = place_if (is_reserved n.text) (name_from n)
reserved_command x = []

abbrev pub reserved_prefix : Site → List ℕ
reserved_prefix x = flat_map reserved_named (names_at x) ++ reserved_command x

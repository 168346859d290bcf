-- Where reading is and what the code has read, as the grammar says it.
use Rattle.std.specs.Prelude.{ℕ, zero, suc, ◌+◌, Bool, true, false, List, [], ◌∷◌, ◌++◌, ◌&&◌, not, if◌then◌else◌, map, length, reverse, Option, Some, None}
use Rattle.text_grammar.specs.Grammar.{rule}
use Rattle.text_grammar.specs.Values.{vals}
use Rattle.sh_grammar.specs.Shape as shape
use Rattle.sh_grammar.specs.Bytes.{Text, Context, is_escaped, clear, unit_starts, in_word}
use Rattle.sh_grammar.specs.Expansions.{◌>>=◌}
use Rattle.sh_grammar.specs.State as states
use Rattle.sh_grammar.specs.State.{State, start_at, Node, word_in, text_node, part_node, word_node, digit_node, aimed_node, redirect_node, assign_node, kind_node, command_node, bang_node, pipeline_node, and_node, or_node, chain_node, script_node, branch_node, else_node, listed_node, item_node}
use Rattle.sh_grammar.specs.Table.{body_parts}
use Rattle.sh_grammar.specs.Bodies.{Owed, delimiter_for}
use Rattle.sh_grammar.specs.Steps.{Known, is_copied, word_place}
use Rattle.sh_grammar.specs.Sums.{innermost, without_innermost}
use Rattle.span_text.specs.declared.expr.Expr.{Expr}
use Rattle.sh_grammar.specs.Tokens as tokens
use Rattle.sh_grammar.specs.Spelling.{sh, no_parts}
use Rattle.sh_parser.specs.declared.notes.Notes.{Notes}
use Rattle.sh_parser.specs.declared.open_sum.Sum.{Sum}
use Rattle.sh_parser.specs.Owing.{owed_of}

-- ---- where reading is

abbrev pub sum_of : Sum → states.Sum
sum_of s = record { text = s.text; operands = s.operands.items }

abbrev pub state : Text → Notes → State
state bytes n = record { bytes = bytes; owed = map owed_of n.owed; named = length n.owed + length n.found; found = n.found; depth = n.depth; sums = reverse (map sum_of n.sums.items) }

-- what is known of the here-documents in the language `sh`
unfoldable pub known : ℕ → List Text → Known
known zero bodies = record { bodies = bodies; expand = no_parts }
known (suc n) bodies = record { bodies = bodies; expand = λ depth text. vals (sh n []) (rule body_parts) (start_at depth text) >>= λ x. vals (sh n x.1.found) (rule body_parts) (start_at depth text) >>= λ y. Some (word_in y.0) }

-- ---- what steps read

-- a name that is a whole word
abbrev pub whole_name : Option (Text × Text) → Option (Text × Text)
whole_name None = None
whole_name (Some x) = if unit_starts in_word x.1 then None else Some x

-- bodies behind those that came before
abbrev pub found_behind : List Text → Option (List Text × Text) → Option (List Text × Text)
found_behind found None = None
found_behind found (Some x) = Some (found ++ x.0, x.1)

-- behind a newline, where these bodies came
abbrev pub lined : State → Option (List Text × Text) → Option State
lined s None = None
lined s (Some x) = Some (record s { bytes = x.1; owed = []; found = s.found ++ x.0 })

abbrev pub file_op : tokens.Op × Text → Option (shape.RedirectOp × Text)
file_op (tokens.Less, rest) = Some (shape.read, rest)
file_op (tokens.Great, rest) = Some (shape.write, rest)
file_op (tokens.DGreat, rest) = Some (shape.append, rest)
file_op t = None

abbrev pub copy_op : tokens.Op × Text → Option (shape.RedirectOp × Text)
copy_op (tokens.LessAnd, rest) = Some (shape.copy_in, rest)
copy_op (tokens.GreatAnd, rest) = Some (shape.copy_out, rest)
copy_op t = None

-- whether it strips
abbrev pub here_op : tokens.Op × Text → Option (Bool × Text)
here_op (tokens.DLess, rest) = Some (false, rest)
here_op (tokens.DLessDash, rest) = Some (true, rest)
here_op t = None

abbrev pub copied : Text → Option (ℕ × Text)
copied [] = None
copied (b ∷ bs) = if is_copied b && not (unit_starts in_word (clear bs)) then Some (b, bs) else None

-- the byte that a backslash quotes there, and what follows it
abbrev pub escaped_first : Context → Text → Option (ℕ × Text)
escaped_first c [] = None
escaped_first c (b ∷ bs) = if is_escaped c b then Some (b, bs) else None

-- the expression of the innermost that stands open, which is closed
abbrev pub closed : State → Option (Expr × State)
closed s = innermost s.sums >>= λ e. Some (e, record s { sums = without_innermost s.sums })

abbrev pub fronted : Bool → (Text × Bool) × Text → Owed × Text
fronted strips d = (record { delimiter = d.0.0; literal = d.0.1; strips = strips }, d.1)

-- behind a strip or none, and the place of the delimiter
abbrev pub fronted_at : Bool → Text → Option (Owed × Text)
fronted_at strips bytes = word_place bytes >>= λ place. delimiter_for strips place >>= λ d. Some (fronted strips d)

-- what a here-document owes, behind its operator and delimiter
abbrev pub here_front : Text → Option (Owed × Text)
here_front bytes = here_op (tokens.token bytes) >>= λ x. fronted_at x.0 x.1

-- Parameters and their values (POSIX XCU 2.5).
use Rattle.std.specs.Prelude.{ℕ, ◌-◌, Bool, true, false, List, [], ◌∷◌, length, take, drop, decimal, Option, Some, None, is_none, codes}
use Rattle.std.specs.Str.Parse.{digits_value}
use Rattle.glob_pattern.specs.Lengths.{least, greatest, front_matches, end_matches}
use Rattle.glob_pattern.specs.declared.piece.Piece.{Piece}
use Rattle.shell_world.specs.Texts.{Text, lookup, nth, text_or_none}
use Rattle.sh_grammar.specs.Shape.{Param, named, digits, count, status, at, star}
use Rattle.sh_meaning.specs.declared.variable.Variable.{Variable}
use Rattle.sh_meaning.specs.Own.{Own, arguments}

abbrev pub value_in : Option Variable → Option Text
value_in None = None
value_in (Some v) = v.value

-- the text of a variable, where it is set
abbrev pub variable : Text → Own → Option Text
variable name o = value_in (lookup name o.vars)

abbrev pub home : Own → Option Text
home o = variable (codes "HOME") o

abbrev pub ifs : Own → Option Text
ifs o = variable (codes "IFS") o

-- the number of the positional parameters
abbrev pub argument_count : Own → ℕ
argument_count o = length (arguments o)

-- a parameter's text, where it is set; `$@` and `$*` have none of their own
abbrev pub parameter : Param → Own → Option Text
parameter (named name) o = variable name o
parameter (digits text) o = nth (digits_value 10 text) o.params
parameter count o = Some (decimal (argument_count o))
parameter status o = Some (decimal o.status)
parameter at o = None
parameter star o = None

-- an unset one gives the empty text
abbrev pub parameter_text : Param → Own → Text
parameter_text p o = text_or_none (parameter p o)

abbrev pub is_empty : Option Text → Bool
is_empty None = true
is_empty (Some []) = true
is_empty (Some (b ∷ bs)) = false

-- unset, and with a colon empty too (2.6.2)
abbrev pub is_lacking : (colon : Bool) → Option Text → Bool
is_lacking true text = is_empty text
is_lacking false text = is_none text

-- ---- prefixes and suffixes that match a pattern are removed (2.6.2)

abbrev pub without_front : Option ℕ → Text → Text
without_front None text = text
without_front (Some n) text = drop n text

abbrev pub without_end : Option ℕ → Text → Text
without_end None text = text
without_end (Some n) text = take (length text - n) text

abbrev pub trimmed : (suffix longest : Bool) → List Piece → Text → Text
trimmed false false pieces text = without_front (least (front_matches pieces text) (length text)) text
trimmed false true pieces text = without_front (greatest (front_matches pieces text) (length text)) text
trimmed true false pieces text = without_end (least (end_matches pieces text) (length text)) text
trimmed true true pieces text = without_end (greatest (end_matches pieces text) (length text)) text

-- what nothing says the end of: `${#@}`, and `${@#a}` or `${##a}`
abbrev pub has_length : Param → Bool
has_length (named name) = true
has_length (digits text) = true
has_length count = true
has_length status = true
has_length at = false
has_length star = false

abbrev pub can_trim : Param → Bool
can_trim (named name) = true
can_trim (digits text) = true
can_trim count = false
can_trim status = true
can_trim at = false
can_trim star = false

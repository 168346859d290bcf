-- The marks between the words, the redirections and the commands that are printed.
use Rattle.std.specs.Prelude.{ℕ, Bool, true, false, [], ◌∷◌, ◌++◌, Option, Some, None, codes, ◌==◌, if◌then◌else◌}
use Rattle.sh_grammar.specs.Shape.{Param, named, digits, count, status, at, star, FillTest, default, assigning, alternate, RedirectOp, read, write, append, here_literal, here_expanded, copy_in, copy_out}
use Rattle.sh_grammar.specs.Bytes.{Text}
use Rattle.std.specs.Fmt.{decimal}
use Rattle.sh_printing.specs.Delimiters.{delimiter}

-- ---- commands

-- what ends a command: `|`, `&&`, `||`, `;`, or a newline
pub data End : Type 0 where
  piped : End
  and_then : End
  or_else : End
  next : End
  line : End

abbrev pub blank : Text
blank = 32 ∷ []

-- a blank, or a newline and the bodies that are still to come
abbrev pub gap : Text → Text
gap [] = blank
gap (b ∷ bs) = 10 ∷ b ∷ bs

-- a `;`, or a newline and the bodies that are still to come
abbrev separator : Text → Text
separator [] = codes "; "
separator (b ∷ bs) = 10 ∷ b ∷ bs

abbrev pub ended : End → Text → Text
ended piped owed = codes " |" ++ gap owed
ended and_then owed = codes " &&" ++ gap owed
ended or_else owed = codes " ||" ++ gap owed
ended next owed = separator owed
ended line owed = 10 ∷ owed

abbrev pub loop_key : Bool → Text
loop_key true = codes "until "
loop_key false = codes "while "

-- behind something else, with a blank between them
abbrev pub led : Bool → Text → Text
led true text = 32 ∷ text
led false text = text

-- ---- quotes

abbrev pub is_quote : Text → Bool
is_quote [] = false
is_quote (b ∷ []) = b == 39
is_quote (b ∷ c ∷ cs) = false

abbrev pub exact_by : (quoted : Bool) → Text → Text
exact_by false text = 92 ∷ text
exact_by true text = 39 ∷ text ++ 39 ∷ []

-- `'ab'`, or with a backslash where such quotes are none (2.2.1, 2.2.2)
abbrev pub exact_text : Bool → Text → Text
exact_text false text = 92 ∷ text
exact_text true text = if is_quote text then 92 ∷ text else 39 ∷ text ++ 39 ∷ []

-- ---- parameters

abbrev pub param_name : Param → Text
param_name (named name) = name
param_name (digits text) = text
param_name count = codes "#"
param_name status = codes "?"
param_name at = codes "@"
param_name star = codes "*"

abbrev pub braced : Text → Text
braced text = codes "${" ++ text ++ codes "}"

abbrev pub named_text : Bool → Text → Text
named_text true name = braced name
named_text false name = 36 ∷ name

abbrev pub digits_text : Text → Text
digits_text [] = braced []
digits_text (b ∷ []) = 36 ∷ b ∷ []
digits_text (b ∷ c ∷ cs) = braced (b ∷ c ∷ cs)

-- `$a`, or `${a}` where more of a name follows
abbrev pub param_text : Bool → Param → Text
param_text more (named name) = named_text more name
param_text more (digits text) = digits_text text
param_text more count = codes "$#"
param_text more status = codes "$?"
param_text more at = codes "$@"
param_text more star = codes "$*"

abbrev pub colon_text : Bool → Text
colon_text true = codes ":"
colon_text false = []

abbrev pub test_text : FillTest → Text
test_text default = codes "-"
test_text assigning = codes "="
test_text alternate = codes "+"

abbrev pub trim_mark : (suffix longest : Bool) → Text
trim_mark false false = codes "#"
trim_mark false true = codes "##"
trim_mark true false = codes "%"
trim_mark true true = codes "%%"

-- ---- redirections

-- the descriptor before the operator
abbrev pub fd_text : Option ℕ → Text
fd_text None = []
fd_text (Some n) = decimal n

-- a here-document
abbrev pub is_here : RedirectOp → Bool
is_here read = false
is_here write = false
is_here append = false
is_here here_literal = true
is_here here_expanded = true
is_here copy_in = false
is_here copy_out = false

-- The delimiter of a body. Past a search for a line that can't be it, a blank stands in its place.
abbrev pub delimiter_text : (full : Bool) → Text → Text
delimiter_text true body = delimiter body
delimiter_text false body = blank

-- a body and the line of its delimiter
abbrev pub whole_body : (full : Bool) → Text → Text
whole_body full body = body ++ delimiter_text full body ++ 10 ∷ []

-- an operator, and the word behind it or the delimiter of the body
abbrev pub aimed_text : (full : Bool) → RedirectOp → (body word : Text) → Text
aimed_text full read body word = codes "<" ++ word
aimed_text full write body word = codes ">" ++ word
aimed_text full append body word = codes ">>" ++ word
aimed_text full here_literal body word = codes "<<'" ++ delimiter_text full body ++ codes "'"
aimed_text full here_expanded body word = codes "<<" ++ delimiter_text full body
aimed_text full copy_in body word = codes "<&" ++ word
aimed_text full copy_out body word = codes ">&" ++ word

-- the bodies that are still to come behind a word, none where a newline stood in it
abbrev pub behind_word : Bool → Text → Text
behind_word true owed = []
behind_word false owed = owed

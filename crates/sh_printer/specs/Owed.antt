-- The bodies of here-documents that are still to come, as the redirections that have them.
use Rattle.std.specs.Prelude.{Bool, true, false, ◌||◌, List, [], ◌∷◌, ◌++◌}
use Rattle.span_text.specs.Names.{continues_name}
use Rattle.sh_grammar.specs.Shape as shape
use Rattle.sh_grammar.specs.Bytes.{Text, in_body, starts}
use Rattle.sh_printing.specs.Marks.{blank, is_here, whole_body}
use Rattle.sh_printing.specs.Printing.{parts_text}
use Rattle.sh_syntax.specs.View.{Aimed}

-- one of the redirections is a here-document
abbrev pub has_here : List Aimed → Bool
has_here [] = false
has_here (r ∷ rs) = is_here r.op || has_here rs

-- the part goes on with a name before it
abbrev pub part_goes_on : shape.Part → Bool
part_goes_on (shape.plain text) = starts continues_name text
part_goes_on (shape.exact text) = false
part_goes_on (shape.double ps) = false
part_goes_on shape.tilde = false
part_goes_on (shape.param p o) = false
part_goes_on (shape.subst s) = false
part_goes_on (shape.arith e ws) = false

-- a body and the line of its delimiter, or nothing where the redirection has none
abbrev pub body_by : (here full : Bool) → Text → Text
body_by false full body = []
body_by true full body = whole_body full body

abbrev pub body_text : (full : Bool) → Aimed → Text
body_text full r = body_by (is_here r.op) full (parts_text full in_body blank r.word)

-- the bodies in the order of the operators
abbrev pub owed_text : (full : Bool) → List Aimed → Text
owed_text full [] = []
owed_text full (r ∷ rs) = body_text full r ++ owed_text full rs

-- behind a part in which a newline stood nothing is owed any more
abbrev pub still_owed : {X : Type 0} → (opens : Bool) → List X → List X
still_owed true xs = []
still_owed false xs = xs

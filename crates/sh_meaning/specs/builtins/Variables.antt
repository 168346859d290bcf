-- `export` and `unset` (POSIX XCU 2.14), and what `read` assigns.
use Rattle.std.specs.Prelude.{ℕ, Bool, true, not, ◌&&◌, ◌==◌, if◌then◌else◌, List, [], ◌∷◌, length, drop, Option, Some, None, codes}
use Rattle.std.specs.List.{list_all, prefix_len}
use Rattle.span_text.specs.KnownNames.{same_text, is_among}
use Rattle.span_text.specs.Names.{is_name}
use Rattle.shell_world.specs.Texts.{Text, lookup, insert}
use Rattle.sh_meaning.specs.declared.variable.Variable.{Variable}
use Rattle.sh_meaning.specs.builtins.Core.{Core}
use Rattle.sh_meaning.specs.Variables.{Variables, new_variable, variable_or_new}
use Rattle.sh_meaning.specs.builtins.Ends.{CoreEnding, ends}
use Rattle.sh_meaning.specs.builtins.Export.{are_operands, name_of, is_before_equals}
use Rattle.sh_meaning.specs.builtins.Forms.{Form}
use Rattle.sh_meaning.specs.builtins.Literals.{are_written}

abbrev pub vars_set : Variables → Core → Core
vars_set vs o = record o { vars = vs }

-- the text of a variable that has one
abbrev pub value_of : Option Variable → Option Text
value_of None = None
value_of (Some v) = v.value

abbrev pub value_at : Text → Variables → Option Text
value_at name vs = value_of (lookup name vs)

-- ---- `export name`, `export name=text`

-- what stands from the `=` on
abbrev pub from_equals : Text → Text
from_equals operand = drop (prefix_len is_before_equals operand) operand

abbrev pub exported_as : Text → Text → Variables → Variables
exported_as name [] vs = insert name (record (variable_or_new (lookup name vs)) { exported = true }) vs
exported_as name (equals ∷ text) vs = insert name (record { value = Some text; exported = true }) vs

-- a variable without a value gets the mark alone
abbrev pub export_one : Text → Variables → Variables
export_one operand vs = exported_as (name_of operand) (from_equals operand) vs

abbrev pub export_all : List Text → Variables → Variables
export_all [] vs = vs
export_all (operand ∷ more) vs = export_all more (export_one operand vs)

-- there is an operand at least, each has a name, and each is written in a form of this built-in
abbrev pub can_export : Form → List Text → Bool
can_export form args = not (length args == 0) && list_all (λ operand. is_name (name_of operand)) args && are_operands (length args) form.words

abbrev pub export_run : Form → List Text → Core → CoreEnding
export_run form args o = if can_export form args then ends 0 (vars_set (export_all args o.vars) o) else None

-- ---- `unset name`, `unset -v name`

-- it has neither a value nor the mark then
abbrev pub unset_one : Text → Variables → Variables
unset_one name vs = insert name new_variable vs

abbrev pub unset_all : List Text → Variables → Variables
unset_all [] vs = vs
unset_all (name ∷ more) vs = unset_all more (unset_one name vs)

-- a name that no function of the script has
abbrev pub is_unset_name : Form → Text → Bool
is_unset_name form name = is_name name && not (is_among form.functions name)

-- behind k words there is a name at least, each is one, and each is written as it is
abbrev pub can_unset : ℕ → Form → List Text → Bool
can_unset k form names = not (length names == 0) && list_all (is_unset_name form) names && are_written k (length names) form.words

abbrev pub unset_names : ℕ → Form → List Text → Core → CoreEnding
unset_names k form names o = if can_unset k form names then ends 0 (vars_set (unset_all names o.vars) o) else None

abbrev pub unset_run : Form → List Text → Core → CoreEnding
unset_run form [] o = None
unset_run form (first ∷ more) o = if same_text (codes "-v") first then unset_names 2 form more o else unset_names 1 form (first ∷ more) o

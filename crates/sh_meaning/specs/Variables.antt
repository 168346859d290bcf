-- The variables of sh: one map from names to a text or no value, with an exported mark (POSIX 2.5.3).
use Rattle.std.specs.Prelude.{Bool, true, false, List, [], ◌∷◌, Option, Some, None}
use Rattle.shell_world.specs.Texts.{Text, Map, lookup, insert}
use Rattle.sh_meaning.specs.declared.variable.Variable.{Variable}

abbrev pub Variables : Type 0
Variables = Map Variable

abbrev pub text_of_value : Option Text → Text
text_of_value None = []
text_of_value (Some t) = t

abbrev pub text_of_variable : Option Variable → Text
text_of_variable None = []
text_of_variable (Some v) = text_of_value v.value

-- what `"$name"` gives
abbrev pub text_of : Text → Variables → Text
text_of name vs = text_of_variable (lookup name vs)

abbrev pub new_variable : Variable
new_variable = record { value = None; exported = false }

abbrev pub variable_or_new : Option Variable → Variable
variable_or_new None = new_variable
variable_or_new (Some v) = v

abbrev pub holding : Text → Variable → Variable
holding t v = record v { value = Some t }

abbrev pub assign : Text → Text → Variables → Variables
assign name t vs = insert name (holding t (variable_or_new (lookup name vs))) vs

abbrev pub put_if : Bool → Text × Text → List (Text × Text) → List (Text × Text)
put_if true v vs = v ∷ vs
put_if false v vs = vs

abbrev pub put_value : Text → Bool → Option Text → List (Text × Text) → List (Text × Text)
put_value name exported None vs = vs
put_value name exported (Some t) vs = put_if exported (name, t) vs

-- what an external command sees: the variables that are exported and have a value, sorted by name (2.9.1.4)
abbrev pub environment : Variables → List (Text × Text)
environment [] = []
environment (v ∷ vs) = put_value v.0 v.1.exported v.1.value (environment vs)

abbrev pub from_environment : Text → Variable
from_environment t = record { value = Some t; exported = true }

abbrev pub start_imported : List (Text × Text) → Variables
start_imported [] = []
start_imported (e ∷ es) = insert e.0 (from_environment e.1) (start_imported es)

-- at the start: the environment, and IFS, which isn't exported
abbrev pub start_variables : List (Text × Text) → Text → Text → Variables
start_variables env ifs_name ifs = insert ifs_name (holding ifs new_variable) (start_imported env)

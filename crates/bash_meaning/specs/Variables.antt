-- Bash's variables: a list of scopes of cells (Bash manual, sections 3.4 and 3.3).
use Rattle.std.specs.Prelude.{Bool, true, false, List, [], ◌∷◌, Option, Some, None}
use Rattle.shell_world.specs.Texts.{Text, Map, lookup, insert}
use Rattle.bash_meaning.specs.declared.cell.Cell.{Cell}
use Rattle.bash_meaning.specs.declared.cell.Value.{Value}
use Rattle.bash_meaning.specs.declared.cell.Value.TheVariants.{Unset, One}

abbrev pub Scope : Type 0
Scope = Map Cell

-- a scope for each function that runs, the innermost first, and the one at the bottom
pub record Scopes : Type 0 where
  pub inner : List Scope
  pub bottom : Scope

abbrev pub first_of : Option Cell → Option Cell → Option Cell
first_of (Some c) further = Some c
first_of None further = further

abbrev pub find_in : Text → List Scope → Scope → Option Cell
find_in name [] bottom = lookup name bottom
find_in name (s ∷ ss) bottom = first_of (lookup name s) (find_in name ss bottom)

-- the nearest cell of a name
abbrev pub find : Text → Scopes → Option Cell
find name v = find_in name v.inner v.bottom

abbrev pub text_of_value : Value → Text
text_of_value Unset = []
text_of_value (One t) = t

abbrev pub text_of_cell : Option Cell → Text
text_of_cell None = []
text_of_cell (Some c) = text_of_value c.value

-- what `"$name"` gives
abbrev pub text_of : Text → Scopes → Text
text_of name v = text_of_cell (find name v)

abbrev pub new_cell : Cell
new_cell = record { value = Unset; exported = false; assoc = false }

abbrev pub cell_or_new : Option Cell → Cell
cell_or_new None = new_cell
cell_or_new (Some c) = c

abbrev pub holding : Text → Cell → Cell
holding t c = record c { value = One t }

-- a scope in which the name's cell, or a new one, holds the text
abbrev pub assigned_in : Text → Text → Scope → Scope
assigned_in name t s = insert name (holding t (cell_or_new (lookup name s))) s

abbrev pub below : Scope → Scopes → Scopes
below s v = record v { inner = s ∷ v.inner }

abbrev pub where_found : Option Cell → Scopes → Scopes → Scopes
where_found (Some c) here further = here
where_found None here further = further

abbrev pub assign_from : Text → Text → List Scope → Scope → Scopes
assign_from name t [] bottom = record { inner = []; bottom = assigned_in name t bottom }
assign_from name t (s ∷ ss) bottom =
    where_found (lookup name s) (record { inner = assigned_in name t s ∷ ss; bottom = bottom }) (below s (assign_from name t ss bottom))

-- the nearest cell holds the text, or a new one at the bottom
abbrev pub assign : Text → Text → Scopes → Scopes
assign name t v = assign_from name t v.inner v.bottom

-- the cells of the one, and of the other where the one has none
abbrev pub over : Scope → Scope → Scope
over [] s = s
over (c ∷ cs) s = insert c.0 c.1 (over cs s)

-- the nearest cells
abbrev pub nearest : List Scope → Scope → Scope
nearest [] bottom = bottom
nearest (s ∷ ss) bottom = over s (nearest ss bottom)

abbrev pub put_if : Bool → Text × Text → List (Text × Text) → List (Text × Text)
put_if true v vs = v ∷ vs
put_if false v vs = vs

abbrev pub put_value : Text → Bool → Value → List (Text × Text) → List (Text × Text)
put_value name exported Unset vs = vs
put_value name exported (One t) vs = put_if exported (name, t) vs

abbrev pub exported_of : Scope → List (Text × Text)
exported_of [] = []
exported_of (c ∷ cs) = put_value c.0 c.1.exported c.1.value (exported_of cs)

-- what an external command sees: the nearest cells that are exported and have a value, sorted by name (3.7.3)
abbrev pub environment : Scopes → List (Text × Text)
environment v = exported_of (nearest v.inner v.bottom)

abbrev pub from_environment : Text → Cell
from_environment t = record { value = One t; exported = true; assoc = false }

abbrev pub start_cells : List (Text × Text) → Scope
start_cells [] = []
start_cells (e ∷ es) = insert e.0 (from_environment e.1) (start_cells es)

-- at the start: the environment, and IFS, which isn't exported
abbrev pub start_scopes : List (Text × Text) → Text → Text → Scopes
start_scopes env ifs_name ifs = record { inner = []; bottom = insert ifs_name (holding ifs new_cell) (start_cells env) }

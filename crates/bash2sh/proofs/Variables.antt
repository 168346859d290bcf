-- The one scope of these scripts and sh's variables hold the same.
use Rattle.std.proofs.Common.{◌≡◌, Bool, true, false, List, [], ◌∷◌, Option, Some, None, refl, ap, ◌∙◌}
use Rattle.std.specs.declared.cmp.Ordering.{Ordering}
use Rattle.std.specs.declared.cmp.Ordering.TheVariants.{Less, Equal, Greater}
use Rattle.std.specs.Ordering.{eq_by_cmp}
use Rattle.std.proofs.Common.{cond}
use Rattle.std.specs.FinMap.Entries.{by_order}
use Rattle.shell_world.specs.Texts.{Text, text_cmp, lookup, insert}
use Rattle.bash_meaning.specs.Variables as bash
use Rattle.bash_meaning.specs.declared.cell.Cell.{Cell}
use Rattle.bash_meaning.specs.declared.cell.Value.{Value}
use Rattle.bash_meaning.specs.declared.cell.Value.TheVariants.{Unset, One}
use Rattle.sh_meaning.specs.Variables as sh
use Rattle.sh_meaning.specs.declared.variable.Variable.{Variable}

abbrev pub flat_value : Value → Option Text
flat_value Unset = None
flat_value (One t) = Some t

-- a cell as sh has it
abbrev pub flat : Cell → Variable
flat c = record { value = flat_value c.value; exported = c.exported }

abbrev pub flattened : bash.Scope → sh.Variables
flattened [] = []
flattened (c ∷ cs) = (c.0, flat c.1) ∷ flattened cs

abbrev pub flat_found : Option Cell → Option Variable
flat_found None = None
flat_found (Some c) = Some (flat c)

found_next : (b : Bool) (c : Cell) (x : Option Variable) (y : Option Cell) → x ≡ flat_found y → cond b (Some (flat c)) x ≡ flat_found (cond b (Some c) y)
found_next true c x y e = refl
found_next false c x y e = e

pub lookup_flat : (name : Text) (s : bash.Scope) → lookup name (flattened s) ≡ flat_found (lookup name s)
lookup_flat name [] = refl
lookup_flat name (c ∷ cs) = found_next (eq_by_cmp text_cmp name c.0) c.1 (lookup name (flattened cs)) (lookup name cs) (lookup_flat name cs)

put_next : (o : Ordering) (name : Text) (c : Cell) (e : Text × Cell) (es : bash.Scope) (x : sh.Variables) (y : bash.Scope) → x ≡ flattened y
    → by_order o ((name, flat c) ∷ (e.0, flat e.1) ∷ flattened es) ((e.0, flat c) ∷ flattened es) ((e.0, flat e.1) ∷ x) ≡ flattened (by_order o ((name, c) ∷ e ∷ es) ((e.0, c) ∷ es) (e ∷ y))
put_next Less name c e es x y h = refl
put_next Equal name c e es x y h = refl
put_next Greater name c e es x y h = ap (λ (l : sh.Variables). (e.0, flat e.1) ∷ l) h

pub insert_flat : (name : Text) (c : Cell) (s : bash.Scope) → insert name (flat c) (flattened s) ≡ flattened (insert name c s)
insert_flat name c [] = refl
insert_flat name c (e ∷ es) = put_next (text_cmp name e.0) name c e es (insert name (flat c) (flattened es)) (insert name c es) (insert_flat name c es)

text_of_flat : (o : Option Cell) → sh.text_of_variable (flat_found o) ≡ bash.text_of_cell o
text_of_flat None = refl
text_of_flat (Some c) = by c.value
  where
    by : (v : Value) → sh.text_of_value (flat_value v) ≡ bash.text_of_value v
    by Unset = refl
    by (One t) = refl

-- what a name gives
pub text_same : (name : Text) (s : bash.Scope) → sh.text_of name (flattened s) ≡ bash.text_of name (record { inner = []; bottom = s })
text_same name s = ap sh.text_of_variable (lookup_flat name s) ∙ text_of_flat (lookup name s)

held_flat : (t : Text) (o : Option Cell) → sh.holding t (sh.variable_or_new (flat_found o)) ≡ flat (bash.holding t (bash.cell_or_new o))
held_flat t None = refl
held_flat t (Some c) = refl

-- an assignment
pub assigned_same : (name t : Text) (s : bash.Scope) → sh.assign name t (flattened s) ≡ flattened (bash.assigned_in name t s)
assigned_same name t s =
    ap (λ (v : Variable). insert name v (flattened s)) (ap (λ (o : Option Variable). sh.holding t (sh.variable_or_new o)) (lookup_flat name s) ∙ held_flat t (lookup name s))
    ∙ insert_flat name (bash.holding t (bash.cell_or_new (lookup name s))) s

put_same : (exported : Bool) (v : Text × Text) (x y : List (Text × Text)) → x ≡ y → sh.put_if exported v x ≡ bash.put_if exported v y
put_same true v x y e = ap (λ (l : List (Text × Text)). v ∷ l) e
put_same false v x y e = e

value_same : (name : Text) (exported : Bool) (v : Value) (x y : List (Text × Text)) → x ≡ y → sh.put_value name exported (flat_value v) x ≡ bash.put_value name exported v y
value_same name exported Unset x y e = e
value_same name exported (One t) x y e = put_same exported (name, t) x y e

-- what a command sees
pub environment_same : (s : bash.Scope) → sh.environment (flattened s) ≡ bash.exported_of s
environment_same [] = refl
environment_same (c ∷ cs) = value_same c.0 c.1.exported c.1.value (sh.environment (flattened cs)) (bash.exported_of cs) (environment_same cs)

imported_same : (env : List (Text × Text)) → sh.start_imported env ≡ flattened (bash.start_cells env)
imported_same [] = refl
imported_same (e ∷ es) = ap (λ (l : sh.Variables). insert e.0 (sh.from_environment e.1) l) (imported_same es) ∙ insert_flat e.0 (bash.from_environment e.1) (bash.start_cells es)

pub start_same : (env : List (Text × Text)) (name ifs : Text) → sh.start_variables env name ifs ≡ flattened (bash.start_scopes env name ifs).bottom
start_same env name ifs =
    ap (λ (l : sh.Variables). insert name (sh.holding ifs sh.new_variable) l) (imported_same env) ∙ insert_flat name (bash.holding ifs bash.new_cell) (bash.start_cells env)

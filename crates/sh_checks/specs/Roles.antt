-- Roles as the meaning has them, and what stands behind the literal parts of a word, part by part.
use Rattle.std.specs.Prelude.{Option, Some, None}
use Rattle.shell_world.specs.Texts.{Text}
use Rattle.shell_world.specs.Paths.{behind}
use Rattle.sh_grammar.specs.Shape.{Part, plain, exact, double, tilde, param, subst, arith, Parts, no_part, part}
use Rattle.sh_meaning.specs.Simple as simple
use Rattle.sh_checks.specs.declared.roles.Role.{Role}
use Rattle.sh_checks.specs.declared.roles.Role.TheVariants.{Name, Argument, Export}

abbrev pub role_of : Role → simple.Role
role_of Name = simple.Name
role_of Argument = simple.Argument
role_of Export = simple.Export

abbrev pub then_behind : Option Text → (Text → Option Text) → Option Text
then_behind None next = None
then_behind (Some text) next = next text

-- a part between double quotes
abbrev pub behind_inner : Part → Text → Option Text
behind_inner (plain front) text = behind front text
behind_inner (exact front) text = behind front text
behind_inner (double ps) text = None
behind_inner tilde text = None
behind_inner (param p op) text = None
behind_inner (subst script) text = None
behind_inner (arith e ws) text = None

abbrev pub behind_inside : Parts → Text → Option Text
behind_inside no_part text = Some text
behind_inside (part p ps) text = then_behind (behind_inner p text) (behind_inside ps)

abbrev pub behind_part : Part → Text → Option Text
behind_part (plain front) text = behind front text
behind_part (exact front) text = behind front text
behind_part (double ps) text = behind_inside ps text
behind_part tilde text = None
behind_part (param p op) text = None
behind_part (subst script) text = None
behind_part (arith e ws) text = None

abbrev pub behind_parts : Parts → Text → Option Text
behind_parts no_part text = Some text
behind_parts (part p ps) text = then_behind (behind_part p text) (behind_parts ps)

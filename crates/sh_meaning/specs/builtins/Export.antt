-- The operands of `export` as they are written (POSIX XCU 2.14). `name=word` expands as an assignment does: it isn't split, and names no files.
use Rattle.std.specs.Prelude.{ℕ, Bool, true, false, not, ◌&&◌, ◌||◌, ◌==◌, nat_le, if◌then◌else◌, List, [], ◌∷◌, length, drop}
use Rattle.std.specs.List.{list_all, list_any, take_while}
use Rattle.span_text.specs.Names.{is_name}
use Rattle.shell_world.specs.Texts.{Text}
use Rattle.sh_grammar.specs.Shape.{Part, plain, exact, double, tilde, param, subst, arith, Parts, Words}
use Rattle.sh_meaning.specs.builtins.Forms.{list_of_parts, list_of_words}
use Rattle.sh_meaning.specs.builtins.Literals.{is_literal}

abbrev pub is_before_equals : ℕ → Bool
is_before_equals b = not (b == 61)

-- the text before the first `=`
abbrev pub name_of : Text → Text
name_of operand = take_while is_before_equals operand

abbrev pub has_equals : Text → Bool
has_equals text = list_any (λ b. b == 61) text

-- a name and a `=`
abbrev pub begins_assignment : Text → Bool
begins_assignment text = has_equals text && is_name (name_of text)

abbrev pub begins_part : Part → Bool
begins_part (plain text) = begins_assignment text
begins_part (exact text) = false
begins_part (double ps) = false
begins_part tilde = false
begins_part (param p op) = false
begins_part (subst script) = false
begins_part (arith expr operands) = false

abbrev pub begins_parts : List Part → Bool
begins_parts [] = false
begins_parts (p ∷ ps) = begins_part p

-- `name=word`, the name and the `=` unquoted
unfoldable pub is_export_operand : Parts → Bool
is_export_operand ps = begins_parts (list_of_parts ps)

-- a `~` stands right behind a `=` or a `:`; the truth value tells whether one of these stands just before
abbrev pub has_tilde : Bool → Text → Bool
has_tilde behind [] = false
has_tilde behind (b ∷ bs) = (behind && b == 126) || has_tilde (b == 61 || b == 58) bs

-- what shells agree on in the value of `name=word`: no unquoted expansion, and no tilde
abbrev pub fits_value : Part → Bool
fits_value (plain text) = not (has_tilde false text)
fits_value (exact text) = true
fits_value (double ps) = true
fits_value tilde = false
fits_value (param p op) = false
fits_value (subst script) = false
fits_value (arith expr operands) = false

-- a part between double quotes
abbrev pub is_without_equals_inside : Part → Bool
is_without_equals_inside (plain text) = not (has_equals text)
is_without_equals_inside (exact text) = not (has_equals text)
is_without_equals_inside (double ps) = false
is_without_equals_inside tilde = false
is_without_equals_inside (param p op) = false
is_without_equals_inside (subst script) = false
is_without_equals_inside (arith expr operands) = false

-- a part of a name has no `=`
abbrev pub is_without_equals : Part → Bool
is_without_equals (plain text) = not (has_equals text)
is_without_equals (exact text) = not (has_equals text)
is_without_equals (double ps) = list_all is_without_equals_inside (list_of_parts ps)
is_without_equals tilde = false
is_without_equals (param p op) = false
is_without_equals (subst script) = false
is_without_equals (arith expr operands) = false

-- a literal name
unfoldable pub is_export_name : Parts → Bool
is_export_name ps = is_literal ps && list_all is_without_equals (list_of_parts ps)

unfoldable pub has_fit_value : Parts → Bool
has_fit_value ps = list_all fits_value (list_of_parts ps)

-- The forms of an operand. Another is unspecified, and so is the command when such an operand of a literal `export` would be expanded.
unfoldable pub is_fit_operand : Parts → Bool
is_fit_operand ps = if is_export_operand ps then has_fit_value ps else is_export_name ps

-- behind the first word each is a fit operand, and there are n at least
unfoldable pub are_operands : ℕ → Words → Bool
are_operands n ws = list_all is_fit_operand (drop 1 (list_of_words ws)) && nat_le n (length (drop 1 (list_of_words ws)))

-- Words that stand for their own text: without expansions, and without a pattern (POSIX XCU 2.6, 2.13).
use Rattle.std.specs.Prelude.{ℕ, Bool, false, true, not, ◌&&◌, ◌||◌, ◌==◌, nat_le, length, drop}
use Rattle.std.specs.List.{list_all, list_any}
use Rattle.sh_grammar.specs.Shape.{Part, plain, exact, double, tilde, param, subst, arith, Parts, Words}
use Rattle.sh_meaning.specs.builtins.Forms.{list_of_parts, list_of_words}

-- `*`, `?` and `[` begin patterns
abbrev pub is_active : ℕ → Bool
is_active b = b == 42 || b == 63 || b == 91

-- between double quotes
abbrev pub is_text : Part → Bool
is_text (plain text) = true
is_text (exact text) = true
is_text (double ps) = false
is_text tilde = false
is_text (param p op) = false
is_text (subst script) = false
is_text (arith expr operands) = false

abbrev pub is_literal_part : Part → Bool
is_literal_part (plain text) = not (list_any is_active text)
is_literal_part (exact text) = true
is_literal_part (double ps) = list_all is_text (list_of_parts ps)
is_literal_part tilde = false
is_literal_part (param p op) = false
is_literal_part (subst script) = false
is_literal_part (arith expr operands) = false

unfoldable pub is_literal : Parts → Bool
is_literal ps = list_all is_literal_part (list_of_parts ps)

-- behind the first k words each is literal, and there are n at least, so n arguments were written as they are
unfoldable pub are_written : (k n : ℕ) → Words → Bool
are_written k n ws = list_all is_literal (drop k (list_of_words ws)) && nat_le n (length (drop k (list_of_words ws)))

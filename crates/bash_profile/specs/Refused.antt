-- What is read and refused as it stands: the nodes that the grammar makes of it.
use Rattle.std.specs.Prelude.{ℕ, ◌==◌, List, []}
use Rattle.span_text.specs.declared.span.Span.{Span}
use Rattle.bash_grammar.specs.Shape.{Code, process_substitution, extended_glob, regex_test, reserved_command, indirect, case_pattern, error_expansion, special_parameter, locale_quote, old_arithmetic, ansi_escape, nested_quote, backquote, descriptor, read_write, read_substitution, function_name, arith_form, unspelled, refused_op, refused_part, command, refused_command}
use Rattle.bash_profile.specs.Known.{place_if}
use Rattle.bash_profile.specs.Sites.{Site, command_site, redirect_site, part_site}

-- the number of a code in the table of refusals
abbrev pub number_of : Code → ℕ
number_of process_substitution = 5
number_of extended_glob = 6
number_of regex_test = 7
number_of reserved_command = 8
number_of indirect = 12
number_of case_pattern = 13
number_of error_expansion = 14
number_of special_parameter = 18
number_of locale_quote = 21
number_of old_arithmetic = 22
number_of ansi_escape = 23
number_of nested_quote = 25
number_of backquote = 26
number_of descriptor = 31
number_of read_write = 32
number_of read_substitution = 33
number_of function_name = 36
number_of arith_form = 38
number_of (unspelled n) = n

abbrev refused_with : ℕ → Code → Span → List ℕ
refused_with number c s = place_if (number_of c == number) s.from

-- where the grammar has refused something with this number
abbrev pub refused_node : ℕ → Site → List ℕ
refused_node number (part_site a w (refused_part c s) t) = refused_with number c s
refused_node number (command_site a (command (refused_command c s) rs t)) = refused_with number c s
refused_node number (redirect_site fd (refused_op c s) w t) = refused_with number c s
refused_node number x = []

-- The grammar's table in the code, as the grammar has it.
use Rattle.std.specs.Prelude.{false, List, [], ◌∷◌}
use Rattle.text_grammar.specs.Grammar.{pass, fail, step as a_step, rule as a_rule, choose, star, seq}
use Rattle.bash_grammar.specs.Bytes.{Context, in_word, in_double, inner, inner_pattern, inner_sum, keys, fills, patterns, firsts, seconds}
use Rattle.bash_grammar.specs.Moves as moves
use Rattle.bash_grammar.specs.Table as table
use Rattle.bash_grammar.specs.Table.{Gram}
use Rattle.bash_rules.specs.Rules.{rule}
use Rattle.bash_moves.specs.declared.asks.QuoteTest.{QuoteTest}
use Rattle.bash_moves.specs.declared.asks.QuoteTest.TheVariants as quotes
use Rattle.bash_moves.specs.declared.asks.UnitTest.{UnitTest}
use Rattle.bash_moves.specs.declared.asks.UnitTest.TheVariants as kinds
use Rattle.bash_moves.specs.Tables as lexer
use Rattle.bash_table.specs.declared.table.Shift.{Shift}
use Rattle.bash_table.specs.declared.table.Shift.TheVariants as shifts
use Rattle.bash_table.specs.declared.table.Guard.{Guard}
use Rattle.bash_table.specs.declared.table.Guard.TheVariants as guards
use Rattle.bash_table.specs.declared.table.Unit.{Unit}
use Rattle.bash_table.specs.declared.table.Unit.TheVariants as units
use Rattle.bash_table.specs.declared.table.Item.{Item}
use Rattle.bash_table.specs.declared.table.Item.TheVariants as items

-- the place below a place
abbrev pub shift : Shift → Context → Context
shift shifts.Same c = c
shift shifts.Word c = in_word
shift shifts.Double c = in_double
shift shifts.Body c = table.in_here
shift shifts.Regex c = table.in_regex
shift shifts.Group c = table.in_group
shift shifts.Brackets c = table.in_brackets
shift shifts.Keys c = inner keys c
shift shifts.Fills c = inner fills c
shift shifts.Patterns c = inner_pattern patterns c
shift shifts.Firsts c = inner_pattern firsts c
shift shifts.Seconds c = inner seconds c
shift shifts.Sum c = inner_sum c

abbrev pub unit_test : UnitTest → Context → moves.Test
unit_test kinds.UnitBegins c = moves.unit_begins c
unit_test kinds.QuoteBegins c = moves.quote_begins c
unit_test kinds.DollarBegins c = moves.dollar_begins c
unit_test kinds.OtherUnitBegins c = moves.other_unit_begins c
unit_test kinds.OddTickBegins c = moves.odd_tick_begins c
unit_test kinds.ProcessBegins c = moves.process_begins c
unit_test kinds.InCommand c = moves.in_command c

abbrev pub quote_test : QuoteTest → Context → moves.Test
quote_test quotes.ExactBegins c = moves.exact_begins c
quote_test quotes.DoubleQuoteBegins c = moves.double_quote_begins c
quote_test quotes.EscapeBegins c = moves.escape_begins c
quote_test quotes.PairBegins c = moves.pair_begins c
quote_test quotes.LocaleBegins c = moves.locale_begins c
quote_test quotes.LoneLocaleBegins c = moves.lone_locale_begins c
quote_test quotes.AnsiBegins c = moves.ansi_begins c
quote_test quotes.AnsiPairBegins c = moves.ansi_pair_begins c

abbrev pub guard : Guard → Context → moves.Test
guard (guards.Test t) c = lexer.test t
guard (guards.Scan t) c = lexer.scan_test t
guard (guards.Unit t x) c = unit_test t (shift x c)
guard (guards.Quote t x) c = quote_test t (shift x c)

abbrev pub unit : Context → Unit → Gram
unit c units.Pass = pass
unit c units.Fail = fail
unit c (units.Unless t) = choose (guard t c) fail pass
unit c (units.When t) = choose (guard t c) pass fail
unit c (units.Step x) = a_step (lexer.step x)
unit c units.Literal = a_step (moves.literal c)
unit c units.EndSum = a_step (moves.end_sum false c.quoting)
unit c units.Here = a_step moves.here_document
unit c (units.Rule r x) = a_rule (rule r (shift x c))

-- what is in front of others
abbrev pub item_before : Context → Item → Gram → Gram
item_before c (items.One u) g = seq (unit c u) g
item_before c (items.If t u v) g = seq (choose (guard t c) (unit c u) (unit c v)) g
item_before c (items.Or t u q v w) g = seq (choose (guard t c) (unit c u) (choose (guard q c) (unit c v) (unit c w))) g
item_before c (items.Star t u) g = seq (star (guard t c) (unit c u)) g
item_before c (items.Either t u) g = choose (guard t c) (unit c u) g
item_before c (items.Both t u v) g = choose (guard t c) (seq (unit c u) (unit c v)) g
item_before c (items.Where t) g = choose (guard t c) g pass
item_before c (items.Only t) g = choose (guard t c) g fail

abbrev pub last_item : Context → Item → Gram
last_item c (items.One u) = unit c u
last_item c (items.If t u v) = choose (guard t c) (unit c u) (unit c v)
last_item c (items.Or t u q v w) = choose (guard t c) (unit c u) (choose (guard q c) (unit c v) (unit c w))
last_item c (items.Star t u) = star (guard t c) (unit c u)
last_item c (items.Either t u) = choose (guard t c) (unit c u) pass
last_item c (items.Both t u v) = choose (guard t c) (seq (unit c u) (unit c v)) pass
last_item c (items.Where t) = choose (guard t c) pass pass
last_item c (items.Only t) = choose (guard t c) pass fail

-- what items one behind the other are
abbrev pub items_gram : Context → List Item → Gram
items_gram c [] = pass
items_gram c (x ∷ []) = last_item c x
items_gram c (x ∷ y ∷ ys) = item_before c x (items_gram c (y ∷ ys))

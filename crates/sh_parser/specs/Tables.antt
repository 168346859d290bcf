-- The names of the grammar's table in the code, as those of the grammar.
use Rattle.std.specs.Prelude.{Bool, List, [], ◌∷◌}
use Rattle.text_grammar.specs.Ranks.{small}
use Rattle.sh_grammar.specs.Depths.{ranks}
use Rattle.text_grammar.specs.Grammar.{◌then◌, pass, fail, step as a_step, rule as a_rule, choose, star, seq}
use Rattle.sh_grammar.specs.Table as table
use Rattle.sh_grammar.specs.Table.{Gram}
use Rattle.sh_grammar.specs.Bytes.{Text, Context}
use Rattle.sh_grammar.specs.State.{start_at}
use Rattle.sh_grammar.specs.Steps.{holds}
use Rattle.std.specs.Prelude.{if◌then◌else◌}
use Rattle.sh_parser.specs.Kinds.{op, key, context}
use Rattle.sh_parser.specs.declared.table.WordStep.{WordStep}
use Rattle.sh_parser.specs.declared.table.WordStep.TheVariants as word_steps
use Rattle.sh_parser.specs.declared.table.RedirectStep.{RedirectStep}
use Rattle.sh_parser.specs.declared.table.RedirectStep.TheVariants as redirect_steps
use Rattle.sh_parser.specs.declared.table.SumStep.{SumStep}
use Rattle.sh_parser.specs.declared.table.SumStep.TheVariants as sum_steps
use Rattle.sh_parser.specs.declared.table.Step.{Step}
use Rattle.sh_parser.specs.declared.table.Step.TheVariants as steps
use Rattle.sh_parser.specs.declared.table.RedirectTest.{RedirectTest}
use Rattle.sh_parser.specs.declared.table.RedirectTest.TheVariants as redirect_tests
use Rattle.sh_parser.specs.declared.table.WordTest.{WordTest}
use Rattle.sh_parser.specs.declared.table.WordTest.TheVariants as word_tests
use Rattle.sh_parser.specs.declared.table.DollarTest.{DollarTest}
use Rattle.sh_parser.specs.declared.table.DollarTest.TheVariants as dollar_tests
use Rattle.sh_parser.specs.declared.table.Test.{Test}
use Rattle.sh_parser.specs.declared.table.Test.TheVariants as tests
use Rattle.sh_parser.specs.declared.table.LineRule.{LineRule}
use Rattle.sh_parser.specs.declared.table.LineRule.TheVariants as line_rules
use Rattle.sh_parser.specs.declared.table.PipeRule.{PipeRule}
use Rattle.sh_parser.specs.declared.table.PipeRule.TheVariants as pipe_rules
use Rattle.sh_parser.specs.declared.table.CommandRule.{CommandRule}
use Rattle.sh_parser.specs.declared.table.CommandRule.TheVariants as command_rules
use Rattle.sh_parser.specs.declared.table.LoopRule.{LoopRule}
use Rattle.sh_parser.specs.declared.table.LoopRule.TheVariants as loop_rules
use Rattle.sh_parser.specs.declared.table.SimpleRule.{SimpleRule}
use Rattle.sh_parser.specs.declared.table.SimpleRule.TheVariants as simple_rules
use Rattle.sh_parser.specs.declared.table.WordRule.{WordRule}
use Rattle.sh_parser.specs.declared.table.WordRule.TheVariants as word_rules
use Rattle.sh_parser.specs.declared.table.DollarRule.{DollarRule}
use Rattle.sh_parser.specs.declared.table.DollarRule.TheVariants as dollar_rules
use Rattle.sh_parser.specs.declared.table.Rule.{Rule}
use Rattle.sh_parser.specs.declared.table.Rule.TheVariants as rules
use Rattle.sh_parser.specs.declared.table.Unit.{Unit}
use Rattle.sh_parser.specs.declared.table.Unit.TheVariants as units
use Rattle.sh_parser.specs.declared.table.Item.{Item}
use Rattle.sh_parser.specs.declared.table.Item.TheVariants as items

abbrev pub word_step : WordStep → table.Step
word_step word_steps.AssignName = table.assign_name
word_step word_steps.ToWord = table.to_word
word_step word_steps.Tilde = table.tilde
word_step (word_steps.Literal x) = table.literal (context x)
word_step (word_steps.Escaped x) = table.escaped (context x)
word_step word_steps.Exact = table.exact
word_step word_steps.Quote = table.quote
word_step word_steps.Dollar = table.dollar
word_step word_steps.Closed = table.closed
word_step word_steps.OpenHead = table.open_head
word_step word_steps.OpenSubst = table.open_subst
word_step word_steps.CloseBrace = table.close_brace

abbrev pub redirect_step : RedirectStep → table.Step
redirect_step redirect_steps.Descriptor = table.descriptor
redirect_step redirect_steps.FileOp = table.file_op
redirect_step redirect_steps.Copy = table.copy

abbrev pub sum_step : SumStep → table.Step
sum_step sum_steps.OpenSum = table.open_sum
sum_step sum_steps.SumBytes = table.sum_bytes
sum_step sum_steps.Operand = table.operand
sum_step sum_steps.SumOpen = table.sum_open
sum_step sum_steps.SumClose = table.sum_close
sum_step sum_steps.CloseSum = table.close_sum

abbrev pub step : Step → table.Step
step (steps.Op x) = table.op (op x)
step (steps.Key x) = table.key (key x)
step steps.Line = table.line
step steps.Ends = table.ends
step steps.Name = table.name
step steps.Enter = table.enter
step steps.Leave = table.leave
step (steps.Word x) = word_step x
step (steps.Redirect x) = redirect_step x
step (steps.Sum x) = sum_step x

abbrev pub redirect_test : RedirectTest → table.Test
redirect_test redirect_tests.RedirectBegins = table.redirect_begins
redirect_test redirect_tests.HereBegins = table.here_begins
redirect_test redirect_tests.CopyBegins = table.copy_begins

abbrev pub word_test : WordTest → table.Test
word_test word_tests.TildeBegins = table.tilde_begins
word_test (word_tests.UnitBegins x) = table.unit_begins (context x)
word_test (word_tests.SingleBegins x) = table.single_begins (context x)
word_test (word_tests.DoubleBegins x) = table.double_begins (context x)
word_test (word_tests.EscapeBegins x) = table.escape_begins (context x)

abbrev pub dollar_test : DollarTest → table.Test
dollar_test dollar_tests.ExpansionBegins = table.expansion_begins
dollar_test dollar_tests.SubstBegins = table.subst_begins
dollar_test dollar_tests.BraceBegins = table.brace_begins
dollar_test dollar_tests.ClosedBegins = table.closed_begins
dollar_test dollar_tests.FillingBegins = table.filling_begins
dollar_test dollar_tests.SumBegins = table.sum_begins
dollar_test dollar_tests.SumGoesOn = table.sum_goes_on
dollar_test dollar_tests.SumOpens = table.sum_opens

abbrev pub test : Test → table.Test
test (tests.Next x) = table.next (op x)
test (tests.KeyNext x) = table.key_next (key x)
test tests.Separates = table.separates
test tests.GoesOn = table.goes_on
test tests.Links = table.links
test tests.PipelineBegins = table.pipeline_begins
test tests.CompoundBegins = table.compound_begins
test tests.FunctionBegins = table.function_begins
test tests.SimpleBegins = table.simple_begins
test tests.AssignBegins = table.assign_begins
test tests.PrefixBegins = table.prefix_begins
test tests.SuffixBegins = table.suffix_begins
test tests.ItemBegins = table.item_begins
test (tests.Redirect x) = redirect_test x
test (tests.Word x) = word_test x
test (tests.Dollar x) = dollar_test x

abbrev pub line_rule : LineRule → table.Rule
line_rule line_rules.Piece = table.piece
line_rule line_rules.LinePiece = table.line_piece
line_rule line_rules.Complete = table.complete
line_rule line_rules.CompleteMore = table.complete_more
line_rule line_rules.List = table.list
line_rule line_rules.MaybeList = table.maybe_list
line_rule line_rules.ListMore = table.list_more
line_rule line_rules.Lines = table.lines

abbrev pub pipe_rule : PipeRule → table.Rule
pipe_rule pipe_rules.Chain = table.chain
pipe_rule pipe_rules.Link = table.link
pipe_rule pipe_rules.AndLink = table.and_link
pipe_rule pipe_rules.OrLink = table.or_link
pipe_rule pipe_rules.Pipeline = table.pipeline
pipe_rule pipe_rules.Bang = table.bang
pipe_rule pipe_rules.Stage = table.stage

abbrev pub command_rule : CommandRule → table.Rule
command_rule command_rules.Command = table.command
command_rule command_rules.CompoundCommand = table.compound_command
command_rule command_rules.Compound = table.compound
command_rule command_rules.OtherCompound = table.other_compound
command_rule command_rules.Group = table.group
command_rule command_rules.Subshell = table.subshell
command_rule command_rules.IfCommand = table.if_command
command_rule command_rules.IfBranch = table.if_branch
command_rule command_rules.ElifBranch = table.elif_branch
command_rule command_rules.ElsePart = table.else_part
command_rule command_rules.WhileLoop = table.while_loop
command_rule command_rules.UntilLoop = table.until_loop
command_rule command_rules.DoBody = table.do_body
command_rule command_rules.FunctionCommand = table.function_command

abbrev pub loop_rule : LoopRule → table.Rule
loop_rule loop_rules.ForLoop = table.for_loop
loop_rule loop_rules.ForWords = table.for_words
loop_rule loop_rules.ForIn = table.for_in
loop_rule loop_rules.CaseCommand = table.case_command
loop_rule loop_rules.CaseIn = table.case_in
loop_rule loop_rules.CaseItem = table.case_item
loop_rule loop_rules.PatternMore = table.pattern_more
loop_rule loop_rules.ItemEnd = table.item_end

abbrev pub simple_rule : SimpleRule → table.Rule
simple_rule simple_rules.SimpleCommand = table.simple_command
simple_rule simple_rules.Prefixed = table.prefixed
simple_rule simple_rules.Called = table.called
simple_rule simple_rules.Suffix = table.suffix
simple_rule simple_rules.PrefixItem = table.prefix_item
simple_rule simple_rules.SuffixItem = table.suffix_item
simple_rule simple_rules.Assign = table.assign
simple_rule simple_rules.Redirect = table.redirect
simple_rule simple_rules.Target = table.target
simple_rule simple_rules.File = table.file

abbrev pub word_rule : WordRule → table.Rule
word_rule word_rules.Word = table.word
word_rule word_rules.Value = table.value
word_rule word_rules.WordParts = table.word_parts
word_rule word_rules.MoreParts = table.more_parts
word_rule word_rules.Pattern = table.pattern
word_rule (word_rules.Part x) = table.part (context x)
word_rule word_rules.DoubleQuotes = table.double_quotes
word_rule word_rules.BodyParts = table.body_parts

abbrev pub dollar_rule : DollarRule → table.Rule
dollar_rule (dollar_rules.Expansion x) = table.expansion (context x)
dollar_rule (dollar_rules.Braces x) = table.braces (context x)
dollar_rule (dollar_rules.Fill x) = table.fill (context x)
dollar_rule (dollar_rules.Trim x) = table.trim (context x)
dollar_rule dollar_rules.Subst = table.subst
dollar_rule dollar_rules.Sum = table.sum
dollar_rule dollar_rules.SumPart = table.sum_part
dollar_rule dollar_rules.SumGroup = table.sum_group

abbrev pub rule : Rule → table.Rule
rule (rules.Line x) = line_rule x
rule (rules.Pipe x) = pipe_rule x
rule (rules.Command x) = command_rule x
rule (rules.Loop x) = loop_rule x
rule (rules.Simple x) = simple_rule x
rule (rules.Word x) = word_rule x
rule (rules.Dollar x) = dollar_rule x

abbrev pub unit : Unit → Gram
unit units.Pass = pass
unit units.Fail = fail
unit (units.Unless t) = choose (test t) fail pass
unit (units.Step x) = a_step (step x)
unit units.Here = a_step table.here
unit (units.Rule x) = a_rule (rule x)

-- what items one behind the other are
abbrev pub item_before : Item → Gram → Gram
item_before (items.One u) g = seq (unit u) g
item_before (items.If t u v) g = seq (choose (test t) (unit u) (unit v)) g
item_before (items.Where t) g = choose (test t) g pass
item_before (items.Star t u) g = seq (star (test t) (unit u)) g

abbrev pub last_item : Item → Gram
last_item (items.One u) = unit u
last_item (items.If t u v) = choose (test t) (unit u) (unit v)
last_item (items.Where t) = choose (test t) pass pass
last_item (items.Star t u) = star (test t) (unit u)

abbrev pub items_gram : List Item → Gram
items_gram [] = pass
items_gram (x ∷ []) = last_item x
items_gram (x ∷ y ∷ ys) = item_before x (items_gram (y ∷ ys))

-- a grammar where its first choices are made by the bytes ahead
abbrev pub chosen : Gram → Text → Gram
chosen (choose t g h) bytes = if holds t (start_at 0 bytes) then chosen g bytes else chosen h bytes
chosen g bytes = g

-- `${a-`, a word in this place, and `}`
abbrev pub opened_gram : Context → Gram
opened_gram c = a_step table.open_head then a_step table.enter then star (table.unit_begins c) (a_rule (table.part c)) then a_step table.close_brace then a_step table.leave

-- each repetition takes bytes
abbrev pub is_small : Gram → Bool
is_small g = small ranks g

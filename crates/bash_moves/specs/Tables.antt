-- The names of the grammar's steps and tests in the code, as those of the grammar.
use Rattle.std.specs.Prelude.{true, false}
use Rattle.bash_grammar.specs.Bytes.{bare}
use Rattle.bash_grammar.specs.Moves as grammar
use Rattle.bash_tokens.specs.Kinds.{context, quoting, op, key, flag, stretch}
use Rattle.bash_moves.specs.declared.moves.TokenStep.{TokenStep}
use Rattle.bash_moves.specs.declared.moves.TokenStep.TheVariants as token_steps
use Rattle.bash_moves.specs.declared.moves.Mark.{Mark}
use Rattle.bash_moves.specs.declared.moves.Mark.TheVariants as marks
use Rattle.bash_moves.specs.declared.moves.WordStep.{WordStep}
use Rattle.bash_moves.specs.declared.moves.WordStep.TheVariants as word_steps
use Rattle.bash_moves.specs.declared.moves.QuoteStep.{QuoteStep}
use Rattle.bash_moves.specs.declared.moves.QuoteStep.TheVariants as quote_steps
use Rattle.bash_moves.specs.declared.moves.NestStep.{NestStep}
use Rattle.bash_moves.specs.declared.moves.NestStep.TheVariants as nest_steps
use Rattle.bash_moves.specs.declared.moves.BraceStep.{BraceStep}
use Rattle.bash_moves.specs.declared.moves.BraceStep.TheVariants as brace_steps
use Rattle.bash_moves.specs.declared.moves.SumStep.{SumStep}
use Rattle.bash_moves.specs.declared.moves.SumStep.TheVariants as sum_steps
use Rattle.bash_moves.specs.declared.moves.EndStep.{EndStep}
use Rattle.bash_moves.specs.declared.moves.EndStep.TheVariants as end_steps
use Rattle.bash_moves.specs.declared.moves.Step.{Step}
use Rattle.bash_moves.specs.declared.moves.Step.TheVariants as steps
use Rattle.bash_moves.specs.declared.asks.ListTest.{ListTest}
use Rattle.bash_moves.specs.declared.asks.ListTest.TheVariants as list_tests
use Rattle.bash_moves.specs.declared.asks.CommandTest.{CommandTest}
use Rattle.bash_moves.specs.declared.asks.CommandTest.TheVariants as command_tests
use Rattle.bash_moves.specs.declared.asks.CondTest.{CondTest}
use Rattle.bash_moves.specs.declared.asks.CondTest.TheVariants as cond_tests
use Rattle.bash_moves.specs.declared.asks.UnitTest.{UnitTest}
use Rattle.bash_moves.specs.declared.asks.UnitTest.TheVariants as unit_tests
use Rattle.bash_moves.specs.declared.asks.QuoteTest.{QuoteTest}
use Rattle.bash_moves.specs.declared.asks.QuoteTest.TheVariants as quote_tests
use Rattle.bash_moves.specs.declared.asks.ExpansionTest.{ExpansionTest}
use Rattle.bash_moves.specs.declared.asks.ExpansionTest.TheVariants as expansion_tests
use Rattle.bash_moves.specs.declared.asks.BraceTest.{BraceTest}
use Rattle.bash_moves.specs.declared.asks.BraceTest.TheVariants as brace_tests
use Rattle.bash_moves.specs.declared.asks.SumTest.{SumTest}
use Rattle.bash_moves.specs.declared.asks.SumTest.TheVariants as sum_tests
use Rattle.bash_moves.specs.declared.asks.Test.{Test}
use Rattle.bash_moves.specs.declared.asks.Test.TheVariants as tests
use Rattle.bash_moves.specs.declared.asks.ScanTest.{ScanTest}
use Rattle.bash_moves.specs.declared.asks.ScanTest.TheVariants as scan_tests
use Rattle.bash_tokens.specs.declared.spots.Context.{Context}

-- ---- steps

abbrev pub token_step : TokenStep → grammar.Step
token_step token_steps.Line = grammar.line
token_step token_steps.Ends = grammar.ends
token_step token_steps.Ampersand = grammar.ampersand
token_step token_steps.Pipe = grammar.pipe
token_step token_steps.ItemOp = grammar.item_op
token_step token_steps.TestOp = grammar.test_op
token_step (token_steps.Option f) = grammar.option (flag f)
token_step token_steps.Name = grammar.name
token_step token_steps.Digit = grammar.digit
token_step token_steps.Far = grammar.far
token_step token_steps.RedirectOp = grammar.redirect_op

abbrev pub mark : Mark → grammar.Step
mark marks.FromToken = grammar.from_token
mark marks.FromUnit = grammar.from_unit
mark marks.ToHere = grammar.to_here

abbrev pub word_step : WordStep → grammar.Step
word_step word_steps.AssignName = grammar.assign_name
word_step word_steps.AssignOp = grammar.assign_op
word_step word_steps.ToWord = grammar.to_word
word_step word_steps.ToRegex = grammar.to_regex
word_step word_steps.Tilde = grammar.tilde
word_step (word_steps.Literal c) = grammar.literal (context c)
word_step word_steps.Escaped = grammar.escaped
word_step word_steps.Dollar = grammar.dollar

abbrev pub quote_step : QuoteStep → grammar.Step
quote_step quote_steps.Exact = grammar.exact
quote_step quote_steps.Ansi = grammar.ansi
quote_step quote_steps.NestedExact = grammar.nested_exact
quote_step quote_steps.NestedAnsi = grammar.nested_ansi
quote_step quote_steps.LoneQuote = grammar.lone_quote
quote_step quote_steps.LoneAnsi = grammar.lone_ansi
quote_step quote_steps.LoneLocale = grammar.lone_locale
quote_step quote_steps.OpenLocale = grammar.open_locale

abbrev pub nest_step : NestStep → grammar.Step
nest_step nest_steps.OpenSubst = grammar.open_subst
nest_step nest_steps.OpenProcess = grammar.open_process
nest_step nest_steps.LoneGlob = grammar.lone_glob
nest_step nest_steps.OpenOld = grammar.open_old
nest_step nest_steps.OpenGlob = grammar.open_glob
nest_step nest_steps.OpenGroup = grammar.open_group
nest_step (nest_steps.CloseGroup b) = grammar.close_group b
nest_step nest_steps.OddTicks = grammar.odd_ticks
nest_step nest_steps.OpenTicks = grammar.open_ticks
nest_step nest_steps.CloseTicks = grammar.close_ticks
nest_step nest_steps.OpenKey = grammar.open_key

abbrev pub brace_step : BraceStep → grammar.Step
brace_step brace_steps.OpenLength = grammar.open_length
brace_step brace_steps.OpenPointed = grammar.open_pointed
brace_step brace_steps.OpenNamed = grammar.open_named
brace_step brace_steps.OpenSpecial = grammar.open_special
brace_step brace_steps.Members = grammar.members
brace_step brace_steps.Names = grammar.names
brace_step brace_steps.FillOp = grammar.fill_op
brace_step brace_steps.TrimOp = grammar.trim_op
brace_step brace_steps.CaseOp = grammar.case_op
brace_step brace_steps.ReplaceOp = grammar.replace_op
brace_step brace_steps.SliceOp = grammar.slice_op
brace_step brace_steps.TransformOp = grammar.transform_op

abbrev pub sum_step : SumStep → grammar.Step
sum_step sum_steps.OpenSum = grammar.open_sum
sum_step sum_steps.OpenDouble = grammar.open_double
sum_step sum_steps.CloseDouble = grammar.close_double
sum_step sum_steps.BeginSum = grammar.begin_sum
sum_step (sum_steps.SumBytes x) = grammar.sum_bytes (stretch x)
sum_step sum_steps.BeginOperand = grammar.begin_operand
sum_step sum_steps.EndOperand = grammar.end_operand

abbrev pub end_step : EndStep → grammar.Step
end_step (end_steps.Sum q) = grammar.end_sum false (quoting q)
end_step end_steps.Section = grammar.end_sum true bare

abbrev pub step : Step → grammar.Step
step (steps.Op o) = grammar.op (op o)
step (steps.Key w) = grammar.key (key w)
step (steps.Byte b) = grammar.byte b
step (steps.Token x) = token_step x
step (steps.Mark x) = mark x
step (steps.Word x) = word_step x
step (steps.Quote x) = quote_step x
step (steps.Nest x) = nest_step x
step (steps.Brace x) = brace_step x
step (steps.Sum x) = sum_step x
step (steps.End x) = end_step x
step steps.Enter = grammar.enter
step steps.Leave = grammar.leave

-- ---- tests

abbrev pub list_test : ListTest → grammar.Test
list_test list_tests.Separates = grammar.separates
list_test list_tests.ListGoesOn = grammar.list_goes_on
list_test list_tests.GoesOn = grammar.goes_on
list_test list_tests.Links = grammar.links
list_test list_tests.Pipes = grammar.pipes
list_test list_tests.ItemEnds = grammar.item_ends
list_test list_tests.TimeEnds = grammar.time_ends
list_test list_tests.ItemBegins = grammar.item_begins

abbrev pub command_test : CommandTest → grammar.Test
command_test command_tests.PipelineBegins = grammar.pipeline_begins
command_test command_tests.CommandBegins = grammar.command_begins
command_test command_tests.CompoundBegins = grammar.compound_begins
command_test command_tests.OtherBegins = grammar.other_begins
command_test command_tests.SimpleBegins = grammar.simple_begins
command_test command_tests.DoubleBegins = grammar.double_begins
command_test command_tests.ParensBegin = grammar.parens_begin
command_test (command_tests.OptionBegins f) = grammar.option_begins (flag f)
command_test command_tests.DeclareBegins = grammar.declare_begins
command_test command_tests.RedirectBegins = grammar.redirect_begins
command_test command_tests.HereBegins = grammar.here_begins
command_test command_tests.SuffixBegins = grammar.suffix_begins

abbrev pub cond_test : CondTest → grammar.Test
cond_test cond_tests.UnaryBegins = grammar.unary_begins
cond_test cond_tests.BinaryBegins = grammar.binary_begins
cond_test cond_tests.RegexBegins = grammar.regex_begins
cond_test cond_tests.CondWordBegins = grammar.cond_word_begins
cond_test cond_tests.RegexWordBegins = grammar.regex_word_begins
cond_test cond_tests.RegexGoesOn = grammar.regex_goes_on

abbrev pub unit_test : UnitTest → Context → grammar.Test
unit_test unit_tests.UnitBegins c = grammar.unit_begins (context c)
unit_test unit_tests.QuoteBegins c = grammar.quote_begins (context c)
unit_test unit_tests.DollarBegins c = grammar.dollar_begins (context c)
unit_test unit_tests.OtherUnitBegins c = grammar.other_unit_begins (context c)
unit_test unit_tests.OddTickBegins c = grammar.odd_tick_begins (context c)
unit_test unit_tests.ProcessBegins c = grammar.process_begins (context c)
unit_test unit_tests.InCommand c = grammar.in_command (context c)

abbrev pub quote_test : QuoteTest → Context → grammar.Test
quote_test quote_tests.ExactBegins c = grammar.exact_begins (context c)
quote_test quote_tests.DoubleQuoteBegins c = grammar.double_quote_begins (context c)
quote_test quote_tests.EscapeBegins c = grammar.escape_begins (context c)
quote_test quote_tests.PairBegins c = grammar.pair_begins (context c)
quote_test quote_tests.LocaleBegins c = grammar.locale_begins (context c)
quote_test quote_tests.LoneLocaleBegins c = grammar.lone_locale_begins (context c)
quote_test quote_tests.AnsiBegins c = grammar.ansi_begins (context c)
quote_test quote_tests.AnsiPairBegins c = grammar.ansi_pair_begins (context c)

abbrev pub expansion_test : ExpansionTest → grammar.Test
expansion_test expansion_tests.TildeBegins = grammar.tilde_begins
expansion_test expansion_tests.ExpansionBegins = grammar.expansion_begins
expansion_test expansion_tests.TickBegins = grammar.tick_begins
expansion_test expansion_tests.SumBegins = grammar.sum_begins
expansion_test expansion_tests.SubstBegins = grammar.subst_begins
expansion_test expansion_tests.BraceBegins = grammar.brace_begins
expansion_test expansion_tests.OldBegins = grammar.old_begins

abbrev pub brace_test : BraceTest → grammar.Test
brace_test brace_tests.LengthBegins = grammar.length_begins
brace_test brace_tests.PointedBegins = grammar.pointed_begins
brace_test brace_tests.NamedBegins = grammar.named_begins
brace_test brace_tests.MembersBegin = grammar.members_begin
brace_test brace_tests.NamesBegin = grammar.names_begin
brace_test brace_tests.FillBegins = grammar.fill_begins
brace_test brace_tests.TrimBegins = grammar.trim_begins
brace_test brace_tests.CaseBegins = grammar.case_begins
brace_test brace_tests.SliceBegins = grammar.slice_begins

abbrev pub sum_test : SumTest → grammar.Test
sum_test (sum_tests.SumGoesOn x) = grammar.sum_goes_on (stretch x)
sum_test sum_tests.SumOpens = grammar.sum_opens
sum_test sum_tests.SumExpands = grammar.sum_expands

abbrev pub test : Test → grammar.Test
test (tests.Next o) = grammar.next (op o)
test (tests.KeyNext w) = grammar.key_next (key w)
test (tests.ByteBegins b) = grammar.byte_begins b
test (tests.List x) = list_test x
test (tests.Command x) = command_test x
test (tests.Cond x) = cond_test x
test (tests.Unit x c) = unit_test x c
test (tests.Quote x c) = quote_test x c
test (tests.Expansion x) = expansion_test x
test (tests.Brace x) = brace_test x
test (tests.Sum x) = sum_test x

-- those that read ahead with the grammar

abbrev pub scan_test : ScanTest → grammar.Test
scan_test scan_tests.PrefixBegins = grammar.prefix_begins
scan_test scan_tests.ListBegins = grammar.list_begins
scan_test scan_tests.IndexedBegins = grammar.indexed_begins

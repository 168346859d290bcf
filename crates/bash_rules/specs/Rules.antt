-- The names of the rules in the code, as those of the grammar, in a place.
use Rattle.std.specs.Prelude.{Bool, true, false}
use Rattle.bash_grammar.specs.Bytes.{Context}
use Rattle.bash_grammar.specs.Sums.{to_close, to_semi, to_colon, to_brace}
use Rattle.bash_grammar.specs.Table as table
use Rattle.bash_rules.specs.declared.rule.LineRule.{LineRule}
use Rattle.bash_rules.specs.declared.rule.LineRule.TheVariants as line_rules
use Rattle.bash_rules.specs.declared.rule.PipeRule.{PipeRule}
use Rattle.bash_rules.specs.declared.rule.PipeRule.TheVariants as pipe_rules
use Rattle.bash_rules.specs.declared.rule.CommandRule.{CommandRule}
use Rattle.bash_rules.specs.declared.rule.CommandRule.TheVariants as command_rules
use Rattle.bash_rules.specs.declared.rule.BranchRule.{BranchRule}
use Rattle.bash_rules.specs.declared.rule.BranchRule.TheVariants as branch_rules
use Rattle.bash_rules.specs.declared.rule.ForRule.{ForRule}
use Rattle.bash_rules.specs.declared.rule.ForRule.TheVariants as for_rules
use Rattle.bash_rules.specs.declared.rule.OtherRule.{OtherRule}
use Rattle.bash_rules.specs.declared.rule.OtherRule.TheVariants as other_rules
use Rattle.bash_rules.specs.declared.rule.CondRule.{CondRule}
use Rattle.bash_rules.specs.declared.rule.CondRule.TheVariants as cond_rules
use Rattle.bash_rules.specs.declared.rule.RegexRule.{RegexRule}
use Rattle.bash_rules.specs.declared.rule.RegexRule.TheVariants as regex_rules
use Rattle.bash_rules.specs.declared.rule.SimpleRule.{SimpleRule}
use Rattle.bash_rules.specs.declared.rule.SimpleRule.TheVariants as simple_rules
use Rattle.bash_rules.specs.declared.rule.AssignRule.{AssignRule}
use Rattle.bash_rules.specs.declared.rule.AssignRule.TheVariants as assign_rules
use Rattle.bash_rules.specs.declared.rule.RedirectRule.{RedirectRule}
use Rattle.bash_rules.specs.declared.rule.RedirectRule.TheVariants as redirect_rules
use Rattle.bash_rules.specs.declared.rule.WordRule.{WordRule}
use Rattle.bash_rules.specs.declared.rule.WordRule.TheVariants as word_rules
use Rattle.bash_rules.specs.declared.rule.UnitRule.{UnitRule}
use Rattle.bash_rules.specs.declared.rule.UnitRule.TheVariants as unit_rules
use Rattle.bash_rules.specs.declared.rule.BraceRule.{BraceRule}
use Rattle.bash_rules.specs.declared.rule.BraceRule.TheVariants as brace_rules
use Rattle.bash_rules.specs.declared.rule.OperationRule.{OperationRule}
use Rattle.bash_rules.specs.declared.rule.OperationRule.TheVariants as operation_rules
use Rattle.bash_rules.specs.declared.rule.SumRule.{SumRule}
use Rattle.bash_rules.specs.declared.rule.SumRule.TheVariants as sum_rules
use Rattle.bash_rules.specs.declared.rule.Rule.{Rule}
use Rattle.bash_rules.specs.declared.rule.Rule.TheVariants as rules

abbrev pub line_rule : LineRule → Context → table.Rule
line_rule line_rules.Piece c = table.piece
line_rule line_rules.LinePiece c = table.line_piece
line_rule line_rules.Complete c = table.complete
line_rule line_rules.CompleteMore c = table.complete_more
line_rule line_rules.Separator c = table.separator
line_rule line_rules.List c = table.list
line_rule line_rules.MaybeList c = table.maybe_list
line_rule line_rules.ListMore c = table.list_more
line_rule line_rules.Lines c = table.lines

abbrev pub pipe_rule : PipeRule → Context → table.Rule
pipe_rule pipe_rules.Chain c = table.chain
pipe_rule pipe_rules.Link c = table.link
pipe_rule pipe_rules.AndLink c = table.and_link
pipe_rule pipe_rules.OrLink c = table.or_link
pipe_rule pipe_rules.Pipeline c = table.pipeline
pipe_rule pipe_rules.Bang c = table.bang
pipe_rule pipe_rules.Stage c = table.stage

abbrev pub command_rule : CommandRule → Context → table.Rule
command_rule command_rules.Command c = table.command
command_rule command_rules.CompoundCommand c = table.compound_command
command_rule command_rules.Compound c = table.compound
command_rule command_rules.Parenthesis c = table.parenthesis
command_rule command_rules.OtherCompound c = table.other_compound
command_rule command_rules.LoopOrCase c = table.loop_or_case
command_rule command_rules.Group c = table.group
command_rule command_rules.Subshell c = table.subshell
command_rule command_rules.SumCommand c = table.sum_command

abbrev pub branch_rule : BranchRule → Context → table.Rule
branch_rule branch_rules.IfCommand c = table.if_command
branch_rule branch_rules.IfBranch c = table.if_branch
branch_rule branch_rules.ElifBranch c = table.elif_branch
branch_rule branch_rules.ElsePart c = table.else_part
branch_rule branch_rules.WhileLoop c = table.while_loop
branch_rule branch_rules.UntilLoop c = table.until_loop
branch_rule branch_rules.DoBody c = table.do_body
branch_rule branch_rules.CaseCommand c = table.case_command
branch_rule branch_rules.CaseIn c = table.case_in
branch_rule branch_rules.CaseItem c = table.case_item
branch_rule branch_rules.PatternMore c = table.pattern_more
branch_rule branch_rules.ItemEnd c = table.item_end

abbrev pub for_rule : ForRule → Context → table.Rule
for_rule for_rules.ForLoop c = table.for_loop
for_rule for_rules.NameFor c = table.name_for
for_rule for_rules.ForWords c = table.for_words
for_rule for_rules.ForIn c = table.for_in
for_rule for_rules.SumFor c = table.sum_for
for_rule for_rules.Section c = table.section
for_rule for_rules.LastSection c = table.last_section
for_rule for_rules.SelectLoop c = table.select_loop

abbrev pub other_rule : OtherRule → Context → table.Rule
other_rule other_rules.OtherCommand c = table.other_command
other_rule other_rules.FunctionCommand c = table.function_command
other_rule other_rules.FunctionRest c = table.function_rest
other_rule other_rules.Parens c = table.parens
other_rule other_rules.TimeCommand c = table.time_command
other_rule other_rules.TimePrefix c = table.time_prefix
other_rule other_rules.TimedBang c = table.timed_bang
other_rule other_rules.CoprocCommand c = table.coproc_command
other_rule other_rules.CoprocRest c = table.coproc_rest
other_rule other_rules.CoprocNamed c = table.coproc_named

abbrev pub cond_rule : CondRule → Context → table.Rule
cond_rule cond_rules.Conditional c = table.conditional
cond_rule cond_rules.CondOr c = table.cond_or
cond_rule cond_rules.OrMore c = table.or_more
cond_rule cond_rules.CondAnd c = table.cond_and
cond_rule cond_rules.AndMore c = table.and_more
cond_rule cond_rules.CondNot c = table.cond_not
cond_rule cond_rules.CondTerm c = table.cond_term
cond_rule cond_rules.CondGroup c = table.cond_group
cond_rule cond_rules.Unary c = table.unary
cond_rule cond_rules.Binary c = table.binary
cond_rule cond_rules.BinaryMore c = table.binary_more
cond_rule cond_rules.CondWord c = table.cond_word

abbrev pub regex_rule : RegexRule → Context → table.Rule
regex_rule regex_rules.RegexTest c = table.regex_test
regex_rule regex_rules.Regex c = table.regex
regex_rule regex_rules.RegexPart c = table.regex_part
regex_rule regex_rules.RegexGroup c = table.regex_group

abbrev pub simple_rule : SimpleRule → Context → table.Rule
simple_rule simple_rules.SimpleCommand c = table.simple_command
simple_rule simple_rules.SimpleBody c = table.simple_body
simple_rule simple_rules.Prefixed c = table.prefixed
simple_rule simple_rules.BehindPrefix c = table.behind_prefix
simple_rule simple_rules.Called c = table.called
simple_rule simple_rules.Calling c = table.calling
simple_rule simple_rules.Declaring c = table.declaring
simple_rule simple_rules.Declared c = table.declared
simple_rule simple_rules.DeclaredItems c = table.declared_items
simple_rule simple_rules.DeclaredItem c = table.declared_item
simple_rule simple_rules.ListWord c = table.list_word
simple_rule simple_rules.Suffix c = table.suffix
simple_rule simple_rules.PrefixItem c = table.prefix_item
simple_rule simple_rules.SuffixItem c = table.suffix_item

abbrev pub assign_rule : AssignRule → Context → table.Rule
assign_rule assign_rules.Assign c = table.assign
assign_rule assign_rules.Assigned c = table.assigned
assign_rule assign_rules.Elements c = table.elements
assign_rule assign_rules.ElementItem c = table.element_item
assign_rule assign_rules.Element c = table.element
assign_rule assign_rules.Indexed c = table.indexed
assign_rule assign_rules.ElementValue c = table.element_value

abbrev pub redirect_rule : RedirectRule → Context → table.Rule
redirect_rule redirect_rules.Redirect c = table.redirect
redirect_rule redirect_rules.Target c = table.target
redirect_rule redirect_rules.File c = table.file

abbrev pub word_rule : WordRule → Context → table.Rule
word_rule word_rules.Word c = table.word
word_rule word_rules.Value c = table.value
word_rule word_rules.WordParts c = table.word_parts
word_rule word_rules.TildePart c = table.tilde_part
word_rule word_rules.MoreParts c = table.more_parts
word_rule word_rules.Pattern c = table.pattern
word_rule word_rules.Part c = table.part c
word_rule word_rules.BodyParts c = table.body_parts

abbrev pub unit_rule : UnitRule → Context → table.Rule
unit_rule unit_rules.Unit c = table.unit c
unit_rule unit_rules.Quote c = table.quote c
unit_rule unit_rules.OddQuote c = table.odd_quote c
unit_rule unit_rules.DoubleQuotes c = table.double_quotes
unit_rule unit_rules.DollarPart c = table.dollar_part c
unit_rule unit_rules.DollarQuote c = table.dollar_quote c
unit_rule unit_rules.AnsiQuote c = table.ansi_quote c
unit_rule unit_rules.Locale c = table.locale
unit_rule unit_rules.Expansion c = table.expansion c
unit_rule unit_rules.NamedExpansion c = table.named_expansion c
unit_rule unit_rules.OtherUnit c = table.other_unit c
unit_rule unit_rules.GlobUnit c = table.glob_unit c
unit_rule unit_rules.Process c = table.process
unit_rule unit_rules.Glob c = table.glob
unit_rule unit_rules.Old c = table.old
unit_rule unit_rules.Subst c = table.subst
unit_rule unit_rules.Ticks c = table.ticks

abbrev pub brace_rule : BraceRule → Context → table.Rule
brace_rule brace_rules.Braces c = table.braces c
brace_rule brace_rules.LengthBraces c = table.length_braces c
brace_rule brace_rules.PointedBraces c = table.pointed_braces c
brace_rule brace_rules.ValuedBraces c = table.valued_braces c
brace_rule brace_rules.SpecialBraces c = table.special_braces c
brace_rule brace_rules.Index c = table.index c
brace_rule brace_rules.Subscript c = table.subscript c
brace_rule brace_rules.KeyPart c = table.key_part c
brace_rule brace_rules.Braced c = table.braced c

abbrev pub operation_rule : OperationRule → Context → table.Rule
operation_rule operation_rules.Operation c = table.operation c
operation_rule operation_rules.OtherOperation c = table.other_operation c
operation_rule operation_rules.Transform c = table.transform
operation_rule operation_rules.Fill c = table.fill c
operation_rule operation_rules.Trim c = table.trim c
operation_rule operation_rules.Casing c = table.casing c
operation_rule operation_rules.Replace c = table.replace c
operation_rule operation_rules.Replacement c = table.replacement c
operation_rule operation_rules.Slice c = table.slice c
operation_rule operation_rules.Offset c = table.offset c
operation_rule operation_rules.SliceLength c = table.slice_length c

abbrev pub sum_rule : SumRule → Context → table.Rule
sum_rule sum_rules.Sum c = table.sum c
sum_rule sum_rules.PartToClose c = table.sum_part to_close c
sum_rule sum_rules.PartToSemi c = table.sum_part to_semi c
sum_rule sum_rules.PartToColon c = table.sum_part to_colon c
sum_rule sum_rules.PartToBrace c = table.sum_part to_brace c
sum_rule sum_rules.SumGroup c = table.sum_group c
sum_rule sum_rules.SumOperand c = table.sum_operand c

abbrev pub rule : Rule → Context → table.Rule
rule (rules.Line x) c = line_rule x c
rule (rules.Pipe x) c = pipe_rule x c
rule (rules.Command x) c = command_rule x c
rule (rules.Branch x) c = branch_rule x c
rule (rules.For x) c = for_rule x c
rule (rules.Other x) c = other_rule x c
rule (rules.Cond x) c = cond_rule x c
rule (rules.Regex x) c = regex_rule x c
rule (rules.Simple x) c = simple_rule x c
rule (rules.Assign x) c = assign_rule x c
rule (rules.Redirect x) c = redirect_rule x c
rule (rules.Word x) c = word_rule x c
rule (rules.Unit x) c = unit_rule x c
rule (rules.Brace x) c = brace_rule x c
rule (rules.Operation x) c = operation_rule x c
rule (rules.Sum x) c = sum_rule x c
rule rules.KeyOperand c = table.key_operand c

-- what is made of the values alone
abbrev pub is_made : Rule → Bool
is_made rules.KeyOperand = false
is_made r = true

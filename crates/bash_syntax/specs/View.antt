-- The tree of the code as the grammar's plain data, without where it lies in memory.
use Rattle.std.specs.Prelude.{ℕ, List, [], ◌∷◌, map, Option, Some, None, Result, Ok, Err}
use Rattle.span_text.specs.declared.span.Span.{Span}
use Rattle.bash_syntax.specs.declared.code.Code.{Code}
use Rattle.bash_syntax.specs.declared.code.Code.TheVariants as codes
use Rattle.bash_syntax.specs.declared.tree.AssignValue.{AssignValue}
use Rattle.bash_syntax.specs.declared.tree.CommandKind.{CommandKind}
use Rattle.bash_syntax.specs.declared.tree.Cond.{Cond}
use Rattle.bash_syntax.specs.declared.tree.Param.{Param}
use Rattle.bash_syntax.specs.declared.tree.ParamOp.{ParamOp}
use Rattle.bash_syntax.specs.declared.tree.PartKind.{PartKind}
use Rattle.bash_syntax.specs.declared.tree.AndOr.{AndOr}
use Rattle.bash_syntax.specs.declared.tree.Arith.{Arith}
use Rattle.bash_syntax.specs.declared.tree.ArrayItem.{ArrayItem}
use Rattle.bash_syntax.specs.declared.tree.Assign.{Assign}
use Rattle.bash_syntax.specs.declared.tree.CaseItem.{CaseItem}
use Rattle.bash_syntax.specs.declared.tree.Command.{Command}
use Rattle.bash_syntax.specs.declared.tree.Function.{Function}
use Rattle.bash_syntax.specs.declared.tree.Item.{Item}
use Rattle.bash_syntax.specs.declared.tree.Part.{Part}
use Rattle.bash_syntax.specs.declared.tree.Pipeline.{Pipeline}
use Rattle.bash_syntax.specs.declared.tree.Redirect.{Redirect}
use Rattle.bash_syntax.specs.declared.tree.Script.{Script}
use Rattle.bash_syntax.specs.declared.tree.Subscript.{Subscript}
use Rattle.bash_syntax.specs.declared.tree.Word.{Word}
use Rattle.bash_syntax.specs.declared.tree.Name.{Name}
use Rattle.bash_syntax.specs.declared.tree.TestOp.{TestOp}
use Rattle.bash_syntax.specs.declared.tree.Joint.{Joint}
use Rattle.bash_syntax.specs.declared.tree.Joint.TheVariants.{And, Or}
use Rattle.bash_syntax.specs.declared.tree.FillTest.{FillTest}
use Rattle.bash_syntax.specs.declared.tree.FillTest.TheVariants.{Default, Assign as AssignTest, Alternate}
use Rattle.bash_syntax.specs.declared.tree.ReplaceAt.{ReplaceAt}
use Rattle.bash_syntax.specs.declared.tree.ReplaceAt.TheVariants.{First, All, Start, End}
use Rattle.bash_syntax.specs.declared.tree.ItemEnd.{ItemEnd}
use Rattle.bash_syntax.specs.declared.tree.ItemEnd.TheVariants.{Stop, Fall, Test}
use Rattle.bash_syntax.specs.declared.tree.RedirectOp.{RedirectOp}
use Rattle.bash_syntax.specs.declared.tree.RedirectOp.TheVariants.{Read, Write, Append, HereLiteral, HereExpanded, HereString, CopyIn, CopyOut, Both, BothAppend, Refused as RefusedOp}
use Rattle.bash_syntax.specs.declared.tree.AssignValue.TheFolds.{fold-AssignValue, fold-CommandKind, fold-Cond, fold-Param, fold-ParamOp, fold-PartKind, fold-AndOr, fold-Arith, fold-ArrayItem, fold-Assign, fold-CaseItem, fold-Command, fold-Function, fold-Item, fold-Part, fold-Pipeline, fold-Redirect, fold-Script, fold-Subscript, fold-Word}
use Rattle.bash_syntax.specs.declared.tree.AssignValue.TheOpen.{AssignValue-F, CommandKind-F, Cond-F, Param-F, ParamOp-F, PartKind-F, AndOr-F, Arith-F, ArrayItem-F, Assign-F, CaseItem-F, Command-F, Function-F, Item-F, Part-F, Pipeline-F, Redirect-F, Script-F, Subscript-F, Word-F}
use Rattle.bash_grammar.specs.Shape as shape

-- ---- codes

abbrev pub view_code : Code → shape.Code
view_code codes.NulByte = shape.unspelled 1
view_code codes.Syntax = shape.unspelled 2
view_code codes.NotYet = shape.unspelled 3
view_code codes.Background = shape.unspelled 4
view_code codes.ProcessSubstitution = shape.process_substitution
view_code codes.ExtendedGlob = shape.extended_glob
view_code codes.RegexTest = shape.regex_test
view_code codes.ReservedCommand = shape.reserved_command
view_code codes.RefusedBuiltin = shape.unspelled 9
view_code codes.RestrictedName = shape.unspelled 10
view_code codes.BuiltinForm = shape.unspelled 11
view_code codes.Indirect = shape.indirect
view_code codes.CasePattern = shape.case_pattern
view_code codes.ErrorExpansion = shape.error_expansion
view_code codes.ListOperator = shape.unspelled 15
view_code codes.ListForm = shape.unspelled 16
view_code codes.ListInScalar = shape.unspelled 17
view_code codes.SpecialParameter = shape.special_parameter
view_code codes.SpecialName = shape.unspelled 19
view_code codes.ReservedPrefix = shape.unspelled 20
view_code codes.LocaleQuote = shape.locale_quote
view_code codes.OldArithmetic = shape.old_arithmetic
view_code codes.AnsiEscape = shape.ansi_escape
view_code codes.Tilde = shape.unspelled 24
view_code codes.NestedQuote = shape.nested_quote
view_code codes.Backquote = shape.backquote
view_code codes.Replacement = shape.unspelled 27
view_code codes.BraceForm = shape.unspelled 28
view_code codes.BraceLimit = shape.unspelled 29
view_code codes.RedirectWord = shape.unspelled 30
view_code codes.Descriptor = shape.descriptor
view_code codes.ReadWrite = shape.read_write
view_code codes.ReadSubstitution = shape.read_substitution
view_code codes.RedirectionOrder = shape.unspelled 34
view_code codes.PrefixAssignment = shape.unspelled 35
view_code codes.FunctionName = shape.function_name
view_code codes.Kind = shape.unspelled 37
view_code codes.ArithForm = shape.arith_form
view_code codes.Effect = shape.unspelled 39
view_code codes.ArrayItem = shape.unspelled 40
view_code codes.Enclosure = shape.unspelled 41
view_code codes.PrintfFormat = shape.unspelled 42
view_code codes.TestOperator = shape.unspelled 43

-- ---- what holds no other node

abbrev pub view_name : Name → shape.Name
view_name n = record { text = n.text; span = n.span }

abbrev pub view_test_op : TestOp → shape.TestOp
view_test_op o = record { text = o.text; span = o.span }

abbrev pub view_test : FillTest → shape.FillTest
view_test Default = shape.default
view_test AssignTest = shape.assigning
view_test Alternate = shape.alternate

abbrev pub view_place : ReplaceAt → shape.ReplaceAt
view_place First = shape.at_first
view_place All = shape.at_all
view_place Start = shape.at_start
view_place End = shape.at_end

abbrev pub view_end : ItemEnd → shape.ItemEnd
view_end Stop = shape.stop
view_end Fall = shape.fall
view_end Test = shape.test_on

abbrev pub view_operator : RedirectOp → shape.RedirectOp
view_operator Read = shape.read
view_operator Write = shape.write
view_operator Append = shape.append
view_operator HereLiteral = shape.here_literal
view_operator HereExpanded = shape.here_expanded
view_operator HereString = shape.here_string
view_operator CopyIn = shape.copy_in
view_operator CopyOut = shape.copy_out
view_operator Both = shape.both_out
view_operator BothAppend = shape.both_append
view_operator (RefusedOp c s) = shape.refused_op (view_code c) s

-- ---- lists of nodes that are seen already

-- a part and where it stands
pub record Placed : Type 0 where
  pub part : shape.Part
  pub span : Span

abbrev pub parts_of : List Placed → shape.Parts
parts_of [] = shape.no_part
parts_of (p ∷ ps) = shape.part p.part p.span (parts_of ps)

abbrev pub words_of : List shape.Word → shape.Words
words_of [] = shape.no_word
words_of (w ∷ ws) = shape.next_word w (words_of ws)

abbrev pub maybe_arith_of : Option shape.Arith → shape.MaybeArith
maybe_arith_of None = shape.no_arith
maybe_arith_of (Some a) = shape.some_arith a

abbrev pub subscript_of : shape.Word → Result shape.Arith Span → Span → shape.Subscript
subscript_of w (Ok a) s = shape.index w a s
subscript_of w (Err bad) s = shape.key_only w bad s

abbrev pub maybe_subscript_of : Option shape.Subscript → shape.MaybeSubscript
maybe_subscript_of None = shape.no_subscript
maybe_subscript_of (Some s) = shape.some_subscript s

abbrev pub value_of : Option shape.Word → shape.Value
value_of None = shape.no_value
value_of (Some w) = shape.value w

abbrev pub elements_of : List shape.Element → shape.Elements
elements_of [] = shape.no_element
elements_of (e ∷ es) = shape.next_element e (elements_of es)

abbrev pub assigns_of : List shape.Assign → shape.Assigns
assigns_of [] = shape.no_assign
assigns_of (a ∷ as') = shape.next_assign a (assigns_of as')

-- a redirection
pub record Aimed : Type 0 where
  pub fd : Option ℕ
  pub op : shape.RedirectOp
  pub word : shape.Word
  pub span : Span

abbrev pub redirects_of : List Aimed → shape.Redirects
redirects_of [] = shape.no_redirect
redirects_of (r ∷ rs) = shape.redirect r.fd r.op r.word r.span (redirects_of rs)

abbrev pub branches_of : List (shape.Script × shape.Script) → shape.Branches
branches_of [] = shape.no_branch
branches_of (b ∷ bs) = shape.branch b.0 b.1 (branches_of bs)

abbrev pub otherwise_of : Option shape.Script → shape.Otherwise
otherwise_of None = shape.no_else
otherwise_of (Some s) = shape.otherwise s

abbrev pub for_words_of : Option (List shape.Word) → shape.ForWords
for_words_of None = shape.parameters
for_words_of (Some ws) = shape.listed (words_of ws)

-- an item of `case`
pub record Listed : Type 0 where
  pub patterns : shape.Words
  pub body : shape.Script
  pub end : shape.ItemEnd

abbrev pub case_items_of : List Listed → shape.Items
case_items_of [] = shape.no_item
case_items_of (i ∷ is) = shape.item i.patterns i.body i.end (case_items_of is)

abbrev pub stages_of : List shape.Command → shape.Stages
stages_of [] = shape.no_stage
stages_of (c ∷ cs) = shape.stage c (stages_of cs)

abbrev pub link_of : Joint → shape.Pipeline → shape.Links → shape.Links
link_of And p ls = shape.and_link p ls
link_of Or p ls = shape.or_link p ls

abbrev pub links_of : List (Joint × shape.Pipeline) → shape.Links
links_of [] = shape.no_link
links_of (l ∷ ls) = link_of l.0 l.1 (links_of ls)

-- a chain, and the place of an `&` behind it
pub record Ended : Type 0 where
  pub chain : shape.Chain
  pub background : Option Span

abbrev pub items_of : List Ended → shape.Script
items_of [] = shape.no_chain
items_of (i ∷ is) = shape.next_chain i.chain i.background (items_of is)

-- ---- each type's step, which sees the nodes below already seen

-- a function's name and body
abbrev pub Named : Type 0
Named = shape.Name × shape.Command

-- a type whose nodes are seen already
abbrev pub Seen : (Type 0 → Type 0 → Type 0 → Type 0 → Type 0 → Type 0 → Type 0 → Type 0 → Type 0 → Type 0 → Type 0 → Type 0 → Type 0 → Type 0 → Type 0 → Type 0 → Type 0 → Type 0 → Type 0 → Type 0 → Type 0) → Type 0
Seen F = F shape.Value shape.Kind shape.Cond shape.Param shape.ParamOp shape.Part shape.Chain shape.Arith shape.Element shape.Assign Listed shape.Command Named Ended Placed shape.Pipeline Aimed shape.Script shape.Subscript shape.Word

abbrev pub value_step : Seen AssignValue-F → shape.Value
value_step (AssignValue-F.Word w) = value_of w
value_step (AssignValue-F.Items is) = shape.items_value (elements_of is)

abbrev pub kind_step : Seen CommandKind-F → shape.Kind
kind_step (CommandKind-F.Simple assigns words) = shape.simple (assigns_of assigns) (words_of words)
kind_step (CommandKind-F.Group s) = shape.group s
kind_step (CommandKind-F.Subshell s) = shape.subshell s
kind_step (CommandKind-F.If parts otherwise) = shape.branching (branches_of parts) (otherwise_of otherwise)
kind_step (CommandKind-F.Loop until test body) = shape.loop until test body
kind_step (CommandKind-F.For name words body) = shape.walk (view_name name) (for_words_of words) body
kind_step (CommandKind-F.ArithFor first test step body) = shape.arith_loop (maybe_arith_of first) (maybe_arith_of test) (maybe_arith_of step) body
kind_step (CommandKind-F.CommandKind::Case subject items) = shape.cases subject (case_items_of items)
kind_step (CommandKind-F.CommandKind::Arith a) = shape.arith_command a
kind_step (CommandKind-F.Cond c) = shape.conditional c
kind_step (CommandKind-F.Function f) = shape.function f.0 f.1
kind_step (CommandKind-F.CommandKind::Refused c s) = shape.refused_command (view_code c) s

abbrev pub cond_step : Seen Cond-F → shape.Cond
cond_step (Cond-F.Or c d) = shape.or_cond c d
cond_step (Cond-F.And c d) = shape.and_cond c d
cond_step (Cond-F.Not c) = shape.not_cond c
cond_step (Cond-F.Text w) = shape.text_cond w
cond_step (Cond-F.Unary o w) = shape.unary_cond (view_test_op o) w
cond_step (Cond-F.Binary w o v) = shape.binary_cond w (view_test_op o) v

abbrev pub param_step : Seen Param-F → shape.Param
param_step (Param-F.Name name) = shape.named (view_name name)
param_step (Param-F.Member name sub) = shape.member (view_name name) sub
param_step (Param-F.Members name at) = shape.members (view_name name) at
param_step (Param-F.Digits text) = shape.digits text
param_step Param-F.Count = shape.count
param_step Param-F.Status = shape.status
param_step Param-F.At = shape.at
param_step Param-F.Star = shape.star

abbrev pub op_step : Seen ParamOp-F → shape.ParamOp
op_step ParamOp-F.ParamOp::Plain = shape.as_is
op_step ParamOp-F.Length = shape.length_of
op_step ParamOp-F.Keys = shape.keys
op_step (ParamOp-F.Fill test colon w) = shape.fill (view_test test) colon w
op_step (ParamOp-F.Trim suffix longest w) = shape.trim suffix longest w
op_step (ParamOp-F.Slice offset length) = shape.slice offset (maybe_arith_of length)
op_step (ParamOp-F.Replace place pattern by) = shape.replace (view_place place) pattern by
op_step (ParamOp-F.ParamOp::Case upper all) = shape.casing upper all

abbrev pub part_kind_step : Seen PartKind-F → shape.Part
part_kind_step (PartKind-F.PartKind::Plain text) = shape.plain text
part_kind_step (PartKind-F.Exact text) = shape.exact text
part_kind_step (PartKind-F.Double parts) = shape.double (parts_of parts)
part_kind_step PartKind-F.Tilde = shape.tilde
part_kind_step (PartKind-F.Param p op) = shape.param p op
part_kind_step (PartKind-F.Subst s) = shape.subst s
part_kind_step (PartKind-F.PartKind::Arith a) = shape.arith_part a
part_kind_step (PartKind-F.Compound a) = shape.compound a
part_kind_step (PartKind-F.PartKind::Refused c s) = shape.refused_part (view_code c) s

abbrev pub chain_step : Seen AndOr-F → shape.Chain
chain_step a = shape.chain a.first (links_of a.rest)

abbrev pub arith_step : Seen Arith-F → shape.Arith
arith_step a = shape.arith a.expr (words_of a.operands) (map view_name a.names) a.effects a.span

abbrev pub element_step : Seen ArrayItem-F → shape.Element
element_step e = shape.element (maybe_subscript_of e.sub) (value_of e.value) e.span

abbrev pub assign_step : Seen Assign-F → shape.Assign
assign_step a = shape.assign (view_name a.name) (maybe_subscript_of a.sub) a.append a.value a.span

abbrev pub case_item_step : Seen CaseItem-F → Listed
case_item_step i = record { patterns = words_of i.patterns; body = i.body; end = view_end i.end }

abbrev pub command_step : Seen Command-F → shape.Command
command_step c = shape.command c.kind (redirects_of c.redirects) c.span

abbrev pub function_step : Seen Function-F → Named
function_step f = (view_name f.name, f.body)

abbrev pub item_step : Seen Item-F → Ended
item_step i = record { chain = i.chain; background = i.background }

abbrev pub part_step : Seen Part-F → Placed
part_step p = record { part = p.kind; span = p.span }

abbrev pub pipeline_step : Seen Pipeline-F → shape.Pipeline
pipeline_step p = shape.pipeline p.negated (stages_of p.stages) p.both

abbrev pub redirect_step : Seen Redirect-F → Aimed
redirect_step r = record { fd = r.fd; op = view_operator r.op; word = r.word; span = r.span }

abbrev pub script_step : Seen Script-F → shape.Script
script_step s = items_of s.items

abbrev pub subscript_step : Seen Subscript-F → shape.Subscript
subscript_step s = subscript_of s.word s.arith s.span

abbrev pub word_step : Seen Word-F → shape.Word
word_step w = shape.word (parts_of w.parts) w.span

-- ---- the views

unfoldable pub view_value : AssignValue → shape.Value
view_value = fold-AssignValue shape.Value shape.Kind shape.Cond shape.Param shape.ParamOp shape.Part shape.Chain shape.Arith shape.Element shape.Assign Listed shape.Command Named Ended Placed shape.Pipeline Aimed shape.Script shape.Subscript shape.Word value_step kind_step cond_step param_step op_step part_kind_step chain_step arith_step element_step assign_step case_item_step command_step function_step item_step part_step pipeline_step redirect_step script_step subscript_step word_step

unfoldable pub view_kind : CommandKind → shape.Kind
view_kind = fold-CommandKind shape.Value shape.Kind shape.Cond shape.Param shape.ParamOp shape.Part shape.Chain shape.Arith shape.Element shape.Assign Listed shape.Command Named Ended Placed shape.Pipeline Aimed shape.Script shape.Subscript shape.Word value_step kind_step cond_step param_step op_step part_kind_step chain_step arith_step element_step assign_step case_item_step command_step function_step item_step part_step pipeline_step redirect_step script_step subscript_step word_step

unfoldable pub view_cond : Cond → shape.Cond
view_cond = fold-Cond shape.Value shape.Kind shape.Cond shape.Param shape.ParamOp shape.Part shape.Chain shape.Arith shape.Element shape.Assign Listed shape.Command Named Ended Placed shape.Pipeline Aimed shape.Script shape.Subscript shape.Word value_step kind_step cond_step param_step op_step part_kind_step chain_step arith_step element_step assign_step case_item_step command_step function_step item_step part_step pipeline_step redirect_step script_step subscript_step word_step

unfoldable pub view_param : Param → shape.Param
view_param = fold-Param shape.Value shape.Kind shape.Cond shape.Param shape.ParamOp shape.Part shape.Chain shape.Arith shape.Element shape.Assign Listed shape.Command Named Ended Placed shape.Pipeline Aimed shape.Script shape.Subscript shape.Word value_step kind_step cond_step param_step op_step part_kind_step chain_step arith_step element_step assign_step case_item_step command_step function_step item_step part_step pipeline_step redirect_step script_step subscript_step word_step

unfoldable pub view_op : ParamOp → shape.ParamOp
view_op = fold-ParamOp shape.Value shape.Kind shape.Cond shape.Param shape.ParamOp shape.Part shape.Chain shape.Arith shape.Element shape.Assign Listed shape.Command Named Ended Placed shape.Pipeline Aimed shape.Script shape.Subscript shape.Word value_step kind_step cond_step param_step op_step part_kind_step chain_step arith_step element_step assign_step case_item_step command_step function_step item_step part_step pipeline_step redirect_step script_step subscript_step word_step

unfoldable pub view_part_kind : PartKind → shape.Part
view_part_kind = fold-PartKind shape.Value shape.Kind shape.Cond shape.Param shape.ParamOp shape.Part shape.Chain shape.Arith shape.Element shape.Assign Listed shape.Command Named Ended Placed shape.Pipeline Aimed shape.Script shape.Subscript shape.Word value_step kind_step cond_step param_step op_step part_kind_step chain_step arith_step element_step assign_step case_item_step command_step function_step item_step part_step pipeline_step redirect_step script_step subscript_step word_step

unfoldable pub view_chain : AndOr → shape.Chain
view_chain = fold-AndOr shape.Value shape.Kind shape.Cond shape.Param shape.ParamOp shape.Part shape.Chain shape.Arith shape.Element shape.Assign Listed shape.Command Named Ended Placed shape.Pipeline Aimed shape.Script shape.Subscript shape.Word value_step kind_step cond_step param_step op_step part_kind_step chain_step arith_step element_step assign_step case_item_step command_step function_step item_step part_step pipeline_step redirect_step script_step subscript_step word_step

unfoldable pub view_arith : Arith → shape.Arith
view_arith = fold-Arith shape.Value shape.Kind shape.Cond shape.Param shape.ParamOp shape.Part shape.Chain shape.Arith shape.Element shape.Assign Listed shape.Command Named Ended Placed shape.Pipeline Aimed shape.Script shape.Subscript shape.Word value_step kind_step cond_step param_step op_step part_kind_step chain_step arith_step element_step assign_step case_item_step command_step function_step item_step part_step pipeline_step redirect_step script_step subscript_step word_step

unfoldable pub view_element : ArrayItem → shape.Element
view_element = fold-ArrayItem shape.Value shape.Kind shape.Cond shape.Param shape.ParamOp shape.Part shape.Chain shape.Arith shape.Element shape.Assign Listed shape.Command Named Ended Placed shape.Pipeline Aimed shape.Script shape.Subscript shape.Word value_step kind_step cond_step param_step op_step part_kind_step chain_step arith_step element_step assign_step case_item_step command_step function_step item_step part_step pipeline_step redirect_step script_step subscript_step word_step

unfoldable pub view_assign : Assign → shape.Assign
view_assign = fold-Assign shape.Value shape.Kind shape.Cond shape.Param shape.ParamOp shape.Part shape.Chain shape.Arith shape.Element shape.Assign Listed shape.Command Named Ended Placed shape.Pipeline Aimed shape.Script shape.Subscript shape.Word value_step kind_step cond_step param_step op_step part_kind_step chain_step arith_step element_step assign_step case_item_step command_step function_step item_step part_step pipeline_step redirect_step script_step subscript_step word_step

unfoldable pub view_case_item : CaseItem → Listed
view_case_item = fold-CaseItem shape.Value shape.Kind shape.Cond shape.Param shape.ParamOp shape.Part shape.Chain shape.Arith shape.Element shape.Assign Listed shape.Command Named Ended Placed shape.Pipeline Aimed shape.Script shape.Subscript shape.Word value_step kind_step cond_step param_step op_step part_kind_step chain_step arith_step element_step assign_step case_item_step command_step function_step item_step part_step pipeline_step redirect_step script_step subscript_step word_step

unfoldable pub view_command : Command → shape.Command
view_command = fold-Command shape.Value shape.Kind shape.Cond shape.Param shape.ParamOp shape.Part shape.Chain shape.Arith shape.Element shape.Assign Listed shape.Command Named Ended Placed shape.Pipeline Aimed shape.Script shape.Subscript shape.Word value_step kind_step cond_step param_step op_step part_kind_step chain_step arith_step element_step assign_step case_item_step command_step function_step item_step part_step pipeline_step redirect_step script_step subscript_step word_step

unfoldable pub view_function : Function → Named
view_function = fold-Function shape.Value shape.Kind shape.Cond shape.Param shape.ParamOp shape.Part shape.Chain shape.Arith shape.Element shape.Assign Listed shape.Command Named Ended Placed shape.Pipeline Aimed shape.Script shape.Subscript shape.Word value_step kind_step cond_step param_step op_step part_kind_step chain_step arith_step element_step assign_step case_item_step command_step function_step item_step part_step pipeline_step redirect_step script_step subscript_step word_step

unfoldable pub view_item : Item → Ended
view_item = fold-Item shape.Value shape.Kind shape.Cond shape.Param shape.ParamOp shape.Part shape.Chain shape.Arith shape.Element shape.Assign Listed shape.Command Named Ended Placed shape.Pipeline Aimed shape.Script shape.Subscript shape.Word value_step kind_step cond_step param_step op_step part_kind_step chain_step arith_step element_step assign_step case_item_step command_step function_step item_step part_step pipeline_step redirect_step script_step subscript_step word_step

unfoldable pub view_part : Part → Placed
view_part = fold-Part shape.Value shape.Kind shape.Cond shape.Param shape.ParamOp shape.Part shape.Chain shape.Arith shape.Element shape.Assign Listed shape.Command Named Ended Placed shape.Pipeline Aimed shape.Script shape.Subscript shape.Word value_step kind_step cond_step param_step op_step part_kind_step chain_step arith_step element_step assign_step case_item_step command_step function_step item_step part_step pipeline_step redirect_step script_step subscript_step word_step

unfoldable pub view_pipeline : Pipeline → shape.Pipeline
view_pipeline = fold-Pipeline shape.Value shape.Kind shape.Cond shape.Param shape.ParamOp shape.Part shape.Chain shape.Arith shape.Element shape.Assign Listed shape.Command Named Ended Placed shape.Pipeline Aimed shape.Script shape.Subscript shape.Word value_step kind_step cond_step param_step op_step part_kind_step chain_step arith_step element_step assign_step case_item_step command_step function_step item_step part_step pipeline_step redirect_step script_step subscript_step word_step

unfoldable pub view_redirect : Redirect → Aimed
view_redirect = fold-Redirect shape.Value shape.Kind shape.Cond shape.Param shape.ParamOp shape.Part shape.Chain shape.Arith shape.Element shape.Assign Listed shape.Command Named Ended Placed shape.Pipeline Aimed shape.Script shape.Subscript shape.Word value_step kind_step cond_step param_step op_step part_kind_step chain_step arith_step element_step assign_step case_item_step command_step function_step item_step part_step pipeline_step redirect_step script_step subscript_step word_step

-- the whole script
unfoldable pub view : Script → shape.Script
view = fold-Script shape.Value shape.Kind shape.Cond shape.Param shape.ParamOp shape.Part shape.Chain shape.Arith shape.Element shape.Assign Listed shape.Command Named Ended Placed shape.Pipeline Aimed shape.Script shape.Subscript shape.Word value_step kind_step cond_step param_step op_step part_kind_step chain_step arith_step element_step assign_step case_item_step command_step function_step item_step part_step pipeline_step redirect_step script_step subscript_step word_step

unfoldable pub view_subscript : Subscript → shape.Subscript
view_subscript = fold-Subscript shape.Value shape.Kind shape.Cond shape.Param shape.ParamOp shape.Part shape.Chain shape.Arith shape.Element shape.Assign Listed shape.Command Named Ended Placed shape.Pipeline Aimed shape.Script shape.Subscript shape.Word value_step kind_step cond_step param_step op_step part_kind_step chain_step arith_step element_step assign_step case_item_step command_step function_step item_step part_step pipeline_step redirect_step script_step subscript_step word_step

unfoldable pub view_word : Word → shape.Word
view_word = fold-Word shape.Value shape.Kind shape.Cond shape.Param shape.ParamOp shape.Part shape.Chain shape.Arith shape.Element shape.Assign Listed shape.Command Named Ended Placed shape.Pipeline Aimed shape.Script shape.Subscript shape.Word value_step kind_step cond_step param_step op_step part_kind_step chain_step arith_step element_step assign_step case_item_step command_step function_step item_step part_step pipeline_step redirect_step script_step subscript_step word_step

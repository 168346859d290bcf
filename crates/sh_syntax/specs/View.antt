-- The tree of the code as the grammar's plain data, without places and without where it lies in memory.
use Rattle.std.specs.Prelude.{ℕ, List, [], ◌∷◌, Option, Some, None}
use Rattle.sh_syntax.specs.declared.tree.AssignValue.{AssignValue}
use Rattle.sh_syntax.specs.declared.tree.CommandKind.{CommandKind}
use Rattle.sh_syntax.specs.declared.tree.ParamOp.{ParamOp}
use Rattle.sh_syntax.specs.declared.tree.PartKind.{PartKind}
use Rattle.sh_syntax.specs.declared.tree.AndOr.{AndOr}
use Rattle.sh_syntax.specs.declared.tree.Arith.{Arith}
use Rattle.sh_syntax.specs.declared.tree.Assign.{Assign}
use Rattle.sh_syntax.specs.declared.tree.CaseItem.{CaseItem}
use Rattle.sh_syntax.specs.declared.tree.Command.{Command}
use Rattle.sh_syntax.specs.declared.tree.Function.{Function}
use Rattle.sh_syntax.specs.declared.tree.Item.{Item}
use Rattle.sh_syntax.specs.declared.tree.Part.{Part}
use Rattle.sh_syntax.specs.declared.tree.Pipeline.{Pipeline}
use Rattle.sh_syntax.specs.declared.tree.Redirect.{Redirect}
use Rattle.sh_syntax.specs.declared.tree.Script.{Script}
use Rattle.sh_syntax.specs.declared.tree.Word.{Word}
use Rattle.sh_syntax.specs.declared.tree.Joint.{Joint}
use Rattle.sh_syntax.specs.declared.tree.Joint.TheVariants.{And, Or}
use Rattle.sh_syntax.specs.declared.tree.Param.{Param}
use Rattle.sh_syntax.specs.declared.tree.Param.TheVariants.{Name as NameParam, Digits, Count, Status, At, Star}
use Rattle.sh_syntax.specs.declared.tree.FillTest.{FillTest}
use Rattle.sh_syntax.specs.declared.tree.FillTest.TheVariants.{Default, Assign as AssignTest, Alternate}
use Rattle.sh_syntax.specs.declared.tree.RedirectOp.{RedirectOp}
use Rattle.sh_syntax.specs.declared.tree.RedirectOp.TheVariants.{Read, Write, Append, HereLiteral, HereExpanded, CopyIn, CopyOut}
use Rattle.sh_syntax.specs.declared.tree.AssignValue.TheFolds.{fold-AssignValue, fold-CommandKind, fold-ParamOp, fold-PartKind, fold-AndOr, fold-Arith, fold-Assign, fold-CaseItem, fold-Command, fold-Function, fold-Item, fold-Part, fold-Pipeline, fold-Redirect, fold-Script, fold-Word}
use Rattle.sh_syntax.specs.declared.tree.AssignValue.TheOpen.{AssignValue-F, CommandKind-F, ParamOp-F, PartKind-F, AndOr-F, Arith-F, Assign-F, CaseItem-F, Command-F, Function-F, Item-F, Part-F, Pipeline-F, Redirect-F, Script-F, Word-F}
use Rattle.sh_grammar.specs.Shape as shape

-- ---- what holds no other node

abbrev pub view_param : Param → shape.Param
view_param (NameParam name) = shape.named name.text
view_param (Digits text) = shape.digits text
view_param Count = shape.count
view_param Status = shape.status
view_param At = shape.at
view_param Star = shape.star

abbrev pub view_test : FillTest → shape.FillTest
view_test Default = shape.default
view_test AssignTest = shape.assigning
view_test Alternate = shape.alternate

abbrev pub view_operator : RedirectOp → shape.RedirectOp
view_operator Read = shape.read
view_operator Write = shape.write
view_operator Append = shape.append
view_operator HereLiteral = shape.here_literal
view_operator HereExpanded = shape.here_expanded
view_operator CopyIn = shape.copy_in
view_operator CopyOut = shape.copy_out

-- ---- lists of nodes that are seen already

abbrev pub parts_of : List shape.Part → shape.Parts
parts_of [] = shape.no_part
parts_of (p ∷ ps) = shape.part p (parts_of ps)

abbrev pub words_of : List shape.Parts → shape.Words
words_of [] = shape.no_word
words_of (w ∷ ws) = shape.word w (words_of ws)

abbrev pub value_of : Option shape.Parts → shape.Value
value_of None = shape.no_value
value_of (Some w) = shape.value w

-- a name and its value, before those behind it
abbrev pub assigns_of : List (List ℕ × shape.Value) → shape.Assigns
assigns_of [] = shape.no_assign
assigns_of (a ∷ as') = shape.assign a.0 a.1 (assigns_of as')

-- a redirection
pub record Aimed : Type 0 where
  pub fd : Option ℕ
  pub op : shape.RedirectOp
  pub word : shape.Parts

abbrev pub redirects_of : List Aimed → shape.Redirects
redirects_of [] = shape.no_redirect
redirects_of (r ∷ rs) = shape.redirect r.fd r.op r.word (redirects_of rs)

abbrev pub branches_of : List (shape.Script × shape.Script) → shape.Branches
branches_of [] = shape.no_branch
branches_of (b ∷ bs) = shape.branch b.0 b.1 (branches_of bs)

abbrev pub otherwise_of : Option shape.Script → shape.Otherwise
otherwise_of None = shape.no_else
otherwise_of (Some s) = shape.otherwise s

abbrev pub for_words_of : Option (List shape.Parts) → shape.ForWords
for_words_of None = shape.parameters
for_words_of (Some ws) = shape.listed (words_of ws)

abbrev pub case_items_of : List (shape.Words × shape.Script) → shape.Items
case_items_of [] = shape.no_item
case_items_of (i ∷ is) = shape.item i.0 i.1 (case_items_of is)

abbrev pub stages_of : List shape.Command → shape.Stages
stages_of [] = shape.no_stage
stages_of (c ∷ cs) = shape.stage c (stages_of cs)

abbrev pub link_of : Joint → shape.Pipeline → shape.Links → shape.Links
link_of And p ls = shape.and_link p ls
link_of Or p ls = shape.or_link p ls

abbrev pub links_of : List (Joint × shape.Pipeline) → shape.Links
links_of [] = shape.no_link
links_of (l ∷ ls) = link_of l.0 l.1 (links_of ls)

abbrev pub items_of : List shape.Chain → shape.Script
items_of [] = shape.no_chain
items_of (c ∷ cs) = shape.next_chain c (items_of cs)

-- ---- each type's step, which sees the nodes below already seen

-- a function's name and body
abbrev pub Named : Type 0
Named = List ℕ × shape.Command

-- an expression and its operands
abbrev pub Sum : Type 0
Sum = Rattle.span_text.specs.declared.expr.Expr.Expr × shape.Words

-- a type whose nodes are seen already
abbrev pub Seen : (Type 0 → Type 0 → Type 0 → Type 0 → Type 0 → Type 0 → Type 0 → Type 0 → Type 0 → Type 0 → Type 0 → Type 0 → Type 0 → Type 0 → Type 0 → Type 0 → Type 0) → Type 0
Seen F = F shape.Value shape.Kind shape.ParamOp shape.Part shape.Chain Sum (List ℕ × shape.Value) (shape.Words × shape.Script) shape.Command Named shape.Chain shape.Part shape.Pipeline Aimed shape.Script shape.Parts

abbrev pub value_step : Seen AssignValue-F → shape.Value
value_step (AssignValue-F.Word w) = value_of w

abbrev pub kind_step : Seen CommandKind-F → shape.Kind
kind_step (CommandKind-F.Simple assigns words) = shape.simple (assigns_of assigns) (words_of words)
kind_step (CommandKind-F.Group s) = shape.group s
kind_step (CommandKind-F.Subshell s) = shape.subshell s
kind_step (CommandKind-F.If parts otherwise) = shape.branching (branches_of parts) (otherwise_of otherwise)
kind_step (CommandKind-F.Loop until test body) = shape.loop until test body
kind_step (CommandKind-F.For name words body) = shape.walk name.text (for_words_of words) body
kind_step (CommandKind-F.Case subject items) = shape.cases subject (case_items_of items)
kind_step (CommandKind-F.Function f) = shape.function f.0 f.1

abbrev pub op_step : Seen ParamOp-F → shape.ParamOp
op_step ParamOp-F.ParamOp::Plain = shape.as_is
op_step ParamOp-F.Length = shape.length_of
op_step (ParamOp-F.Fill test colon w) = shape.fill (view_test test) colon w
op_step (ParamOp-F.Trim suffix longest w) = shape.trim suffix longest w

abbrev pub part_kind_step : Seen PartKind-F → shape.Part
part_kind_step (PartKind-F.PartKind::Plain text) = shape.plain text
part_kind_step (PartKind-F.Exact text) = shape.exact text
part_kind_step (PartKind-F.Double parts) = shape.double (parts_of parts)
part_kind_step PartKind-F.Tilde = shape.tilde
part_kind_step (PartKind-F.Param p op) = shape.param (view_param p) op
part_kind_step (PartKind-F.Subst s) = shape.subst s
part_kind_step (PartKind-F.Arith a) = shape.arith a.0 a.1

abbrev pub chain_step : Seen AndOr-F → shape.Chain
chain_step a = shape.chain a.first (links_of a.rest)

abbrev pub arith_step : Seen Arith-F → Sum
arith_step a = (a.expr, words_of a.operands)

abbrev pub assign_step : Seen Assign-F → List ℕ × shape.Value
assign_step a = (a.name.text, a.value)

abbrev pub case_item_step : Seen CaseItem-F → shape.Words × shape.Script
case_item_step i = (words_of i.patterns, i.body)

abbrev pub command_step : Seen Command-F → shape.Command
command_step c = shape.command c.kind (redirects_of c.redirects)

abbrev pub function_step : Seen Function-F → Named
function_step f = (f.name.text, f.body)

abbrev pub item_step : Seen Item-F → shape.Chain
item_step i = i.chain

abbrev pub part_step : Seen Part-F → shape.Part
part_step p = p.kind

abbrev pub pipeline_step : Seen Pipeline-F → shape.Pipeline
pipeline_step p = shape.pipeline p.negated (stages_of p.stages)

abbrev pub redirect_step : Seen Redirect-F → Aimed
redirect_step r = record { fd = r.fd; op = view_operator r.op; word = r.word }

abbrev pub script_step : Seen Script-F → shape.Script
script_step s = items_of s.items

abbrev pub word_step : Seen Word-F → shape.Parts
word_step w = parts_of w.parts

-- ---- the views

unfoldable pub view_value : AssignValue → shape.Value
view_value = fold-AssignValue shape.Value shape.Kind shape.ParamOp shape.Part shape.Chain Sum (List ℕ × shape.Value) (shape.Words × shape.Script) shape.Command Named shape.Chain shape.Part shape.Pipeline Aimed shape.Script shape.Parts value_step kind_step op_step part_kind_step chain_step arith_step assign_step case_item_step command_step function_step item_step part_step pipeline_step redirect_step script_step word_step

unfoldable pub view_kind : CommandKind → shape.Kind
view_kind = fold-CommandKind shape.Value shape.Kind shape.ParamOp shape.Part shape.Chain Sum (List ℕ × shape.Value) (shape.Words × shape.Script) shape.Command Named shape.Chain shape.Part shape.Pipeline Aimed shape.Script shape.Parts value_step kind_step op_step part_kind_step chain_step arith_step assign_step case_item_step command_step function_step item_step part_step pipeline_step redirect_step script_step word_step

unfoldable pub view_op : ParamOp → shape.ParamOp
view_op = fold-ParamOp shape.Value shape.Kind shape.ParamOp shape.Part shape.Chain Sum (List ℕ × shape.Value) (shape.Words × shape.Script) shape.Command Named shape.Chain shape.Part shape.Pipeline Aimed shape.Script shape.Parts value_step kind_step op_step part_kind_step chain_step arith_step assign_step case_item_step command_step function_step item_step part_step pipeline_step redirect_step script_step word_step

unfoldable pub view_part_kind : PartKind → shape.Part
view_part_kind = fold-PartKind shape.Value shape.Kind shape.ParamOp shape.Part shape.Chain Sum (List ℕ × shape.Value) (shape.Words × shape.Script) shape.Command Named shape.Chain shape.Part shape.Pipeline Aimed shape.Script shape.Parts value_step kind_step op_step part_kind_step chain_step arith_step assign_step case_item_step command_step function_step item_step part_step pipeline_step redirect_step script_step word_step

unfoldable pub view_chain : AndOr → shape.Chain
view_chain = fold-AndOr shape.Value shape.Kind shape.ParamOp shape.Part shape.Chain Sum (List ℕ × shape.Value) (shape.Words × shape.Script) shape.Command Named shape.Chain shape.Part shape.Pipeline Aimed shape.Script shape.Parts value_step kind_step op_step part_kind_step chain_step arith_step assign_step case_item_step command_step function_step item_step part_step pipeline_step redirect_step script_step word_step

unfoldable pub view_arith : Arith → Sum
view_arith = fold-Arith shape.Value shape.Kind shape.ParamOp shape.Part shape.Chain Sum (List ℕ × shape.Value) (shape.Words × shape.Script) shape.Command Named shape.Chain shape.Part shape.Pipeline Aimed shape.Script shape.Parts value_step kind_step op_step part_kind_step chain_step arith_step assign_step case_item_step command_step function_step item_step part_step pipeline_step redirect_step script_step word_step

unfoldable pub view_assign : Assign → List ℕ × shape.Value
view_assign = fold-Assign shape.Value shape.Kind shape.ParamOp shape.Part shape.Chain Sum (List ℕ × shape.Value) (shape.Words × shape.Script) shape.Command Named shape.Chain shape.Part shape.Pipeline Aimed shape.Script shape.Parts value_step kind_step op_step part_kind_step chain_step arith_step assign_step case_item_step command_step function_step item_step part_step pipeline_step redirect_step script_step word_step

unfoldable pub view_case_item : CaseItem → shape.Words × shape.Script
view_case_item = fold-CaseItem shape.Value shape.Kind shape.ParamOp shape.Part shape.Chain Sum (List ℕ × shape.Value) (shape.Words × shape.Script) shape.Command Named shape.Chain shape.Part shape.Pipeline Aimed shape.Script shape.Parts value_step kind_step op_step part_kind_step chain_step arith_step assign_step case_item_step command_step function_step item_step part_step pipeline_step redirect_step script_step word_step

unfoldable pub view_command : Command → shape.Command
view_command = fold-Command shape.Value shape.Kind shape.ParamOp shape.Part shape.Chain Sum (List ℕ × shape.Value) (shape.Words × shape.Script) shape.Command Named shape.Chain shape.Part shape.Pipeline Aimed shape.Script shape.Parts value_step kind_step op_step part_kind_step chain_step arith_step assign_step case_item_step command_step function_step item_step part_step pipeline_step redirect_step script_step word_step

unfoldable pub view_function : Function → Named
view_function = fold-Function shape.Value shape.Kind shape.ParamOp shape.Part shape.Chain Sum (List ℕ × shape.Value) (shape.Words × shape.Script) shape.Command Named shape.Chain shape.Part shape.Pipeline Aimed shape.Script shape.Parts value_step kind_step op_step part_kind_step chain_step arith_step assign_step case_item_step command_step function_step item_step part_step pipeline_step redirect_step script_step word_step

unfoldable pub view_item : Item → shape.Chain
view_item = fold-Item shape.Value shape.Kind shape.ParamOp shape.Part shape.Chain Sum (List ℕ × shape.Value) (shape.Words × shape.Script) shape.Command Named shape.Chain shape.Part shape.Pipeline Aimed shape.Script shape.Parts value_step kind_step op_step part_kind_step chain_step arith_step assign_step case_item_step command_step function_step item_step part_step pipeline_step redirect_step script_step word_step

unfoldable pub view_part : Part → shape.Part
view_part = fold-Part shape.Value shape.Kind shape.ParamOp shape.Part shape.Chain Sum (List ℕ × shape.Value) (shape.Words × shape.Script) shape.Command Named shape.Chain shape.Part shape.Pipeline Aimed shape.Script shape.Parts value_step kind_step op_step part_kind_step chain_step arith_step assign_step case_item_step command_step function_step item_step part_step pipeline_step redirect_step script_step word_step

unfoldable pub view_pipeline : Pipeline → shape.Pipeline
view_pipeline = fold-Pipeline shape.Value shape.Kind shape.ParamOp shape.Part shape.Chain Sum (List ℕ × shape.Value) (shape.Words × shape.Script) shape.Command Named shape.Chain shape.Part shape.Pipeline Aimed shape.Script shape.Parts value_step kind_step op_step part_kind_step chain_step arith_step assign_step case_item_step command_step function_step item_step part_step pipeline_step redirect_step script_step word_step

unfoldable pub view_redirect : Redirect → Aimed
view_redirect = fold-Redirect shape.Value shape.Kind shape.ParamOp shape.Part shape.Chain Sum (List ℕ × shape.Value) (shape.Words × shape.Script) shape.Command Named shape.Chain shape.Part shape.Pipeline Aimed shape.Script shape.Parts value_step kind_step op_step part_kind_step chain_step arith_step assign_step case_item_step command_step function_step item_step part_step pipeline_step redirect_step script_step word_step

-- the whole script
unfoldable pub view : Script → shape.Script
view = fold-Script shape.Value shape.Kind shape.ParamOp shape.Part shape.Chain Sum (List ℕ × shape.Value) (shape.Words × shape.Script) shape.Command Named shape.Chain shape.Part shape.Pipeline Aimed shape.Script shape.Parts value_step kind_step op_step part_kind_step chain_step arith_step assign_step case_item_step command_step function_step item_step part_step pipeline_step redirect_step script_step word_step

unfoldable pub view_word : Word → shape.Parts
view_word = fold-Word shape.Value shape.Kind shape.ParamOp shape.Part shape.Chain Sum (List ℕ × shape.Value) (shape.Words × shape.Script) shape.Command Named shape.Chain shape.Part shape.Pipeline Aimed shape.Script shape.Parts value_step kind_step op_step part_kind_step chain_step arith_step assign_step case_item_step command_step function_step item_step part_step pipeline_step redirect_step script_step word_step

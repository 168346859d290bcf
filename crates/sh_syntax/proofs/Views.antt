-- Each node of the code's tree, seen as plain data.
use Rattle.std.proofs.Common.{◌≡◌, ℕ, Bool, List, sym, ap, ◌∙◌}
use Rattle.std.specs.Prelude.{map, Option, Some, None, option_map}
use Rattle.sh_syntax.specs.declared.tree.ParamOp.{ParamOp}
use Rattle.sh_syntax.specs.declared.tree.AndOr.{AndOr, out-AndOr}
use Rattle.sh_syntax.specs.declared.tree.Arith.{Arith, out-Arith}
use Rattle.sh_syntax.specs.declared.tree.Assign.{Assign}
use Rattle.sh_syntax.specs.declared.tree.CaseItem.{CaseItem, out-CaseItem}
use Rattle.sh_syntax.specs.declared.tree.Command.{Command, out-Command}
use Rattle.sh_syntax.specs.declared.tree.Function.{Function, out-Function}
use Rattle.sh_syntax.specs.declared.tree.Item.{Item, out-Item}
use Rattle.sh_syntax.specs.declared.tree.Part.{Part}
use Rattle.sh_syntax.specs.declared.tree.Pipeline.{Pipeline, out-Pipeline}
use Rattle.sh_syntax.specs.declared.tree.Redirect.{Redirect, out-Redirect}
use Rattle.sh_syntax.specs.declared.tree.Script.{Script, out-Script}
use Rattle.sh_syntax.specs.declared.tree.Word.{Word, out-Word}
use Rattle.sh_syntax.specs.declared.tree.Name.{Name}
use Rattle.sh_syntax.specs.declared.tree.Param.{Param}
use Rattle.sh_syntax.specs.declared.tree.FillTest.{FillTest}
use Rattle.sh_syntax.specs.declared.tree.AssignValue.TheVariants as value'
use Rattle.sh_syntax.specs.declared.tree.CommandKind.TheVariants as kind'
use Rattle.sh_syntax.specs.declared.tree.ParamOp.TheVariants as op'
use Rattle.sh_syntax.specs.declared.tree.PartKind.TheVariants as part'
use Rattle.sh_syntax.specs.declared.tree.AssignValue.TheOpen.{AssignValue-F, CommandKind-F, ParamOp-F, PartKind-F}
use Rattle.sh_syntax.specs.declared.tree.AssignValue.TheFolds.{fold-roll-AssignValue, fold-roll-CommandKind, fold-roll-ParamOp, fold-roll-PartKind, fold_out-AndOr, fold_out-Arith, fold_out-Assign, fold_out-CaseItem, fold_out-Command, fold_out-Function, fold_out-Item, fold_out-Part, fold_out-Pipeline, fold_out-Redirect, fold_out-Script, fold_out-Word}
use Rattle.sh_grammar.specs.Shape as shape
use Rattle.sh_syntax.specs.View.{Named, Sum, Aimed, view_param, view_test, view_operator, parts_of, words_of, value_of, assigns_of, redirects_of, branches_of, otherwise_of, for_words_of, case_items_of, stages_of, links_of, items_of, value_step, kind_step, op_step, part_kind_step, chain_step, arith_step, assign_step, case_item_step, command_step, function_step, item_step, part_step, pipeline_step, redirect_step, script_step, word_step, view_value, view_kind, view_op, view_part_kind, view_chain, view_arith, view_assign, view_case_item, view_command, view_function, view_item, view_part, view_pipeline, view_redirect, view, view_word}

-- ---- words

pub word_is : (w : Word) → view_word w ≡ parts_of (map view_part (out-Word w).parts)
unfolding view_value view_kind view_op view_part_kind view_chain view_arith view_assign view_case_item view_command view_function view_item view_part view_pipeline view_redirect view view_word
word_is w = fold_out-Word shape.Value shape.Kind shape.ParamOp shape.Part shape.Chain Sum (List ℕ × shape.Value) (shape.Words × shape.Script) shape.Command Named shape.Chain shape.Part shape.Pipeline Aimed shape.Script shape.Parts value_step kind_step op_step part_kind_step chain_step arith_step assign_step case_item_step command_step function_step item_step part_step pipeline_step redirect_step script_step word_step w

pub part_is : (p : Part) → view_part p ≡ view_part_kind p.kind
unfolding view_value view_kind view_op view_part_kind view_chain view_arith view_assign view_case_item view_command view_function view_item view_part view_pipeline view_redirect view view_word
part_is p = fold_out-Part shape.Value shape.Kind shape.ParamOp shape.Part shape.Chain Sum (List ℕ × shape.Value) (shape.Words × shape.Script) shape.Command Named shape.Chain shape.Part shape.Pipeline Aimed shape.Script shape.Parts value_step kind_step op_step part_kind_step chain_step arith_step assign_step case_item_step command_step function_step item_step part_step pipeline_step redirect_step script_step word_step p

pub plain_is : (text : List ℕ) → view_part_kind (part'.Plain text) ≡ shape.plain text
unfolding view_value view_kind view_op view_part_kind view_chain view_arith view_assign view_case_item view_command view_function view_item view_part view_pipeline view_redirect view view_word
plain_is text = ap view_part_kind (sym (part'.rolls-Plain text)) ∙ fold-roll-PartKind shape.Value shape.Kind shape.ParamOp shape.Part shape.Chain Sum (List ℕ × shape.Value) (shape.Words × shape.Script) shape.Command Named shape.Chain shape.Part shape.Pipeline Aimed shape.Script shape.Parts value_step kind_step op_step part_kind_step chain_step arith_step assign_step case_item_step command_step function_step item_step part_step pipeline_step redirect_step script_step word_step (PartKind-F.PartKind::Plain text)

pub exact_is : (text : List ℕ) → view_part_kind (part'.Exact text) ≡ shape.exact text
unfolding view_value view_kind view_op view_part_kind view_chain view_arith view_assign view_case_item view_command view_function view_item view_part view_pipeline view_redirect view view_word
exact_is text = ap view_part_kind (sym (part'.rolls-Exact text)) ∙ fold-roll-PartKind shape.Value shape.Kind shape.ParamOp shape.Part shape.Chain Sum (List ℕ × shape.Value) (shape.Words × shape.Script) shape.Command Named shape.Chain shape.Part shape.Pipeline Aimed shape.Script shape.Parts value_step kind_step op_step part_kind_step chain_step arith_step assign_step case_item_step command_step function_step item_step part_step pipeline_step redirect_step script_step word_step (PartKind-F.Exact text)

pub double_is : (ps : List Part) → view_part_kind (part'.Double ps) ≡ shape.double (parts_of (map view_part ps))
unfolding view_value view_kind view_op view_part_kind view_chain view_arith view_assign view_case_item view_command view_function view_item view_part view_pipeline view_redirect view view_word
double_is ps = ap view_part_kind (sym (part'.rolls-Double ps)) ∙ fold-roll-PartKind shape.Value shape.Kind shape.ParamOp shape.Part shape.Chain Sum (List ℕ × shape.Value) (shape.Words × shape.Script) shape.Command Named shape.Chain shape.Part shape.Pipeline Aimed shape.Script shape.Parts value_step kind_step op_step part_kind_step chain_step arith_step assign_step case_item_step command_step function_step item_step part_step pipeline_step redirect_step script_step word_step (PartKind-F.Double ps)

pub tilde_is : view_part_kind part'.Tilde ≡ shape.tilde
unfolding view_value view_kind view_op view_part_kind view_chain view_arith view_assign view_case_item view_command view_function view_item view_part view_pipeline view_redirect view view_word
tilde_is = ap view_part_kind (sym part'.rolls-Tilde) ∙ fold-roll-PartKind shape.Value shape.Kind shape.ParamOp shape.Part shape.Chain Sum (List ℕ × shape.Value) (shape.Words × shape.Script) shape.Command Named shape.Chain shape.Part shape.Pipeline Aimed shape.Script shape.Parts value_step kind_step op_step part_kind_step chain_step arith_step assign_step case_item_step command_step function_step item_step part_step pipeline_step redirect_step script_step word_step PartKind-F.Tilde

pub param_is : (q : Param) (o : ParamOp) → view_part_kind (part'.Param q o) ≡ shape.param (view_param q) (view_op o)
unfolding view_value view_kind view_op view_part_kind view_chain view_arith view_assign view_case_item view_command view_function view_item view_part view_pipeline view_redirect view view_word
param_is q o = ap view_part_kind (sym (part'.rolls-Param q o)) ∙ fold-roll-PartKind shape.Value shape.Kind shape.ParamOp shape.Part shape.Chain Sum (List ℕ × shape.Value) (shape.Words × shape.Script) shape.Command Named shape.Chain shape.Part shape.Pipeline Aimed shape.Script shape.Parts value_step kind_step op_step part_kind_step chain_step arith_step assign_step case_item_step command_step function_step item_step part_step pipeline_step redirect_step script_step word_step (PartKind-F.Param q o)

pub subst_is : (s : Script) → view_part_kind (part'.Subst s) ≡ shape.subst (view s)
unfolding view_value view_kind view_op view_part_kind view_chain view_arith view_assign view_case_item view_command view_function view_item view_part view_pipeline view_redirect view view_word
subst_is s = ap view_part_kind (sym (part'.rolls-Subst s)) ∙ fold-roll-PartKind shape.Value shape.Kind shape.ParamOp shape.Part shape.Chain Sum (List ℕ × shape.Value) (shape.Words × shape.Script) shape.Command Named shape.Chain shape.Part shape.Pipeline Aimed shape.Script shape.Parts value_step kind_step op_step part_kind_step chain_step arith_step assign_step case_item_step command_step function_step item_step part_step pipeline_step redirect_step script_step word_step (PartKind-F.Subst s)

pub arith_part_is : (a : Arith) → view_part_kind (part'.Arith a) ≡ shape.arith (view_arith a).0 (view_arith a).1
unfolding view_value view_kind view_op view_part_kind view_chain view_arith view_assign view_case_item view_command view_function view_item view_part view_pipeline view_redirect view view_word
arith_part_is a = ap view_part_kind (sym (part'.rolls-Arith a)) ∙ fold-roll-PartKind shape.Value shape.Kind shape.ParamOp shape.Part shape.Chain Sum (List ℕ × shape.Value) (shape.Words × shape.Script) shape.Command Named shape.Chain shape.Part shape.Pipeline Aimed shape.Script shape.Parts value_step kind_step op_step part_kind_step chain_step arith_step assign_step case_item_step command_step function_step item_step part_step pipeline_step redirect_step script_step word_step (PartKind-F.Arith a)

pub arith_is : (a : Arith) → view_arith a ≡ ((out-Arith a).expr, words_of (map view_word (out-Arith a).operands))
unfolding view_value view_kind view_op view_part_kind view_chain view_arith view_assign view_case_item view_command view_function view_item view_part view_pipeline view_redirect view view_word
arith_is a = fold_out-Arith shape.Value shape.Kind shape.ParamOp shape.Part shape.Chain Sum (List ℕ × shape.Value) (shape.Words × shape.Script) shape.Command Named shape.Chain shape.Part shape.Pipeline Aimed shape.Script shape.Parts value_step kind_step op_step part_kind_step chain_step arith_step assign_step case_item_step command_step function_step item_step part_step pipeline_step redirect_step script_step word_step a

pub as_is_is : view_op op'.Plain ≡ shape.as_is
unfolding view_value view_kind view_op view_part_kind view_chain view_arith view_assign view_case_item view_command view_function view_item view_part view_pipeline view_redirect view view_word
as_is_is = ap view_op (sym op'.rolls-Plain) ∙ fold-roll-ParamOp shape.Value shape.Kind shape.ParamOp shape.Part shape.Chain Sum (List ℕ × shape.Value) (shape.Words × shape.Script) shape.Command Named shape.Chain shape.Part shape.Pipeline Aimed shape.Script shape.Parts value_step kind_step op_step part_kind_step chain_step arith_step assign_step case_item_step command_step function_step item_step part_step pipeline_step redirect_step script_step word_step ParamOp-F.ParamOp::Plain

pub length_is : view_op op'.Length ≡ shape.length_of
unfolding view_value view_kind view_op view_part_kind view_chain view_arith view_assign view_case_item view_command view_function view_item view_part view_pipeline view_redirect view view_word
length_is = ap view_op (sym op'.rolls-Length) ∙ fold-roll-ParamOp shape.Value shape.Kind shape.ParamOp shape.Part shape.Chain Sum (List ℕ × shape.Value) (shape.Words × shape.Script) shape.Command Named shape.Chain shape.Part shape.Pipeline Aimed shape.Script shape.Parts value_step kind_step op_step part_kind_step chain_step arith_step assign_step case_item_step command_step function_step item_step part_step pipeline_step redirect_step script_step word_step ParamOp-F.Length

pub fill_is : (t : FillTest) (colon : Bool) (w : Word) → view_op (op'.Fill t colon w) ≡ shape.fill (view_test t) colon (view_word w)
unfolding view_value view_kind view_op view_part_kind view_chain view_arith view_assign view_case_item view_command view_function view_item view_part view_pipeline view_redirect view view_word
fill_is t colon w = ap view_op (sym (op'.rolls-Fill t colon w)) ∙ fold-roll-ParamOp shape.Value shape.Kind shape.ParamOp shape.Part shape.Chain Sum (List ℕ × shape.Value) (shape.Words × shape.Script) shape.Command Named shape.Chain shape.Part shape.Pipeline Aimed shape.Script shape.Parts value_step kind_step op_step part_kind_step chain_step arith_step assign_step case_item_step command_step function_step item_step part_step pipeline_step redirect_step script_step word_step (ParamOp-F.Fill t colon w)

pub trim_is : (suffix : Bool) (longest : Bool) (w : Word) → view_op (op'.Trim suffix longest w) ≡ shape.trim suffix longest (view_word w)
unfolding view_value view_kind view_op view_part_kind view_chain view_arith view_assign view_case_item view_command view_function view_item view_part view_pipeline view_redirect view view_word
trim_is suffix longest w = ap view_op (sym (op'.rolls-Trim suffix longest w)) ∙ fold-roll-ParamOp shape.Value shape.Kind shape.ParamOp shape.Part shape.Chain Sum (List ℕ × shape.Value) (shape.Words × shape.Script) shape.Command Named shape.Chain shape.Part shape.Pipeline Aimed shape.Script shape.Parts value_step kind_step op_step part_kind_step chain_step arith_step assign_step case_item_step command_step function_step item_step part_step pipeline_step redirect_step script_step word_step (ParamOp-F.Trim suffix longest w)

-- ---- assignments and redirections

pub assign_is : (a : Assign) → view_assign a ≡ (a.name.text, view_value a.value)
unfolding view_value view_kind view_op view_part_kind view_chain view_arith view_assign view_case_item view_command view_function view_item view_part view_pipeline view_redirect view view_word
assign_is a = fold_out-Assign shape.Value shape.Kind shape.ParamOp shape.Part shape.Chain Sum (List ℕ × shape.Value) (shape.Words × shape.Script) shape.Command Named shape.Chain shape.Part shape.Pipeline Aimed shape.Script shape.Parts value_step kind_step op_step part_kind_step chain_step arith_step assign_step case_item_step command_step function_step item_step part_step pipeline_step redirect_step script_step word_step a

pub value_is : (w : Option Word) → view_value (value'.Word w) ≡ value_of (option_map view_word w)
unfolding view_value view_kind view_op view_part_kind view_chain view_arith view_assign view_case_item view_command view_function view_item view_part view_pipeline view_redirect view view_word
value_is None = ap view_value (sym (value'.rolls-Word None)) ∙ fold-roll-AssignValue shape.Value shape.Kind shape.ParamOp shape.Part shape.Chain Sum (List ℕ × shape.Value) (shape.Words × shape.Script) shape.Command Named shape.Chain shape.Part shape.Pipeline Aimed shape.Script shape.Parts value_step kind_step op_step part_kind_step chain_step arith_step assign_step case_item_step command_step function_step item_step part_step pipeline_step redirect_step script_step word_step (AssignValue-F.Word None)
value_is (Some w) = ap view_value (sym (value'.rolls-Word (Some w))) ∙ fold-roll-AssignValue shape.Value shape.Kind shape.ParamOp shape.Part shape.Chain Sum (List ℕ × shape.Value) (shape.Words × shape.Script) shape.Command Named shape.Chain shape.Part shape.Pipeline Aimed shape.Script shape.Parts value_step kind_step op_step part_kind_step chain_step arith_step assign_step case_item_step command_step function_step item_step part_step pipeline_step redirect_step script_step word_step (AssignValue-F.Word (Some w))

pub redirect_is : (r : Redirect) → view_redirect r ≡ record { fd = (out-Redirect r).fd; op = view_operator (out-Redirect r).op; word = view_word (out-Redirect r).word }
unfolding view_value view_kind view_op view_part_kind view_chain view_arith view_assign view_case_item view_command view_function view_item view_part view_pipeline view_redirect view view_word
redirect_is r = fold_out-Redirect shape.Value shape.Kind shape.ParamOp shape.Part shape.Chain Sum (List ℕ × shape.Value) (shape.Words × shape.Script) shape.Command Named shape.Chain shape.Part shape.Pipeline Aimed shape.Script shape.Parts value_step kind_step op_step part_kind_step chain_step arith_step assign_step case_item_step command_step function_step item_step part_step pipeline_step redirect_step script_step word_step r

-- ---- commands

pub command_is : (c : Command) → view_command c ≡ shape.command (view_kind (out-Command c).kind) (redirects_of (map view_redirect (out-Command c).redirects))
unfolding view_value view_kind view_op view_part_kind view_chain view_arith view_assign view_case_item view_command view_function view_item view_part view_pipeline view_redirect view view_word
command_is c = fold_out-Command shape.Value shape.Kind shape.ParamOp shape.Part shape.Chain Sum (List ℕ × shape.Value) (shape.Words × shape.Script) shape.Command Named shape.Chain shape.Part shape.Pipeline Aimed shape.Script shape.Parts value_step kind_step op_step part_kind_step chain_step arith_step assign_step case_item_step command_step function_step item_step part_step pipeline_step redirect_step script_step word_step c

pub simple_is : (as' : List Assign) (ws : List Word) → view_kind (kind'.Simple as' ws) ≡ shape.simple (assigns_of (map view_assign as')) (words_of (map view_word ws))
unfolding view_value view_kind view_op view_part_kind view_chain view_arith view_assign view_case_item view_command view_function view_item view_part view_pipeline view_redirect view view_word
simple_is as' ws = ap view_kind (sym (kind'.rolls-Simple as' ws)) ∙ fold-roll-CommandKind shape.Value shape.Kind shape.ParamOp shape.Part shape.Chain Sum (List ℕ × shape.Value) (shape.Words × shape.Script) shape.Command Named shape.Chain shape.Part shape.Pipeline Aimed shape.Script shape.Parts value_step kind_step op_step part_kind_step chain_step arith_step assign_step case_item_step command_step function_step item_step part_step pipeline_step redirect_step script_step word_step (CommandKind-F.Simple as' ws)

pub group_is : (s : Script) → view_kind (kind'.Group s) ≡ shape.group (view s)
unfolding view_value view_kind view_op view_part_kind view_chain view_arith view_assign view_case_item view_command view_function view_item view_part view_pipeline view_redirect view view_word
group_is s = ap view_kind (sym (kind'.rolls-Group s)) ∙ fold-roll-CommandKind shape.Value shape.Kind shape.ParamOp shape.Part shape.Chain Sum (List ℕ × shape.Value) (shape.Words × shape.Script) shape.Command Named shape.Chain shape.Part shape.Pipeline Aimed shape.Script shape.Parts value_step kind_step op_step part_kind_step chain_step arith_step assign_step case_item_step command_step function_step item_step part_step pipeline_step redirect_step script_step word_step (CommandKind-F.Group s)

pub subshell_is : (s : Script) → view_kind (kind'.Subshell s) ≡ shape.subshell (view s)
unfolding view_value view_kind view_op view_part_kind view_chain view_arith view_assign view_case_item view_command view_function view_item view_part view_pipeline view_redirect view view_word
subshell_is s = ap view_kind (sym (kind'.rolls-Subshell s)) ∙ fold-roll-CommandKind shape.Value shape.Kind shape.ParamOp shape.Part shape.Chain Sum (List ℕ × shape.Value) (shape.Words × shape.Script) shape.Command Named shape.Chain shape.Part shape.Pipeline Aimed shape.Script shape.Parts value_step kind_step op_step part_kind_step chain_step arith_step assign_step case_item_step command_step function_step item_step part_step pipeline_step redirect_step script_step word_step (CommandKind-F.Subshell s)

pub if_is : (bs : List (Script × Script)) (o : Option Script) → view_kind (kind'.If bs o) ≡ shape.branching (branches_of (map (λ b. (view b.0, view b.1)) bs)) (otherwise_of (option_map view o))
unfolding view_value view_kind view_op view_part_kind view_chain view_arith view_assign view_case_item view_command view_function view_item view_part view_pipeline view_redirect view view_word
if_is bs None = ap view_kind (sym (kind'.rolls-If bs None)) ∙ fold-roll-CommandKind shape.Value shape.Kind shape.ParamOp shape.Part shape.Chain Sum (List ℕ × shape.Value) (shape.Words × shape.Script) shape.Command Named shape.Chain shape.Part shape.Pipeline Aimed shape.Script shape.Parts value_step kind_step op_step part_kind_step chain_step arith_step assign_step case_item_step command_step function_step item_step part_step pipeline_step redirect_step script_step word_step (CommandKind-F.If bs None)
if_is bs (Some o) = ap view_kind (sym (kind'.rolls-If bs (Some o))) ∙ fold-roll-CommandKind shape.Value shape.Kind shape.ParamOp shape.Part shape.Chain Sum (List ℕ × shape.Value) (shape.Words × shape.Script) shape.Command Named shape.Chain shape.Part shape.Pipeline Aimed shape.Script shape.Parts value_step kind_step op_step part_kind_step chain_step arith_step assign_step case_item_step command_step function_step item_step part_step pipeline_step redirect_step script_step word_step (CommandKind-F.If bs (Some o))

pub loop_is : (until : Bool) (test : Script) (body : Script) → view_kind (kind'.Loop until test body) ≡ shape.loop until (view test) (view body)
unfolding view_value view_kind view_op view_part_kind view_chain view_arith view_assign view_case_item view_command view_function view_item view_part view_pipeline view_redirect view view_word
loop_is until test body = ap view_kind (sym (kind'.rolls-Loop until test body)) ∙ fold-roll-CommandKind shape.Value shape.Kind shape.ParamOp shape.Part shape.Chain Sum (List ℕ × shape.Value) (shape.Words × shape.Script) shape.Command Named shape.Chain shape.Part shape.Pipeline Aimed shape.Script shape.Parts value_step kind_step op_step part_kind_step chain_step arith_step assign_step case_item_step command_step function_step item_step part_step pipeline_step redirect_step script_step word_step (CommandKind-F.Loop until test body)

pub for_is : (n : Name) (ws : Option (List Word)) (body : Script) → view_kind (kind'.For n ws body) ≡ shape.walk n.text (for_words_of (option_map (map view_word) ws)) (view body)
unfolding view_value view_kind view_op view_part_kind view_chain view_arith view_assign view_case_item view_command view_function view_item view_part view_pipeline view_redirect view view_word
for_is n None body = ap view_kind (sym (kind'.rolls-For n None body)) ∙ fold-roll-CommandKind shape.Value shape.Kind shape.ParamOp shape.Part shape.Chain Sum (List ℕ × shape.Value) (shape.Words × shape.Script) shape.Command Named shape.Chain shape.Part shape.Pipeline Aimed shape.Script shape.Parts value_step kind_step op_step part_kind_step chain_step arith_step assign_step case_item_step command_step function_step item_step part_step pipeline_step redirect_step script_step word_step (CommandKind-F.For n None body)
for_is n (Some ws) body = ap view_kind (sym (kind'.rolls-For n (Some ws) body)) ∙ fold-roll-CommandKind shape.Value shape.Kind shape.ParamOp shape.Part shape.Chain Sum (List ℕ × shape.Value) (shape.Words × shape.Script) shape.Command Named shape.Chain shape.Part shape.Pipeline Aimed shape.Script shape.Parts value_step kind_step op_step part_kind_step chain_step arith_step assign_step case_item_step command_step function_step item_step part_step pipeline_step redirect_step script_step word_step (CommandKind-F.For n (Some ws) body)

pub case_is : (w : Word) (is : List CaseItem) → view_kind (kind'.Case w is) ≡ shape.cases (view_word w) (case_items_of (map view_case_item is))
unfolding view_value view_kind view_op view_part_kind view_chain view_arith view_assign view_case_item view_command view_function view_item view_part view_pipeline view_redirect view view_word
case_is w is = ap view_kind (sym (kind'.rolls-Case w is)) ∙ fold-roll-CommandKind shape.Value shape.Kind shape.ParamOp shape.Part shape.Chain Sum (List ℕ × shape.Value) (shape.Words × shape.Script) shape.Command Named shape.Chain shape.Part shape.Pipeline Aimed shape.Script shape.Parts value_step kind_step op_step part_kind_step chain_step arith_step assign_step case_item_step command_step function_step item_step part_step pipeline_step redirect_step script_step word_step (CommandKind-F.Case w is)

pub function_kind_is : (f : Function) → view_kind (kind'.Function f) ≡ shape.function (view_function f).0 (view_function f).1
unfolding view_value view_kind view_op view_part_kind view_chain view_arith view_assign view_case_item view_command view_function view_item view_part view_pipeline view_redirect view view_word
function_kind_is f = ap view_kind (sym (kind'.rolls-Function f)) ∙ fold-roll-CommandKind shape.Value shape.Kind shape.ParamOp shape.Part shape.Chain Sum (List ℕ × shape.Value) (shape.Words × shape.Script) shape.Command Named shape.Chain shape.Part shape.Pipeline Aimed shape.Script shape.Parts value_step kind_step op_step part_kind_step chain_step arith_step assign_step case_item_step command_step function_step item_step part_step pipeline_step redirect_step script_step word_step (CommandKind-F.Function f)

pub function_is : (f : Function) → view_function f ≡ ((out-Function f).name.text, view_command (out-Function f).body)
unfolding view_value view_kind view_op view_part_kind view_chain view_arith view_assign view_case_item view_command view_function view_item view_part view_pipeline view_redirect view view_word
function_is f = fold_out-Function shape.Value shape.Kind shape.ParamOp shape.Part shape.Chain Sum (List ℕ × shape.Value) (shape.Words × shape.Script) shape.Command Named shape.Chain shape.Part shape.Pipeline Aimed shape.Script shape.Parts value_step kind_step op_step part_kind_step chain_step arith_step assign_step case_item_step command_step function_step item_step part_step pipeline_step redirect_step script_step word_step f

pub case_item_is : (i : CaseItem) → view_case_item i ≡ (words_of (map view_word (out-CaseItem i).patterns), view (out-CaseItem i).body)
unfolding view_value view_kind view_op view_part_kind view_chain view_arith view_assign view_case_item view_command view_function view_item view_part view_pipeline view_redirect view view_word
case_item_is i = fold_out-CaseItem shape.Value shape.Kind shape.ParamOp shape.Part shape.Chain Sum (List ℕ × shape.Value) (shape.Words × shape.Script) shape.Command Named shape.Chain shape.Part shape.Pipeline Aimed shape.Script shape.Parts value_step kind_step op_step part_kind_step chain_step arith_step assign_step case_item_step command_step function_step item_step part_step pipeline_step redirect_step script_step word_step i

-- ---- pipelines and lists

pub pipeline_is : (p : Pipeline) → view_pipeline p ≡ shape.pipeline (out-Pipeline p).negated (stages_of (map view_command (out-Pipeline p).stages))
unfolding view_value view_kind view_op view_part_kind view_chain view_arith view_assign view_case_item view_command view_function view_item view_part view_pipeline view_redirect view view_word
pipeline_is p = fold_out-Pipeline shape.Value shape.Kind shape.ParamOp shape.Part shape.Chain Sum (List ℕ × shape.Value) (shape.Words × shape.Script) shape.Command Named shape.Chain shape.Part shape.Pipeline Aimed shape.Script shape.Parts value_step kind_step op_step part_kind_step chain_step arith_step assign_step case_item_step command_step function_step item_step part_step pipeline_step redirect_step script_step word_step p

pub chain_is : (a : AndOr) → view_chain a ≡ shape.chain (view_pipeline (out-AndOr a).first) (links_of (map (λ l. (l.0, view_pipeline l.1)) (out-AndOr a).rest))
unfolding view_value view_kind view_op view_part_kind view_chain view_arith view_assign view_case_item view_command view_function view_item view_part view_pipeline view_redirect view view_word
chain_is a = fold_out-AndOr shape.Value shape.Kind shape.ParamOp shape.Part shape.Chain Sum (List ℕ × shape.Value) (shape.Words × shape.Script) shape.Command Named shape.Chain shape.Part shape.Pipeline Aimed shape.Script shape.Parts value_step kind_step op_step part_kind_step chain_step arith_step assign_step case_item_step command_step function_step item_step part_step pipeline_step redirect_step script_step word_step a

pub item_is : (i : Item) → view_item i ≡ view_chain (out-Item i).chain
unfolding view_value view_kind view_op view_part_kind view_chain view_arith view_assign view_case_item view_command view_function view_item view_part view_pipeline view_redirect view view_word
item_is i = fold_out-Item shape.Value shape.Kind shape.ParamOp shape.Part shape.Chain Sum (List ℕ × shape.Value) (shape.Words × shape.Script) shape.Command Named shape.Chain shape.Part shape.Pipeline Aimed shape.Script shape.Parts value_step kind_step op_step part_kind_step chain_step arith_step assign_step case_item_step command_step function_step item_step part_step pipeline_step redirect_step script_step word_step i

pub script_is : (s : Script) → view s ≡ items_of (map view_item (out-Script s).items)
unfolding view_value view_kind view_op view_part_kind view_chain view_arith view_assign view_case_item view_command view_function view_item view_part view_pipeline view_redirect view view_word
script_is s = fold_out-Script shape.Value shape.Kind shape.ParamOp shape.Part shape.Chain Sum (List ℕ × shape.Value) (shape.Words × shape.Script) shape.Command Named shape.Chain shape.Part shape.Pipeline Aimed shape.Script shape.Parts value_step kind_step op_step part_kind_step chain_step arith_step assign_step case_item_step command_step function_step item_step part_step pipeline_step redirect_step script_step word_step s

-- Each node of the code's tree, seen as plain data.
use Rattle.std.proofs.Common.{◌≡◌, ℕ, Bool, List, refl, sym, ap, ◌∙◌}
use Rattle.std.specs.Prelude.{map, Option, Some, None, option_map, Result, Ok, Err}
use Rattle.span_text.specs.declared.span.Span.{Span}
use Rattle.bash_syntax.specs.declared.code.Code.{Code}
use Rattle.bash_syntax.specs.declared.tree.AndOr.{AndOr, out-AndOr}
use Rattle.bash_syntax.specs.declared.tree.Arith.{Arith, out-Arith}
use Rattle.bash_syntax.specs.declared.tree.ArrayItem.{ArrayItem, out-ArrayItem}
use Rattle.bash_syntax.specs.declared.tree.Assign.{Assign, out-Assign}
use Rattle.bash_syntax.specs.declared.tree.CaseItem.{CaseItem, out-CaseItem}
use Rattle.bash_syntax.specs.declared.tree.Command.{Command, out-Command}
use Rattle.bash_syntax.specs.declared.tree.Function.{Function, out-Function}
use Rattle.bash_syntax.specs.declared.tree.Item.{Item, out-Item}
use Rattle.bash_syntax.specs.declared.tree.Part.{Part, out-Part}
use Rattle.bash_syntax.specs.declared.tree.Pipeline.{Pipeline, out-Pipeline}
use Rattle.bash_syntax.specs.declared.tree.Redirect.{Redirect, out-Redirect}
use Rattle.bash_syntax.specs.declared.tree.Script.{Script, out-Script}
use Rattle.bash_syntax.specs.declared.tree.Subscript.{Subscript, out-Subscript}
use Rattle.bash_syntax.specs.declared.tree.Word.{Word, out-Word}
use Rattle.bash_syntax.specs.declared.tree.AssignValue.{AssignValue}
use Rattle.bash_syntax.specs.declared.tree.CommandKind.{CommandKind}
use Rattle.bash_syntax.specs.declared.tree.Cond.{Cond}
use Rattle.bash_syntax.specs.declared.tree.Param.{Param}
use Rattle.bash_syntax.specs.declared.tree.ParamOp.{ParamOp}
use Rattle.bash_syntax.specs.declared.tree.PartKind.{PartKind}
use Rattle.bash_syntax.specs.declared.tree.Name.{Name}
use Rattle.bash_syntax.specs.declared.tree.TestOp.{TestOp}
use Rattle.bash_syntax.specs.declared.tree.FillTest.{FillTest}
use Rattle.bash_syntax.specs.declared.tree.ReplaceAt.{ReplaceAt}
use Rattle.bash_syntax.specs.declared.tree.AssignValue.TheVariants as value'
use Rattle.bash_syntax.specs.declared.tree.CommandKind.TheVariants as kind'
use Rattle.bash_syntax.specs.declared.tree.Cond.TheVariants as cond'
use Rattle.bash_syntax.specs.declared.tree.Param.TheVariants as param'
use Rattle.bash_syntax.specs.declared.tree.ParamOp.TheVariants as op'
use Rattle.bash_syntax.specs.declared.tree.PartKind.TheVariants as part'
use Rattle.bash_syntax.specs.declared.tree.AssignValue.TheOpen.{AssignValue-F, CommandKind-F, Cond-F, Param-F, ParamOp-F, PartKind-F}
use Rattle.bash_syntax.specs.declared.tree.AssignValue.TheFolds.{fold-roll-AssignValue, fold-roll-CommandKind, fold-roll-Cond, fold-roll-Param, fold-roll-ParamOp, fold-roll-PartKind, fold_out-AndOr, fold_out-Arith, fold_out-ArrayItem, fold_out-Assign, fold_out-CaseItem, fold_out-Command, fold_out-Function, fold_out-Item, fold_out-Part, fold_out-Pipeline, fold_out-Redirect, fold_out-Script, fold_out-Subscript, fold_out-Word}
use Rattle.bash_grammar.specs.Shape as shape
use Rattle.bash_syntax.specs.View.{Placed, Aimed, Listed, Ended, Named, view_code, view_name, view_test_op, view_test, view_place, view_end, view_operator, parts_of, words_of, maybe_arith_of, subscript_of, maybe_subscript_of, value_of, elements_of, assigns_of, redirects_of, branches_of, otherwise_of, for_words_of, case_items_of, stages_of, links_of, items_of, value_step, kind_step, cond_step, param_step, op_step, part_kind_step, chain_step, arith_step, element_step, assign_step, case_item_step, command_step, function_step, item_step, part_step, pipeline_step, redirect_step, script_step, subscript_step, word_step, view_value, view_kind, view_cond, view_param, view_op, view_part_kind, view_chain, view_arith, view_element, view_assign, view_case_item, view_command, view_function, view_item, view_part, view_pipeline, view_redirect, view, view_subscript, view_word}

-- a subscript's expression, or the place where it spells none
abbrev pub arith_or_bad : Result Arith Span → Result shape.Arith Span
arith_or_bad (Ok a) = Ok (view_arith a)
arith_or_bad (Err bad) = Err bad

-- ---- words

pub word_is : (w : Word) → view_word w ≡ shape.word (parts_of (map view_part (out-Word w).parts)) (out-Word w).span
unfolding view_value view_kind view_cond view_param view_op view_part_kind view_chain view_arith view_element view_assign view_case_item view_command view_function view_item view_part view_pipeline view_redirect view view_subscript view_word
word_is w = fold_out-Word shape.Value shape.Kind shape.Cond shape.Param shape.ParamOp shape.Part shape.Chain shape.Arith shape.Element shape.Assign Listed shape.Command Named Ended Placed shape.Pipeline Aimed shape.Script shape.Subscript shape.Word value_step kind_step cond_step param_step op_step part_kind_step chain_step arith_step element_step assign_step case_item_step command_step function_step item_step part_step pipeline_step redirect_step script_step subscript_step word_step w

pub part_is : (p : Part) → view_part p ≡ record { part = view_part_kind p.kind; span = p.span }
unfolding view_value view_kind view_cond view_param view_op view_part_kind view_chain view_arith view_element view_assign view_case_item view_command view_function view_item view_part view_pipeline view_redirect view view_subscript view_word
part_is p = fold_out-Part shape.Value shape.Kind shape.Cond shape.Param shape.ParamOp shape.Part shape.Chain shape.Arith shape.Element shape.Assign Listed shape.Command Named Ended Placed shape.Pipeline Aimed shape.Script shape.Subscript shape.Word value_step kind_step cond_step param_step op_step part_kind_step chain_step arith_step element_step assign_step case_item_step command_step function_step item_step part_step pipeline_step redirect_step script_step subscript_step word_step p

pub plain_is : (text : List ℕ) → view_part_kind (part'.Plain text) ≡ shape.plain text
unfolding view_value view_kind view_cond view_param view_op view_part_kind view_chain view_arith view_element view_assign view_case_item view_command view_function view_item view_part view_pipeline view_redirect view view_subscript view_word
plain_is text = ap view_part_kind (sym (part'.rolls-Plain text)) ∙ fold-roll-PartKind shape.Value shape.Kind shape.Cond shape.Param shape.ParamOp shape.Part shape.Chain shape.Arith shape.Element shape.Assign Listed shape.Command Named Ended Placed shape.Pipeline Aimed shape.Script shape.Subscript shape.Word value_step kind_step cond_step param_step op_step part_kind_step chain_step arith_step element_step assign_step case_item_step command_step function_step item_step part_step pipeline_step redirect_step script_step subscript_step word_step (PartKind-F.PartKind::Plain text)

pub exact_is : (text : List ℕ) → view_part_kind (part'.Exact text) ≡ shape.exact text
unfolding view_value view_kind view_cond view_param view_op view_part_kind view_chain view_arith view_element view_assign view_case_item view_command view_function view_item view_part view_pipeline view_redirect view view_subscript view_word
exact_is text = ap view_part_kind (sym (part'.rolls-Exact text)) ∙ fold-roll-PartKind shape.Value shape.Kind shape.Cond shape.Param shape.ParamOp shape.Part shape.Chain shape.Arith shape.Element shape.Assign Listed shape.Command Named Ended Placed shape.Pipeline Aimed shape.Script shape.Subscript shape.Word value_step kind_step cond_step param_step op_step part_kind_step chain_step arith_step element_step assign_step case_item_step command_step function_step item_step part_step pipeline_step redirect_step script_step subscript_step word_step (PartKind-F.Exact text)

pub double_is : (ps : List Part) → view_part_kind (part'.Double ps) ≡ shape.double (parts_of (map view_part ps))
unfolding view_value view_kind view_cond view_param view_op view_part_kind view_chain view_arith view_element view_assign view_case_item view_command view_function view_item view_part view_pipeline view_redirect view view_subscript view_word
double_is ps = ap view_part_kind (sym (part'.rolls-Double ps)) ∙ fold-roll-PartKind shape.Value shape.Kind shape.Cond shape.Param shape.ParamOp shape.Part shape.Chain shape.Arith shape.Element shape.Assign Listed shape.Command Named Ended Placed shape.Pipeline Aimed shape.Script shape.Subscript shape.Word value_step kind_step cond_step param_step op_step part_kind_step chain_step arith_step element_step assign_step case_item_step command_step function_step item_step part_step pipeline_step redirect_step script_step subscript_step word_step (PartKind-F.Double ps)

pub tilde_is : view_part_kind part'.Tilde ≡ shape.tilde
unfolding view_value view_kind view_cond view_param view_op view_part_kind view_chain view_arith view_element view_assign view_case_item view_command view_function view_item view_part view_pipeline view_redirect view view_subscript view_word
tilde_is = ap view_part_kind (sym part'.rolls-Tilde) ∙ fold-roll-PartKind shape.Value shape.Kind shape.Cond shape.Param shape.ParamOp shape.Part shape.Chain shape.Arith shape.Element shape.Assign Listed shape.Command Named Ended Placed shape.Pipeline Aimed shape.Script shape.Subscript shape.Word value_step kind_step cond_step param_step op_step part_kind_step chain_step arith_step element_step assign_step case_item_step command_step function_step item_step part_step pipeline_step redirect_step script_step subscript_step word_step PartKind-F.Tilde

pub param_part_is : (p : Param) (o : ParamOp) → view_part_kind (part'.Param p o) ≡ shape.param (view_param p) (view_op o)
unfolding view_value view_kind view_cond view_param view_op view_part_kind view_chain view_arith view_element view_assign view_case_item view_command view_function view_item view_part view_pipeline view_redirect view view_subscript view_word
param_part_is p o = ap view_part_kind (sym (part'.rolls-Param p o)) ∙ fold-roll-PartKind shape.Value shape.Kind shape.Cond shape.Param shape.ParamOp shape.Part shape.Chain shape.Arith shape.Element shape.Assign Listed shape.Command Named Ended Placed shape.Pipeline Aimed shape.Script shape.Subscript shape.Word value_step kind_step cond_step param_step op_step part_kind_step chain_step arith_step element_step assign_step case_item_step command_step function_step item_step part_step pipeline_step redirect_step script_step subscript_step word_step (PartKind-F.Param p o)

pub subst_is : (s : Script) → view_part_kind (part'.Subst s) ≡ shape.subst (view s)
unfolding view_value view_kind view_cond view_param view_op view_part_kind view_chain view_arith view_element view_assign view_case_item view_command view_function view_item view_part view_pipeline view_redirect view view_subscript view_word
subst_is s = ap view_part_kind (sym (part'.rolls-Subst s)) ∙ fold-roll-PartKind shape.Value shape.Kind shape.Cond shape.Param shape.ParamOp shape.Part shape.Chain shape.Arith shape.Element shape.Assign Listed shape.Command Named Ended Placed shape.Pipeline Aimed shape.Script shape.Subscript shape.Word value_step kind_step cond_step param_step op_step part_kind_step chain_step arith_step element_step assign_step case_item_step command_step function_step item_step part_step pipeline_step redirect_step script_step subscript_step word_step (PartKind-F.Subst s)

pub arith_part_is : (a : Arith) → view_part_kind (part'.Arith a) ≡ shape.arith_part (view_arith a)
unfolding view_value view_kind view_cond view_param view_op view_part_kind view_chain view_arith view_element view_assign view_case_item view_command view_function view_item view_part view_pipeline view_redirect view view_subscript view_word
arith_part_is a = ap view_part_kind (sym (part'.rolls-Arith a)) ∙ fold-roll-PartKind shape.Value shape.Kind shape.Cond shape.Param shape.ParamOp shape.Part shape.Chain shape.Arith shape.Element shape.Assign Listed shape.Command Named Ended Placed shape.Pipeline Aimed shape.Script shape.Subscript shape.Word value_step kind_step cond_step param_step op_step part_kind_step chain_step arith_step element_step assign_step case_item_step command_step function_step item_step part_step pipeline_step redirect_step script_step subscript_step word_step (PartKind-F.PartKind::Arith a)

pub compound_is : (a : Assign) → view_part_kind (part'.Compound a) ≡ shape.compound (view_assign a)
unfolding view_value view_kind view_cond view_param view_op view_part_kind view_chain view_arith view_element view_assign view_case_item view_command view_function view_item view_part view_pipeline view_redirect view view_subscript view_word
compound_is a = ap view_part_kind (sym (part'.rolls-Compound a)) ∙ fold-roll-PartKind shape.Value shape.Kind shape.Cond shape.Param shape.ParamOp shape.Part shape.Chain shape.Arith shape.Element shape.Assign Listed shape.Command Named Ended Placed shape.Pipeline Aimed shape.Script shape.Subscript shape.Word value_step kind_step cond_step param_step op_step part_kind_step chain_step arith_step element_step assign_step case_item_step command_step function_step item_step part_step pipeline_step redirect_step script_step subscript_step word_step (PartKind-F.Compound a)

pub refused_part_is : (c : Code) (s : Span) → view_part_kind (part'.Refused c s) ≡ shape.refused_part (view_code c) s
unfolding view_value view_kind view_cond view_param view_op view_part_kind view_chain view_arith view_element view_assign view_case_item view_command view_function view_item view_part view_pipeline view_redirect view view_subscript view_word
refused_part_is c s = ap view_part_kind (sym (part'.rolls-Refused c s)) ∙ fold-roll-PartKind shape.Value shape.Kind shape.Cond shape.Param shape.ParamOp shape.Part shape.Chain shape.Arith shape.Element shape.Assign Listed shape.Command Named Ended Placed shape.Pipeline Aimed shape.Script shape.Subscript shape.Word value_step kind_step cond_step param_step op_step part_kind_step chain_step arith_step element_step assign_step case_item_step command_step function_step item_step part_step pipeline_step redirect_step script_step subscript_step word_step (PartKind-F.PartKind::Refused c s)

-- ---- parameters and their operators

pub named_is : (n : Name) → view_param (param'.Name n) ≡ shape.named (view_name n)
unfolding view_value view_kind view_cond view_param view_op view_part_kind view_chain view_arith view_element view_assign view_case_item view_command view_function view_item view_part view_pipeline view_redirect view view_subscript view_word
named_is n = ap view_param (sym (param'.rolls-Name n)) ∙ fold-roll-Param shape.Value shape.Kind shape.Cond shape.Param shape.ParamOp shape.Part shape.Chain shape.Arith shape.Element shape.Assign Listed shape.Command Named Ended Placed shape.Pipeline Aimed shape.Script shape.Subscript shape.Word value_step kind_step cond_step param_step op_step part_kind_step chain_step arith_step element_step assign_step case_item_step command_step function_step item_step part_step pipeline_step redirect_step script_step subscript_step word_step (Param-F.Name n)

pub member_is : (n : Name) (s : Subscript) → view_param (param'.Member n s) ≡ shape.member (view_name n) (view_subscript s)
unfolding view_value view_kind view_cond view_param view_op view_part_kind view_chain view_arith view_element view_assign view_case_item view_command view_function view_item view_part view_pipeline view_redirect view view_subscript view_word
member_is n s = ap view_param (sym (param'.rolls-Member n s)) ∙ fold-roll-Param shape.Value shape.Kind shape.Cond shape.Param shape.ParamOp shape.Part shape.Chain shape.Arith shape.Element shape.Assign Listed shape.Command Named Ended Placed shape.Pipeline Aimed shape.Script shape.Subscript shape.Word value_step kind_step cond_step param_step op_step part_kind_step chain_step arith_step element_step assign_step case_item_step command_step function_step item_step part_step pipeline_step redirect_step script_step subscript_step word_step (Param-F.Member n s)

pub members_is : (n : Name) (at : Bool) → view_param (param'.Members n at) ≡ shape.members (view_name n) at
unfolding view_value view_kind view_cond view_param view_op view_part_kind view_chain view_arith view_element view_assign view_case_item view_command view_function view_item view_part view_pipeline view_redirect view view_subscript view_word
members_is n at = ap view_param (sym (param'.rolls-Members n at)) ∙ fold-roll-Param shape.Value shape.Kind shape.Cond shape.Param shape.ParamOp shape.Part shape.Chain shape.Arith shape.Element shape.Assign Listed shape.Command Named Ended Placed shape.Pipeline Aimed shape.Script shape.Subscript shape.Word value_step kind_step cond_step param_step op_step part_kind_step chain_step arith_step element_step assign_step case_item_step command_step function_step item_step part_step pipeline_step redirect_step script_step subscript_step word_step (Param-F.Members n at)

pub digits_is : (text : List ℕ) → view_param (param'.Digits text) ≡ shape.digits text
unfolding view_value view_kind view_cond view_param view_op view_part_kind view_chain view_arith view_element view_assign view_case_item view_command view_function view_item view_part view_pipeline view_redirect view view_subscript view_word
digits_is text = ap view_param (sym (param'.rolls-Digits text)) ∙ fold-roll-Param shape.Value shape.Kind shape.Cond shape.Param shape.ParamOp shape.Part shape.Chain shape.Arith shape.Element shape.Assign Listed shape.Command Named Ended Placed shape.Pipeline Aimed shape.Script shape.Subscript shape.Word value_step kind_step cond_step param_step op_step part_kind_step chain_step arith_step element_step assign_step case_item_step command_step function_step item_step part_step pipeline_step redirect_step script_step subscript_step word_step (Param-F.Digits text)

pub count_is : view_param param'.Count ≡ shape.count
unfolding view_value view_kind view_cond view_param view_op view_part_kind view_chain view_arith view_element view_assign view_case_item view_command view_function view_item view_part view_pipeline view_redirect view view_subscript view_word
count_is = ap view_param (sym param'.rolls-Count) ∙ fold-roll-Param shape.Value shape.Kind shape.Cond shape.Param shape.ParamOp shape.Part shape.Chain shape.Arith shape.Element shape.Assign Listed shape.Command Named Ended Placed shape.Pipeline Aimed shape.Script shape.Subscript shape.Word value_step kind_step cond_step param_step op_step part_kind_step chain_step arith_step element_step assign_step case_item_step command_step function_step item_step part_step pipeline_step redirect_step script_step subscript_step word_step Param-F.Count

pub status_is : view_param param'.Status ≡ shape.status
unfolding view_value view_kind view_cond view_param view_op view_part_kind view_chain view_arith view_element view_assign view_case_item view_command view_function view_item view_part view_pipeline view_redirect view view_subscript view_word
status_is = ap view_param (sym param'.rolls-Status) ∙ fold-roll-Param shape.Value shape.Kind shape.Cond shape.Param shape.ParamOp shape.Part shape.Chain shape.Arith shape.Element shape.Assign Listed shape.Command Named Ended Placed shape.Pipeline Aimed shape.Script shape.Subscript shape.Word value_step kind_step cond_step param_step op_step part_kind_step chain_step arith_step element_step assign_step case_item_step command_step function_step item_step part_step pipeline_step redirect_step script_step subscript_step word_step Param-F.Status

pub at_is : view_param param'.At ≡ shape.at
unfolding view_value view_kind view_cond view_param view_op view_part_kind view_chain view_arith view_element view_assign view_case_item view_command view_function view_item view_part view_pipeline view_redirect view view_subscript view_word
at_is = ap view_param (sym param'.rolls-At) ∙ fold-roll-Param shape.Value shape.Kind shape.Cond shape.Param shape.ParamOp shape.Part shape.Chain shape.Arith shape.Element shape.Assign Listed shape.Command Named Ended Placed shape.Pipeline Aimed shape.Script shape.Subscript shape.Word value_step kind_step cond_step param_step op_step part_kind_step chain_step arith_step element_step assign_step case_item_step command_step function_step item_step part_step pipeline_step redirect_step script_step subscript_step word_step Param-F.At

pub star_is : view_param param'.Star ≡ shape.star
unfolding view_value view_kind view_cond view_param view_op view_part_kind view_chain view_arith view_element view_assign view_case_item view_command view_function view_item view_part view_pipeline view_redirect view view_subscript view_word
star_is = ap view_param (sym param'.rolls-Star) ∙ fold-roll-Param shape.Value shape.Kind shape.Cond shape.Param shape.ParamOp shape.Part shape.Chain shape.Arith shape.Element shape.Assign Listed shape.Command Named Ended Placed shape.Pipeline Aimed shape.Script shape.Subscript shape.Word value_step kind_step cond_step param_step op_step part_kind_step chain_step arith_step element_step assign_step case_item_step command_step function_step item_step part_step pipeline_step redirect_step script_step subscript_step word_step Param-F.Star

pub as_is_is : view_op op'.Plain ≡ shape.as_is
unfolding view_value view_kind view_cond view_param view_op view_part_kind view_chain view_arith view_element view_assign view_case_item view_command view_function view_item view_part view_pipeline view_redirect view view_subscript view_word
as_is_is = ap view_op (sym op'.rolls-Plain) ∙ fold-roll-ParamOp shape.Value shape.Kind shape.Cond shape.Param shape.ParamOp shape.Part shape.Chain shape.Arith shape.Element shape.Assign Listed shape.Command Named Ended Placed shape.Pipeline Aimed shape.Script shape.Subscript shape.Word value_step kind_step cond_step param_step op_step part_kind_step chain_step arith_step element_step assign_step case_item_step command_step function_step item_step part_step pipeline_step redirect_step script_step subscript_step word_step ParamOp-F.ParamOp::Plain

pub length_is : view_op op'.Length ≡ shape.length_of
unfolding view_value view_kind view_cond view_param view_op view_part_kind view_chain view_arith view_element view_assign view_case_item view_command view_function view_item view_part view_pipeline view_redirect view view_subscript view_word
length_is = ap view_op (sym op'.rolls-Length) ∙ fold-roll-ParamOp shape.Value shape.Kind shape.Cond shape.Param shape.ParamOp shape.Part shape.Chain shape.Arith shape.Element shape.Assign Listed shape.Command Named Ended Placed shape.Pipeline Aimed shape.Script shape.Subscript shape.Word value_step kind_step cond_step param_step op_step part_kind_step chain_step arith_step element_step assign_step case_item_step command_step function_step item_step part_step pipeline_step redirect_step script_step subscript_step word_step ParamOp-F.Length

pub keys_is : view_op op'.Keys ≡ shape.keys
unfolding view_value view_kind view_cond view_param view_op view_part_kind view_chain view_arith view_element view_assign view_case_item view_command view_function view_item view_part view_pipeline view_redirect view view_subscript view_word
keys_is = ap view_op (sym op'.rolls-Keys) ∙ fold-roll-ParamOp shape.Value shape.Kind shape.Cond shape.Param shape.ParamOp shape.Part shape.Chain shape.Arith shape.Element shape.Assign Listed shape.Command Named Ended Placed shape.Pipeline Aimed shape.Script shape.Subscript shape.Word value_step kind_step cond_step param_step op_step part_kind_step chain_step arith_step element_step assign_step case_item_step command_step function_step item_step part_step pipeline_step redirect_step script_step subscript_step word_step ParamOp-F.Keys

pub fill_is : (t : FillTest) (colon : Bool) (w : Word) → view_op (op'.Fill t colon w) ≡ shape.fill (view_test t) colon (view_word w)
unfolding view_value view_kind view_cond view_param view_op view_part_kind view_chain view_arith view_element view_assign view_case_item view_command view_function view_item view_part view_pipeline view_redirect view view_subscript view_word
fill_is t colon w = ap view_op (sym (op'.rolls-Fill t colon w)) ∙ fold-roll-ParamOp shape.Value shape.Kind shape.Cond shape.Param shape.ParamOp shape.Part shape.Chain shape.Arith shape.Element shape.Assign Listed shape.Command Named Ended Placed shape.Pipeline Aimed shape.Script shape.Subscript shape.Word value_step kind_step cond_step param_step op_step part_kind_step chain_step arith_step element_step assign_step case_item_step command_step function_step item_step part_step pipeline_step redirect_step script_step subscript_step word_step (ParamOp-F.Fill t colon w)

pub trim_is : (suffix : Bool) (longest : Bool) (w : Word) → view_op (op'.Trim suffix longest w) ≡ shape.trim suffix longest (view_word w)
unfolding view_value view_kind view_cond view_param view_op view_part_kind view_chain view_arith view_element view_assign view_case_item view_command view_function view_item view_part view_pipeline view_redirect view view_subscript view_word
trim_is suffix longest w = ap view_op (sym (op'.rolls-Trim suffix longest w)) ∙ fold-roll-ParamOp shape.Value shape.Kind shape.Cond shape.Param shape.ParamOp shape.Part shape.Chain shape.Arith shape.Element shape.Assign Listed shape.Command Named Ended Placed shape.Pipeline Aimed shape.Script shape.Subscript shape.Word value_step kind_step cond_step param_step op_step part_kind_step chain_step arith_step element_step assign_step case_item_step command_step function_step item_step part_step pipeline_step redirect_step script_step subscript_step word_step (ParamOp-F.Trim suffix longest w)

pub slice_is : (a : Arith) (l : Option Arith) → view_op (op'.Slice a l) ≡ shape.slice (view_arith a) (maybe_arith_of (option_map view_arith l))
unfolding view_value view_kind view_cond view_param view_op view_part_kind view_chain view_arith view_element view_assign view_case_item view_command view_function view_item view_part view_pipeline view_redirect view view_subscript view_word
slice_is a None = ap view_op (sym (op'.rolls-Slice a None)) ∙ fold-roll-ParamOp shape.Value shape.Kind shape.Cond shape.Param shape.ParamOp shape.Part shape.Chain shape.Arith shape.Element shape.Assign Listed shape.Command Named Ended Placed shape.Pipeline Aimed shape.Script shape.Subscript shape.Word value_step kind_step cond_step param_step op_step part_kind_step chain_step arith_step element_step assign_step case_item_step command_step function_step item_step part_step pipeline_step redirect_step script_step subscript_step word_step (ParamOp-F.Slice a None)
slice_is a (Some l) = ap view_op (sym (op'.rolls-Slice a (Some l))) ∙ fold-roll-ParamOp shape.Value shape.Kind shape.Cond shape.Param shape.ParamOp shape.Part shape.Chain shape.Arith shape.Element shape.Assign Listed shape.Command Named Ended Placed shape.Pipeline Aimed shape.Script shape.Subscript shape.Word value_step kind_step cond_step param_step op_step part_kind_step chain_step arith_step element_step assign_step case_item_step command_step function_step item_step part_step pipeline_step redirect_step script_step subscript_step word_step (ParamOp-F.Slice a (Some l))

pub replace_is : (place : ReplaceAt) (p : Word) (w : Word) → view_op (op'.Replace place p w) ≡ shape.replace (view_place place) (view_word p) (view_word w)
unfolding view_value view_kind view_cond view_param view_op view_part_kind view_chain view_arith view_element view_assign view_case_item view_command view_function view_item view_part view_pipeline view_redirect view view_subscript view_word
replace_is place p w = ap view_op (sym (op'.rolls-Replace place p w)) ∙ fold-roll-ParamOp shape.Value shape.Kind shape.Cond shape.Param shape.ParamOp shape.Part shape.Chain shape.Arith shape.Element shape.Assign Listed shape.Command Named Ended Placed shape.Pipeline Aimed shape.Script shape.Subscript shape.Word value_step kind_step cond_step param_step op_step part_kind_step chain_step arith_step element_step assign_step case_item_step command_step function_step item_step part_step pipeline_step redirect_step script_step subscript_step word_step (ParamOp-F.Replace place p w)

pub casing_is : (upper : Bool) (all : Bool) → view_op (op'.Case upper all) ≡ shape.casing upper all
unfolding view_value view_kind view_cond view_param view_op view_part_kind view_chain view_arith view_element view_assign view_case_item view_command view_function view_item view_part view_pipeline view_redirect view view_subscript view_word
casing_is upper all = ap view_op (sym (op'.rolls-Case upper all)) ∙ fold-roll-ParamOp shape.Value shape.Kind shape.Cond shape.Param shape.ParamOp shape.Part shape.Chain shape.Arith shape.Element shape.Assign Listed shape.Command Named Ended Placed shape.Pipeline Aimed shape.Script shape.Subscript shape.Word value_step kind_step cond_step param_step op_step part_kind_step chain_step arith_step element_step assign_step case_item_step command_step function_step item_step part_step pipeline_step redirect_step script_step subscript_step word_step (ParamOp-F.ParamOp::Case upper all)

pub arith_is : (a : Arith) → view_arith a ≡ shape.arith (out-Arith a).expr (words_of (map view_word (out-Arith a).operands)) (map view_name (out-Arith a).names) (out-Arith a).effects (out-Arith a).span
unfolding view_value view_kind view_cond view_param view_op view_part_kind view_chain view_arith view_element view_assign view_case_item view_command view_function view_item view_part view_pipeline view_redirect view view_subscript view_word
arith_is a = fold_out-Arith shape.Value shape.Kind shape.Cond shape.Param shape.ParamOp shape.Part shape.Chain shape.Arith shape.Element shape.Assign Listed shape.Command Named Ended Placed shape.Pipeline Aimed shape.Script shape.Subscript shape.Word value_step kind_step cond_step param_step op_step part_kind_step chain_step arith_step element_step assign_step case_item_step command_step function_step item_step part_step pipeline_step redirect_step script_step subscript_step word_step a

-- ---- assignments and redirections

subscript_is_by : (s : Subscript) (r : Result Arith Span) → (out-Subscript s).arith ≡ r → view_subscript s ≡ subscript_of (view_word (out-Subscript s).word) (arith_or_bad r) (out-Subscript s).span
unfolding view_value view_kind view_cond view_param view_op view_part_kind view_chain view_arith view_element view_assign view_case_item view_command view_function view_item view_part view_pipeline view_redirect view view_subscript view_word
subscript_is_by s (Ok a) e0 = fold_out-Subscript shape.Value shape.Kind shape.Cond shape.Param shape.ParamOp shape.Part shape.Chain shape.Arith shape.Element shape.Assign Listed shape.Command Named Ended Placed shape.Pipeline Aimed shape.Script shape.Subscript shape.Word value_step kind_step cond_step param_step op_step part_kind_step chain_step arith_step element_step assign_step case_item_step command_step function_step item_step part_step pipeline_step redirect_step script_step subscript_step word_step s ∙ rw e0 refl
subscript_is_by s (Err e) e0 = fold_out-Subscript shape.Value shape.Kind shape.Cond shape.Param shape.ParamOp shape.Part shape.Chain shape.Arith shape.Element shape.Assign Listed shape.Command Named Ended Placed shape.Pipeline Aimed shape.Script shape.Subscript shape.Word value_step kind_step cond_step param_step op_step part_kind_step chain_step arith_step element_step assign_step case_item_step command_step function_step item_step part_step pipeline_step redirect_step script_step subscript_step word_step s ∙ rw e0 refl

pub subscript_is : (s : Subscript) → view_subscript s ≡ subscript_of (view_word (out-Subscript s).word) (arith_or_bad (out-Subscript s).arith) (out-Subscript s).span
subscript_is s = subscript_is_by s (out-Subscript s).arith refl

assign_is_by : (a : Assign) (s : Option Subscript) → (out-Assign a).sub ≡ s → view_assign a ≡ shape.assign (view_name (out-Assign a).name) (maybe_subscript_of (option_map view_subscript s)) (out-Assign a).append (view_value (out-Assign a).value) (out-Assign a).span
unfolding view_value view_kind view_cond view_param view_op view_part_kind view_chain view_arith view_element view_assign view_case_item view_command view_function view_item view_part view_pipeline view_redirect view view_subscript view_word
assign_is_by a None e0 = fold_out-Assign shape.Value shape.Kind shape.Cond shape.Param shape.ParamOp shape.Part shape.Chain shape.Arith shape.Element shape.Assign Listed shape.Command Named Ended Placed shape.Pipeline Aimed shape.Script shape.Subscript shape.Word value_step kind_step cond_step param_step op_step part_kind_step chain_step arith_step element_step assign_step case_item_step command_step function_step item_step part_step pipeline_step redirect_step script_step subscript_step word_step a ∙ rw e0 refl
assign_is_by a (Some x) e0 = fold_out-Assign shape.Value shape.Kind shape.Cond shape.Param shape.ParamOp shape.Part shape.Chain shape.Arith shape.Element shape.Assign Listed shape.Command Named Ended Placed shape.Pipeline Aimed shape.Script shape.Subscript shape.Word value_step kind_step cond_step param_step op_step part_kind_step chain_step arith_step element_step assign_step case_item_step command_step function_step item_step part_step pipeline_step redirect_step script_step subscript_step word_step a ∙ rw e0 refl

pub assign_is : (a : Assign) → view_assign a ≡ shape.assign (view_name (out-Assign a).name) (maybe_subscript_of (option_map view_subscript (out-Assign a).sub)) (out-Assign a).append (view_value (out-Assign a).value) (out-Assign a).span
assign_is a = assign_is_by a (out-Assign a).sub refl

pub value_is : (w : Option Word) → view_value (value'.Word w) ≡ value_of (option_map view_word w)
unfolding view_value view_kind view_cond view_param view_op view_part_kind view_chain view_arith view_element view_assign view_case_item view_command view_function view_item view_part view_pipeline view_redirect view view_subscript view_word
value_is None = ap view_value (sym (value'.rolls-Word None)) ∙ fold-roll-AssignValue shape.Value shape.Kind shape.Cond shape.Param shape.ParamOp shape.Part shape.Chain shape.Arith shape.Element shape.Assign Listed shape.Command Named Ended Placed shape.Pipeline Aimed shape.Script shape.Subscript shape.Word value_step kind_step cond_step param_step op_step part_kind_step chain_step arith_step element_step assign_step case_item_step command_step function_step item_step part_step pipeline_step redirect_step script_step subscript_step word_step (AssignValue-F.Word None)
value_is (Some w) = ap view_value (sym (value'.rolls-Word (Some w))) ∙ fold-roll-AssignValue shape.Value shape.Kind shape.Cond shape.Param shape.ParamOp shape.Part shape.Chain shape.Arith shape.Element shape.Assign Listed shape.Command Named Ended Placed shape.Pipeline Aimed shape.Script shape.Subscript shape.Word value_step kind_step cond_step param_step op_step part_kind_step chain_step arith_step element_step assign_step case_item_step command_step function_step item_step part_step pipeline_step redirect_step script_step subscript_step word_step (AssignValue-F.Word (Some w))

pub items_is : (is : List ArrayItem) → view_value (value'.Items is) ≡ shape.items_value (elements_of (map view_element is))
unfolding view_value view_kind view_cond view_param view_op view_part_kind view_chain view_arith view_element view_assign view_case_item view_command view_function view_item view_part view_pipeline view_redirect view view_subscript view_word
items_is is = ap view_value (sym (value'.rolls-Items is)) ∙ fold-roll-AssignValue shape.Value shape.Kind shape.Cond shape.Param shape.ParamOp shape.Part shape.Chain shape.Arith shape.Element shape.Assign Listed shape.Command Named Ended Placed shape.Pipeline Aimed shape.Script shape.Subscript shape.Word value_step kind_step cond_step param_step op_step part_kind_step chain_step arith_step element_step assign_step case_item_step command_step function_step item_step part_step pipeline_step redirect_step script_step subscript_step word_step (AssignValue-F.Items is)

element_is_by : (e : ArrayItem) (s : Option Subscript) (v : Option Word) → (out-ArrayItem e).sub ≡ s → (out-ArrayItem e).value ≡ v → view_element e ≡ shape.element (maybe_subscript_of (option_map view_subscript s)) (value_of (option_map view_word v)) (out-ArrayItem e).span
unfolding view_value view_kind view_cond view_param view_op view_part_kind view_chain view_arith view_element view_assign view_case_item view_command view_function view_item view_part view_pipeline view_redirect view view_subscript view_word
element_is_by e None None e0 e1 = fold_out-ArrayItem shape.Value shape.Kind shape.Cond shape.Param shape.ParamOp shape.Part shape.Chain shape.Arith shape.Element shape.Assign Listed shape.Command Named Ended Placed shape.Pipeline Aimed shape.Script shape.Subscript shape.Word value_step kind_step cond_step param_step op_step part_kind_step chain_step arith_step element_step assign_step case_item_step command_step function_step item_step part_step pipeline_step redirect_step script_step subscript_step word_step e ∙ rw (e0, e1) refl
element_is_by e None (Some y) e0 e1 = fold_out-ArrayItem shape.Value shape.Kind shape.Cond shape.Param shape.ParamOp shape.Part shape.Chain shape.Arith shape.Element shape.Assign Listed shape.Command Named Ended Placed shape.Pipeline Aimed shape.Script shape.Subscript shape.Word value_step kind_step cond_step param_step op_step part_kind_step chain_step arith_step element_step assign_step case_item_step command_step function_step item_step part_step pipeline_step redirect_step script_step subscript_step word_step e ∙ rw (e0, e1) refl
element_is_by e (Some x) None e0 e1 = fold_out-ArrayItem shape.Value shape.Kind shape.Cond shape.Param shape.ParamOp shape.Part shape.Chain shape.Arith shape.Element shape.Assign Listed shape.Command Named Ended Placed shape.Pipeline Aimed shape.Script shape.Subscript shape.Word value_step kind_step cond_step param_step op_step part_kind_step chain_step arith_step element_step assign_step case_item_step command_step function_step item_step part_step pipeline_step redirect_step script_step subscript_step word_step e ∙ rw (e0, e1) refl
element_is_by e (Some x) (Some y) e0 e1 = fold_out-ArrayItem shape.Value shape.Kind shape.Cond shape.Param shape.ParamOp shape.Part shape.Chain shape.Arith shape.Element shape.Assign Listed shape.Command Named Ended Placed shape.Pipeline Aimed shape.Script shape.Subscript shape.Word value_step kind_step cond_step param_step op_step part_kind_step chain_step arith_step element_step assign_step case_item_step command_step function_step item_step part_step pipeline_step redirect_step script_step subscript_step word_step e ∙ rw (e0, e1) refl

pub element_is : (e : ArrayItem) → view_element e ≡ shape.element (maybe_subscript_of (option_map view_subscript (out-ArrayItem e).sub)) (value_of (option_map view_word (out-ArrayItem e).value)) (out-ArrayItem e).span
element_is e = element_is_by e (out-ArrayItem e).sub (out-ArrayItem e).value refl refl

pub redirect_is : (r : Redirect) → view_redirect r ≡ record { fd = (out-Redirect r).fd; op = view_operator (out-Redirect r).op; word = view_word (out-Redirect r).word; span = (out-Redirect r).span }
unfolding view_value view_kind view_cond view_param view_op view_part_kind view_chain view_arith view_element view_assign view_case_item view_command view_function view_item view_part view_pipeline view_redirect view view_subscript view_word
redirect_is r = fold_out-Redirect shape.Value shape.Kind shape.Cond shape.Param shape.ParamOp shape.Part shape.Chain shape.Arith shape.Element shape.Assign Listed shape.Command Named Ended Placed shape.Pipeline Aimed shape.Script shape.Subscript shape.Word value_step kind_step cond_step param_step op_step part_kind_step chain_step arith_step element_step assign_step case_item_step command_step function_step item_step part_step pipeline_step redirect_step script_step subscript_step word_step r

-- ---- commands

pub command_is : (c : Command) → view_command c ≡ shape.command (view_kind (out-Command c).kind) (redirects_of (map view_redirect (out-Command c).redirects)) (out-Command c).span
unfolding view_value view_kind view_cond view_param view_op view_part_kind view_chain view_arith view_element view_assign view_case_item view_command view_function view_item view_part view_pipeline view_redirect view view_subscript view_word
command_is c = fold_out-Command shape.Value shape.Kind shape.Cond shape.Param shape.ParamOp shape.Part shape.Chain shape.Arith shape.Element shape.Assign Listed shape.Command Named Ended Placed shape.Pipeline Aimed shape.Script shape.Subscript shape.Word value_step kind_step cond_step param_step op_step part_kind_step chain_step arith_step element_step assign_step case_item_step command_step function_step item_step part_step pipeline_step redirect_step script_step subscript_step word_step c

pub simple_is : (as' : List Assign) (ws : List Word) → view_kind (kind'.Simple as' ws) ≡ shape.simple (assigns_of (map view_assign as')) (words_of (map view_word ws))
unfolding view_value view_kind view_cond view_param view_op view_part_kind view_chain view_arith view_element view_assign view_case_item view_command view_function view_item view_part view_pipeline view_redirect view view_subscript view_word
simple_is as' ws = ap view_kind (sym (kind'.rolls-Simple as' ws)) ∙ fold-roll-CommandKind shape.Value shape.Kind shape.Cond shape.Param shape.ParamOp shape.Part shape.Chain shape.Arith shape.Element shape.Assign Listed shape.Command Named Ended Placed shape.Pipeline Aimed shape.Script shape.Subscript shape.Word value_step kind_step cond_step param_step op_step part_kind_step chain_step arith_step element_step assign_step case_item_step command_step function_step item_step part_step pipeline_step redirect_step script_step subscript_step word_step (CommandKind-F.Simple as' ws)

pub group_is : (s : Script) → view_kind (kind'.Group s) ≡ shape.group (view s)
unfolding view_value view_kind view_cond view_param view_op view_part_kind view_chain view_arith view_element view_assign view_case_item view_command view_function view_item view_part view_pipeline view_redirect view view_subscript view_word
group_is s = ap view_kind (sym (kind'.rolls-Group s)) ∙ fold-roll-CommandKind shape.Value shape.Kind shape.Cond shape.Param shape.ParamOp shape.Part shape.Chain shape.Arith shape.Element shape.Assign Listed shape.Command Named Ended Placed shape.Pipeline Aimed shape.Script shape.Subscript shape.Word value_step kind_step cond_step param_step op_step part_kind_step chain_step arith_step element_step assign_step case_item_step command_step function_step item_step part_step pipeline_step redirect_step script_step subscript_step word_step (CommandKind-F.Group s)

pub subshell_is : (s : Script) → view_kind (kind'.Subshell s) ≡ shape.subshell (view s)
unfolding view_value view_kind view_cond view_param view_op view_part_kind view_chain view_arith view_element view_assign view_case_item view_command view_function view_item view_part view_pipeline view_redirect view view_subscript view_word
subshell_is s = ap view_kind (sym (kind'.rolls-Subshell s)) ∙ fold-roll-CommandKind shape.Value shape.Kind shape.Cond shape.Param shape.ParamOp shape.Part shape.Chain shape.Arith shape.Element shape.Assign Listed shape.Command Named Ended Placed shape.Pipeline Aimed shape.Script shape.Subscript shape.Word value_step kind_step cond_step param_step op_step part_kind_step chain_step arith_step element_step assign_step case_item_step command_step function_step item_step part_step pipeline_step redirect_step script_step subscript_step word_step (CommandKind-F.Subshell s)

pub branching_is : (ps : List (Script × Script)) (o : Option Script) → view_kind (kind'.If ps o) ≡ shape.branching (branches_of (map (λ p. (view p.0, view p.1)) ps)) (otherwise_of (option_map view o))
unfolding view_value view_kind view_cond view_param view_op view_part_kind view_chain view_arith view_element view_assign view_case_item view_command view_function view_item view_part view_pipeline view_redirect view view_subscript view_word
branching_is ps None = ap view_kind (sym (kind'.rolls-If ps None)) ∙ fold-roll-CommandKind shape.Value shape.Kind shape.Cond shape.Param shape.ParamOp shape.Part shape.Chain shape.Arith shape.Element shape.Assign Listed shape.Command Named Ended Placed shape.Pipeline Aimed shape.Script shape.Subscript shape.Word value_step kind_step cond_step param_step op_step part_kind_step chain_step arith_step element_step assign_step case_item_step command_step function_step item_step part_step pipeline_step redirect_step script_step subscript_step word_step (CommandKind-F.If ps None)
branching_is ps (Some o) = ap view_kind (sym (kind'.rolls-If ps (Some o))) ∙ fold-roll-CommandKind shape.Value shape.Kind shape.Cond shape.Param shape.ParamOp shape.Part shape.Chain shape.Arith shape.Element shape.Assign Listed shape.Command Named Ended Placed shape.Pipeline Aimed shape.Script shape.Subscript shape.Word value_step kind_step cond_step param_step op_step part_kind_step chain_step arith_step element_step assign_step case_item_step command_step function_step item_step part_step pipeline_step redirect_step script_step subscript_step word_step (CommandKind-F.If ps (Some o))

pub loop_is : (until : Bool) (t : Script) (b : Script) → view_kind (kind'.Loop until t b) ≡ shape.loop until (view t) (view b)
unfolding view_value view_kind view_cond view_param view_op view_part_kind view_chain view_arith view_element view_assign view_case_item view_command view_function view_item view_part view_pipeline view_redirect view view_subscript view_word
loop_is until t b = ap view_kind (sym (kind'.rolls-Loop until t b)) ∙ fold-roll-CommandKind shape.Value shape.Kind shape.Cond shape.Param shape.ParamOp shape.Part shape.Chain shape.Arith shape.Element shape.Assign Listed shape.Command Named Ended Placed shape.Pipeline Aimed shape.Script shape.Subscript shape.Word value_step kind_step cond_step param_step op_step part_kind_step chain_step arith_step element_step assign_step case_item_step command_step function_step item_step part_step pipeline_step redirect_step script_step subscript_step word_step (CommandKind-F.Loop until t b)

pub walk_is : (n : Name) (ws : Option (List Word)) (b : Script) → view_kind (kind'.For n ws b) ≡ shape.walk (view_name n) (for_words_of (option_map (map view_word) ws)) (view b)
unfolding view_value view_kind view_cond view_param view_op view_part_kind view_chain view_arith view_element view_assign view_case_item view_command view_function view_item view_part view_pipeline view_redirect view view_subscript view_word
walk_is n None b = ap view_kind (sym (kind'.rolls-For n None b)) ∙ fold-roll-CommandKind shape.Value shape.Kind shape.Cond shape.Param shape.ParamOp shape.Part shape.Chain shape.Arith shape.Element shape.Assign Listed shape.Command Named Ended Placed shape.Pipeline Aimed shape.Script shape.Subscript shape.Word value_step kind_step cond_step param_step op_step part_kind_step chain_step arith_step element_step assign_step case_item_step command_step function_step item_step part_step pipeline_step redirect_step script_step subscript_step word_step (CommandKind-F.For n None b)
walk_is n (Some ws) b = ap view_kind (sym (kind'.rolls-For n (Some ws) b)) ∙ fold-roll-CommandKind shape.Value shape.Kind shape.Cond shape.Param shape.ParamOp shape.Part shape.Chain shape.Arith shape.Element shape.Assign Listed shape.Command Named Ended Placed shape.Pipeline Aimed shape.Script shape.Subscript shape.Word value_step kind_step cond_step param_step op_step part_kind_step chain_step arith_step element_step assign_step case_item_step command_step function_step item_step part_step pipeline_step redirect_step script_step subscript_step word_step (CommandKind-F.For n (Some ws) b)

pub arith_loop_is : (f : Option Arith) (t : Option Arith) (s : Option Arith) (b : Script) → view_kind (kind'.ArithFor f t s b) ≡ shape.arith_loop (maybe_arith_of (option_map view_arith f)) (maybe_arith_of (option_map view_arith t)) (maybe_arith_of (option_map view_arith s)) (view b)
unfolding view_value view_kind view_cond view_param view_op view_part_kind view_chain view_arith view_element view_assign view_case_item view_command view_function view_item view_part view_pipeline view_redirect view view_subscript view_word
arith_loop_is None None None b = ap view_kind (sym (kind'.rolls-ArithFor None None None b)) ∙ fold-roll-CommandKind shape.Value shape.Kind shape.Cond shape.Param shape.ParamOp shape.Part shape.Chain shape.Arith shape.Element shape.Assign Listed shape.Command Named Ended Placed shape.Pipeline Aimed shape.Script shape.Subscript shape.Word value_step kind_step cond_step param_step op_step part_kind_step chain_step arith_step element_step assign_step case_item_step command_step function_step item_step part_step pipeline_step redirect_step script_step subscript_step word_step (CommandKind-F.ArithFor None None None b)
arith_loop_is None None (Some s) b = ap view_kind (sym (kind'.rolls-ArithFor None None (Some s) b)) ∙ fold-roll-CommandKind shape.Value shape.Kind shape.Cond shape.Param shape.ParamOp shape.Part shape.Chain shape.Arith shape.Element shape.Assign Listed shape.Command Named Ended Placed shape.Pipeline Aimed shape.Script shape.Subscript shape.Word value_step kind_step cond_step param_step op_step part_kind_step chain_step arith_step element_step assign_step case_item_step command_step function_step item_step part_step pipeline_step redirect_step script_step subscript_step word_step (CommandKind-F.ArithFor None None (Some s) b)
arith_loop_is None (Some t) None b = ap view_kind (sym (kind'.rolls-ArithFor None (Some t) None b)) ∙ fold-roll-CommandKind shape.Value shape.Kind shape.Cond shape.Param shape.ParamOp shape.Part shape.Chain shape.Arith shape.Element shape.Assign Listed shape.Command Named Ended Placed shape.Pipeline Aimed shape.Script shape.Subscript shape.Word value_step kind_step cond_step param_step op_step part_kind_step chain_step arith_step element_step assign_step case_item_step command_step function_step item_step part_step pipeline_step redirect_step script_step subscript_step word_step (CommandKind-F.ArithFor None (Some t) None b)
arith_loop_is None (Some t) (Some s) b = ap view_kind (sym (kind'.rolls-ArithFor None (Some t) (Some s) b)) ∙ fold-roll-CommandKind shape.Value shape.Kind shape.Cond shape.Param shape.ParamOp shape.Part shape.Chain shape.Arith shape.Element shape.Assign Listed shape.Command Named Ended Placed shape.Pipeline Aimed shape.Script shape.Subscript shape.Word value_step kind_step cond_step param_step op_step part_kind_step chain_step arith_step element_step assign_step case_item_step command_step function_step item_step part_step pipeline_step redirect_step script_step subscript_step word_step (CommandKind-F.ArithFor None (Some t) (Some s) b)
arith_loop_is (Some f) None None b = ap view_kind (sym (kind'.rolls-ArithFor (Some f) None None b)) ∙ fold-roll-CommandKind shape.Value shape.Kind shape.Cond shape.Param shape.ParamOp shape.Part shape.Chain shape.Arith shape.Element shape.Assign Listed shape.Command Named Ended Placed shape.Pipeline Aimed shape.Script shape.Subscript shape.Word value_step kind_step cond_step param_step op_step part_kind_step chain_step arith_step element_step assign_step case_item_step command_step function_step item_step part_step pipeline_step redirect_step script_step subscript_step word_step (CommandKind-F.ArithFor (Some f) None None b)
arith_loop_is (Some f) None (Some s) b = ap view_kind (sym (kind'.rolls-ArithFor (Some f) None (Some s) b)) ∙ fold-roll-CommandKind shape.Value shape.Kind shape.Cond shape.Param shape.ParamOp shape.Part shape.Chain shape.Arith shape.Element shape.Assign Listed shape.Command Named Ended Placed shape.Pipeline Aimed shape.Script shape.Subscript shape.Word value_step kind_step cond_step param_step op_step part_kind_step chain_step arith_step element_step assign_step case_item_step command_step function_step item_step part_step pipeline_step redirect_step script_step subscript_step word_step (CommandKind-F.ArithFor (Some f) None (Some s) b)
arith_loop_is (Some f) (Some t) None b = ap view_kind (sym (kind'.rolls-ArithFor (Some f) (Some t) None b)) ∙ fold-roll-CommandKind shape.Value shape.Kind shape.Cond shape.Param shape.ParamOp shape.Part shape.Chain shape.Arith shape.Element shape.Assign Listed shape.Command Named Ended Placed shape.Pipeline Aimed shape.Script shape.Subscript shape.Word value_step kind_step cond_step param_step op_step part_kind_step chain_step arith_step element_step assign_step case_item_step command_step function_step item_step part_step pipeline_step redirect_step script_step subscript_step word_step (CommandKind-F.ArithFor (Some f) (Some t) None b)
arith_loop_is (Some f) (Some t) (Some s) b = ap view_kind (sym (kind'.rolls-ArithFor (Some f) (Some t) (Some s) b)) ∙ fold-roll-CommandKind shape.Value shape.Kind shape.Cond shape.Param shape.ParamOp shape.Part shape.Chain shape.Arith shape.Element shape.Assign Listed shape.Command Named Ended Placed shape.Pipeline Aimed shape.Script shape.Subscript shape.Word value_step kind_step cond_step param_step op_step part_kind_step chain_step arith_step element_step assign_step case_item_step command_step function_step item_step part_step pipeline_step redirect_step script_step subscript_step word_step (CommandKind-F.ArithFor (Some f) (Some t) (Some s) b)

pub cases_is : (w : Word) (is : List CaseItem) → view_kind (kind'.Case w is) ≡ shape.cases (view_word w) (case_items_of (map view_case_item is))
unfolding view_value view_kind view_cond view_param view_op view_part_kind view_chain view_arith view_element view_assign view_case_item view_command view_function view_item view_part view_pipeline view_redirect view view_subscript view_word
cases_is w is = ap view_kind (sym (kind'.rolls-Case w is)) ∙ fold-roll-CommandKind shape.Value shape.Kind shape.Cond shape.Param shape.ParamOp shape.Part shape.Chain shape.Arith shape.Element shape.Assign Listed shape.Command Named Ended Placed shape.Pipeline Aimed shape.Script shape.Subscript shape.Word value_step kind_step cond_step param_step op_step part_kind_step chain_step arith_step element_step assign_step case_item_step command_step function_step item_step part_step pipeline_step redirect_step script_step subscript_step word_step (CommandKind-F.CommandKind::Case w is)

pub arith_command_is : (a : Arith) → view_kind (kind'.Arith a) ≡ shape.arith_command (view_arith a)
unfolding view_value view_kind view_cond view_param view_op view_part_kind view_chain view_arith view_element view_assign view_case_item view_command view_function view_item view_part view_pipeline view_redirect view view_subscript view_word
arith_command_is a = ap view_kind (sym (kind'.rolls-Arith a)) ∙ fold-roll-CommandKind shape.Value shape.Kind shape.Cond shape.Param shape.ParamOp shape.Part shape.Chain shape.Arith shape.Element shape.Assign Listed shape.Command Named Ended Placed shape.Pipeline Aimed shape.Script shape.Subscript shape.Word value_step kind_step cond_step param_step op_step part_kind_step chain_step arith_step element_step assign_step case_item_step command_step function_step item_step part_step pipeline_step redirect_step script_step subscript_step word_step (CommandKind-F.CommandKind::Arith a)

pub conditional_is : (c : Cond) → view_kind (kind'.Cond c) ≡ shape.conditional (view_cond c)
unfolding view_value view_kind view_cond view_param view_op view_part_kind view_chain view_arith view_element view_assign view_case_item view_command view_function view_item view_part view_pipeline view_redirect view view_subscript view_word
conditional_is c = ap view_kind (sym (kind'.rolls-Cond c)) ∙ fold-roll-CommandKind shape.Value shape.Kind shape.Cond shape.Param shape.ParamOp shape.Part shape.Chain shape.Arith shape.Element shape.Assign Listed shape.Command Named Ended Placed shape.Pipeline Aimed shape.Script shape.Subscript shape.Word value_step kind_step cond_step param_step op_step part_kind_step chain_step arith_step element_step assign_step case_item_step command_step function_step item_step part_step pipeline_step redirect_step script_step subscript_step word_step (CommandKind-F.Cond c)

pub function_kind_is : (f : Function) → view_kind (kind'.Function f) ≡ shape.function (view_function f).0 (view_function f).1
unfolding view_value view_kind view_cond view_param view_op view_part_kind view_chain view_arith view_element view_assign view_case_item view_command view_function view_item view_part view_pipeline view_redirect view view_subscript view_word
function_kind_is f = ap view_kind (sym (kind'.rolls-Function f)) ∙ fold-roll-CommandKind shape.Value shape.Kind shape.Cond shape.Param shape.ParamOp shape.Part shape.Chain shape.Arith shape.Element shape.Assign Listed shape.Command Named Ended Placed shape.Pipeline Aimed shape.Script shape.Subscript shape.Word value_step kind_step cond_step param_step op_step part_kind_step chain_step arith_step element_step assign_step case_item_step command_step function_step item_step part_step pipeline_step redirect_step script_step subscript_step word_step (CommandKind-F.Function f)

pub refused_command_is : (c : Code) (s : Span) → view_kind (kind'.Refused c s) ≡ shape.refused_command (view_code c) s
unfolding view_value view_kind view_cond view_param view_op view_part_kind view_chain view_arith view_element view_assign view_case_item view_command view_function view_item view_part view_pipeline view_redirect view view_subscript view_word
refused_command_is c s = ap view_kind (sym (kind'.rolls-Refused c s)) ∙ fold-roll-CommandKind shape.Value shape.Kind shape.Cond shape.Param shape.ParamOp shape.Part shape.Chain shape.Arith shape.Element shape.Assign Listed shape.Command Named Ended Placed shape.Pipeline Aimed shape.Script shape.Subscript shape.Word value_step kind_step cond_step param_step op_step part_kind_step chain_step arith_step element_step assign_step case_item_step command_step function_step item_step part_step pipeline_step redirect_step script_step subscript_step word_step (CommandKind-F.CommandKind::Refused c s)

pub function_is : (f : Function) → view_function f ≡ (view_name (out-Function f).name, view_command (out-Function f).body)
unfolding view_value view_kind view_cond view_param view_op view_part_kind view_chain view_arith view_element view_assign view_case_item view_command view_function view_item view_part view_pipeline view_redirect view view_subscript view_word
function_is f = fold_out-Function shape.Value shape.Kind shape.Cond shape.Param shape.ParamOp shape.Part shape.Chain shape.Arith shape.Element shape.Assign Listed shape.Command Named Ended Placed shape.Pipeline Aimed shape.Script shape.Subscript shape.Word value_step kind_step cond_step param_step op_step part_kind_step chain_step arith_step element_step assign_step case_item_step command_step function_step item_step part_step pipeline_step redirect_step script_step subscript_step word_step f

pub case_item_is : (i : CaseItem) → view_case_item i ≡ record { patterns = words_of (map view_word (out-CaseItem i).patterns); body = view (out-CaseItem i).body; end = view_end (out-CaseItem i).end }
unfolding view_value view_kind view_cond view_param view_op view_part_kind view_chain view_arith view_element view_assign view_case_item view_command view_function view_item view_part view_pipeline view_redirect view view_subscript view_word
case_item_is i = fold_out-CaseItem shape.Value shape.Kind shape.Cond shape.Param shape.ParamOp shape.Part shape.Chain shape.Arith shape.Element shape.Assign Listed shape.Command Named Ended Placed shape.Pipeline Aimed shape.Script shape.Subscript shape.Word value_step kind_step cond_step param_step op_step part_kind_step chain_step arith_step element_step assign_step case_item_step command_step function_step item_step part_step pipeline_step redirect_step script_step subscript_step word_step i

pub or_is : (c : Cond) (d : Cond) → view_cond (cond'.Or c d) ≡ shape.or_cond (view_cond c) (view_cond d)
unfolding view_value view_kind view_cond view_param view_op view_part_kind view_chain view_arith view_element view_assign view_case_item view_command view_function view_item view_part view_pipeline view_redirect view view_subscript view_word
or_is c d = ap view_cond (sym (cond'.rolls-Or c d)) ∙ fold-roll-Cond shape.Value shape.Kind shape.Cond shape.Param shape.ParamOp shape.Part shape.Chain shape.Arith shape.Element shape.Assign Listed shape.Command Named Ended Placed shape.Pipeline Aimed shape.Script shape.Subscript shape.Word value_step kind_step cond_step param_step op_step part_kind_step chain_step arith_step element_step assign_step case_item_step command_step function_step item_step part_step pipeline_step redirect_step script_step subscript_step word_step (Cond-F.Or c d)

pub and_is : (c : Cond) (d : Cond) → view_cond (cond'.And c d) ≡ shape.and_cond (view_cond c) (view_cond d)
unfolding view_value view_kind view_cond view_param view_op view_part_kind view_chain view_arith view_element view_assign view_case_item view_command view_function view_item view_part view_pipeline view_redirect view view_subscript view_word
and_is c d = ap view_cond (sym (cond'.rolls-And c d)) ∙ fold-roll-Cond shape.Value shape.Kind shape.Cond shape.Param shape.ParamOp shape.Part shape.Chain shape.Arith shape.Element shape.Assign Listed shape.Command Named Ended Placed shape.Pipeline Aimed shape.Script shape.Subscript shape.Word value_step kind_step cond_step param_step op_step part_kind_step chain_step arith_step element_step assign_step case_item_step command_step function_step item_step part_step pipeline_step redirect_step script_step subscript_step word_step (Cond-F.And c d)

pub not_is : (c : Cond) → view_cond (cond'.Not c) ≡ shape.not_cond (view_cond c)
unfolding view_value view_kind view_cond view_param view_op view_part_kind view_chain view_arith view_element view_assign view_case_item view_command view_function view_item view_part view_pipeline view_redirect view view_subscript view_word
not_is c = ap view_cond (sym (cond'.rolls-Not c)) ∙ fold-roll-Cond shape.Value shape.Kind shape.Cond shape.Param shape.ParamOp shape.Part shape.Chain shape.Arith shape.Element shape.Assign Listed shape.Command Named Ended Placed shape.Pipeline Aimed shape.Script shape.Subscript shape.Word value_step kind_step cond_step param_step op_step part_kind_step chain_step arith_step element_step assign_step case_item_step command_step function_step item_step part_step pipeline_step redirect_step script_step subscript_step word_step (Cond-F.Not c)

pub text_is : (w : Word) → view_cond (cond'.Text w) ≡ shape.text_cond (view_word w)
unfolding view_value view_kind view_cond view_param view_op view_part_kind view_chain view_arith view_element view_assign view_case_item view_command view_function view_item view_part view_pipeline view_redirect view view_subscript view_word
text_is w = ap view_cond (sym (cond'.rolls-Text w)) ∙ fold-roll-Cond shape.Value shape.Kind shape.Cond shape.Param shape.ParamOp shape.Part shape.Chain shape.Arith shape.Element shape.Assign Listed shape.Command Named Ended Placed shape.Pipeline Aimed shape.Script shape.Subscript shape.Word value_step kind_step cond_step param_step op_step part_kind_step chain_step arith_step element_step assign_step case_item_step command_step function_step item_step part_step pipeline_step redirect_step script_step subscript_step word_step (Cond-F.Text w)

pub unary_is : (o : TestOp) (w : Word) → view_cond (cond'.Unary o w) ≡ shape.unary_cond (view_test_op o) (view_word w)
unfolding view_value view_kind view_cond view_param view_op view_part_kind view_chain view_arith view_element view_assign view_case_item view_command view_function view_item view_part view_pipeline view_redirect view view_subscript view_word
unary_is o w = ap view_cond (sym (cond'.rolls-Unary o w)) ∙ fold-roll-Cond shape.Value shape.Kind shape.Cond shape.Param shape.ParamOp shape.Part shape.Chain shape.Arith shape.Element shape.Assign Listed shape.Command Named Ended Placed shape.Pipeline Aimed shape.Script shape.Subscript shape.Word value_step kind_step cond_step param_step op_step part_kind_step chain_step arith_step element_step assign_step case_item_step command_step function_step item_step part_step pipeline_step redirect_step script_step subscript_step word_step (Cond-F.Unary o w)

pub binary_is : (w : Word) (o : TestOp) (v : Word) → view_cond (cond'.Binary w o v) ≡ shape.binary_cond (view_word w) (view_test_op o) (view_word v)
unfolding view_value view_kind view_cond view_param view_op view_part_kind view_chain view_arith view_element view_assign view_case_item view_command view_function view_item view_part view_pipeline view_redirect view view_subscript view_word
binary_is w o v = ap view_cond (sym (cond'.rolls-Binary w o v)) ∙ fold-roll-Cond shape.Value shape.Kind shape.Cond shape.Param shape.ParamOp shape.Part shape.Chain shape.Arith shape.Element shape.Assign Listed shape.Command Named Ended Placed shape.Pipeline Aimed shape.Script shape.Subscript shape.Word value_step kind_step cond_step param_step op_step part_kind_step chain_step arith_step element_step assign_step case_item_step command_step function_step item_step part_step pipeline_step redirect_step script_step subscript_step word_step (Cond-F.Binary w o v)

-- ---- lists

pub pipeline_is : (p : Pipeline) → view_pipeline p ≡ shape.pipeline (out-Pipeline p).negated (stages_of (map view_command (out-Pipeline p).stages)) (out-Pipeline p).both
unfolding view_value view_kind view_cond view_param view_op view_part_kind view_chain view_arith view_element view_assign view_case_item view_command view_function view_item view_part view_pipeline view_redirect view view_subscript view_word
pipeline_is p = fold_out-Pipeline shape.Value shape.Kind shape.Cond shape.Param shape.ParamOp shape.Part shape.Chain shape.Arith shape.Element shape.Assign Listed shape.Command Named Ended Placed shape.Pipeline Aimed shape.Script shape.Subscript shape.Word value_step kind_step cond_step param_step op_step part_kind_step chain_step arith_step element_step assign_step case_item_step command_step function_step item_step part_step pipeline_step redirect_step script_step subscript_step word_step p

pub chain_is : (a : AndOr) → view_chain a ≡ shape.chain (view_pipeline (out-AndOr a).first) (links_of (map (λ l. (l.0, view_pipeline l.1)) (out-AndOr a).rest))
unfolding view_value view_kind view_cond view_param view_op view_part_kind view_chain view_arith view_element view_assign view_case_item view_command view_function view_item view_part view_pipeline view_redirect view view_subscript view_word
chain_is a = fold_out-AndOr shape.Value shape.Kind shape.Cond shape.Param shape.ParamOp shape.Part shape.Chain shape.Arith shape.Element shape.Assign Listed shape.Command Named Ended Placed shape.Pipeline Aimed shape.Script shape.Subscript shape.Word value_step kind_step cond_step param_step op_step part_kind_step chain_step arith_step element_step assign_step case_item_step command_step function_step item_step part_step pipeline_step redirect_step script_step subscript_step word_step a

pub item_is : (i : Item) → view_item i ≡ record { chain = view_chain (out-Item i).chain; background = (out-Item i).background }
unfolding view_value view_kind view_cond view_param view_op view_part_kind view_chain view_arith view_element view_assign view_case_item view_command view_function view_item view_part view_pipeline view_redirect view view_subscript view_word
item_is i = fold_out-Item shape.Value shape.Kind shape.Cond shape.Param shape.ParamOp shape.Part shape.Chain shape.Arith shape.Element shape.Assign Listed shape.Command Named Ended Placed shape.Pipeline Aimed shape.Script shape.Subscript shape.Word value_step kind_step cond_step param_step op_step part_kind_step chain_step arith_step element_step assign_step case_item_step command_step function_step item_step part_step pipeline_step redirect_step script_step subscript_step word_step i

pub script_is : (s : Script) → view s ≡ items_of (map view_item (out-Script s).items)
unfolding view_value view_kind view_cond view_param view_op view_part_kind view_chain view_arith view_element view_assign view_case_item view_command view_function view_item view_part view_pipeline view_redirect view view_subscript view_word
script_is s = fold_out-Script shape.Value shape.Kind shape.Cond shape.Param shape.ParamOp shape.Part shape.Chain shape.Arith shape.Element shape.Assign Listed shape.Command Named Ended Placed shape.Pipeline Aimed shape.Script shape.Subscript shape.Word value_step kind_step cond_step param_step op_step part_kind_step chain_step arith_step element_step assign_step case_item_step command_step function_step item_step part_step pipeline_step redirect_step script_step subscript_step word_step s

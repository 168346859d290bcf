use Rattle.std.proofs.Common.{◌≡◌, OnOk, [], ◌∷◌, ◌++◌, refl, subst, sym, ◌∙◌, append_assoc}
use Rattle.std.specs.Prelude.{map, option_map, None, Some}
use Rattle.std.proofs.lemmas.List.{append-nil}
use Rattle.sh_grammar.specs.Shape as shape
use Rattle.sh_meaning.specs.builtins.Functions.{functions_of_part, functions_of_parts, functions_of_words, functions_of_value, functions_of_assigns, functions_of_redirects, functions_of_command, functions_of_kind, functions_of_branches, functions_of_otherwise, functions_of_items, functions_of_stages, functions_of_links, functions_of_chain, functions_of}
use Rattle.sh_syntax.specs.declared.tree.AndOr.{out-AndOr}
use Rattle.sh_syntax.specs.declared.tree.CaseItem.{out-CaseItem}
use Rattle.sh_syntax.specs.declared.tree.Command.{out-Command}
use Rattle.sh_syntax.specs.declared.tree.Function.{out-Function}
use Rattle.sh_syntax.specs.declared.tree.Item.{out-Item}
use Rattle.sh_syntax.specs.declared.tree.Pipeline.{out-Pipeline}
use Rattle.sh_syntax.specs.declared.tree.Redirect.{out-Redirect}
use Rattle.sh_syntax.specs.declared.tree.Word.{out-Word}
use Rattle.sh_syntax.specs.View.{view, view_part, view_word, view_value, view_assign, view_redirect, view_command, view_kind, view_case_item, view_item, parts_of, words_of, assigns_of, redirects_of, branches_of, otherwise_of, case_items_of, stages_of, links_of, items_of}
use Rattle.sh_checks.specs.Branches.{branch_views, link_views}
use Rattle.sh_syntax.proofs.Views.{as_is_is, length_is, arith_is, word_is, simple_is, group_is, subshell_is, if_is, loop_is, for_is, case_is, function_kind_is, function_is, pipeline_is, chain_is, item_is, script_is, command_is}
use Rattle.sh_checks.proofs.PartViews.{plain_view, exact_view, double_view, tilde_view, param_view, subst_view, arith_view, fill_view, trim_view}
use Rattle.sh_checks.proofs.ValueViews.{value_view}
use Rattle.sh_checks.proofs.Gathering.{assigns_step, branches_step, gives_next, items_step, links_step, redirects_step, two_given, words_step}
use Rattle.sh_checks.proofs.functions.+functions.Goals as goal

pub add_in_part-returns-in-Plain : goal.add_in_part-returns-in-Plain
add_in_part-returns-in-Plain t c = rw (plain_view c.args.part.now c.in-Plain.field-0 c.in-Plain.is) (sym (append-nil _))

pub add_in_part-returns-in-Exact : goal.add_in_part-returns-in-Exact
add_in_part-returns-in-Exact t c = rw (exact_view c.args.part.now c.in-Exact.field-0 c.in-Exact.is) (sym (append-nil _))

pub add_in_part-returns-in-Double : goal.add_in_part-returns-in-Double
add_in_part-returns-in-Double t c = rw (double_view c.args.part.now c.in-Double.parts c.in-Double.is) (rw c.as_slice.ensures at c.add_in_parts.ensures)

pub add_in_part-returns-in-Tilde : goal.add_in_part-returns-in-Tilde
add_in_part-returns-in-Tilde t c = rw (tilde_view c.args.part.now c.in-Tilde.is) (sym (append-nil _))

pub add_in_part-returns-in-Param : goal.add_in_part-returns-in-Param
add_in_part-returns-in-Param t c = rw (param_view c.args.part.now c.in-Param.param c.in-Param.op c.in-Param.is) c.add_in_op.ensures

pub add_in_part-returns-in-Subst : goal.add_in_part-returns-in-Subst
add_in_part-returns-in-Subst t c = rw (subst_view c.args.part.now c.in-Subst.script c.in-Subst.is) c.add_in_script.ensures

pub add_in_part-returns-in-Arith : goal.add_in_part-returns-in-Arith
add_in_part-returns-in-Arith t c = rw (arith_view c.args.part.now c.in-Arith.arith c.in-Arith.is, arith_is c.in-Arith.arith) (rw c.as_slice-in-Arith.ensures at c.add_in_words.ensures)

pub add_in_op-returns-in-Plain : goal.add_in_op-returns-in-Plain
add_in_op-returns-in-Plain t c = rw (c.in-Plain.is, as_is_is) (sym (append-nil _))

pub add_in_op-returns-in-Length : goal.add_in_op-returns-in-Length
add_in_op-returns-in-Length t c = rw (c.in-Length.is, length_is) (sym (append-nil _))

pub add_in_op-returns-in-Fill : goal.add_in_op-returns-in-Fill
add_in_op-returns-in-Fill t c = rw (fill_view c.args.op.now c.in-Fill.test c.in-Fill.colon c.in-Fill.word c.in-Fill.is) (rw c.as_slice.ensures at c.add_in_parts.ensures)

pub add_in_op-returns-in-Trim : goal.add_in_op-returns-in-Trim
add_in_op-returns-in-Trim t c = rw (trim_view c.args.op.now c.in-Trim.suffix c.in-Trim.longest c.in-Trim.pattern c.in-Trim.is) (rw c.as_slice-in-Trim.ensures at c.add_in_parts-in-Trim.ensures)

pub add_in_value-returns : goal.add_in_value-returns
add_in_value-returns t c = subst (λ (v : shape.Value). OnOk c.add_in_optional.result (c.add_in_optional.new.names ≡ c.args.names.now ++ functions_of_value v)) (sym (value_view _ c.args.value.now)) c.add_in_optional.ensures

pub add_in_kind-returns-in-Group : goal.add_in_kind-returns-in-Group
add_in_kind-returns-in-Group t c = rw (c.in-Group.is, group_is c.in-Group.script) c.add_in_script.ensures

pub add_in_kind-returns-in-Subshell : goal.add_in_kind-returns-in-Subshell
add_in_kind-returns-in-Subshell t c = rw (c.in-Subshell.is, subshell_is c.in-Subshell.script) c.add_in_script-in-Subshell.ensures

pub add_in_kind-returns-in-Function : goal.add_in_kind-returns-in-Function
add_in_kind-returns-in-Function t c = rw (c.in-Function.is, function_kind_is c.in-Function.function) c.add_function.ensures

pub add_in_script-returns : goal.add_in_script-returns
add_in_script-returns t c = rw (script_is c.args.script.now) (rw c.as_slice.ensures at c.add_in_chains.ensures)

pub add_in_optional-returns-in-None : goal.add_in_optional-returns-in-None
add_in_optional-returns-in-None t c = rw c.in-None.is (sym (append-nil _))

pub add_in_optional-returns-in-Some : goal.add_in_optional-returns-in-Some
add_in_optional-returns-in-Some t c = rw (c.in-Some.is, word_is c.in-Some.word) (rw c.as_slice.ensures at c.add_in_parts.ensures)

pub add_in_kind-returns-in_ok-add_in_assigns-in-Simple : goal.add_in_kind-returns-in_ok-add_in_assigns-in-Simple
add_in_kind-returns-in_ok-add_in_assigns-in-Simple t c = rw (c.in-Simple.is, simple_is c.in-Simple.assigns c.in-Simple.words) (two_given c.add_in_words.result c.add_in_words.new.names c.add_in_assigns.new.names c.args.names.now (functions_of_assigns (assigns_of (map view_assign c.in-Simple.assigns))) (functions_of_words (words_of (map view_word c.in-Simple.words))) (rw c.as_slice.ensures at c.in_ok-add_in_assigns-in-Simple.ensures) (rw c.as_slice-in-Simple.ensures at c.add_in_words.ensures))

pub add_in_kind-returns-in_ok-add_in_branches-in-If : goal.add_in_kind-returns-in_ok-add_in_branches-in-If
add_in_kind-returns-in_ok-add_in_branches-in-If t c = rw (c.in-If.is, if_is c.in-If.parts c.in-If.otherwise) (two_given c.add_in_otherwise.result c.add_in_otherwise.new.names c.add_in_branches.new.names c.args.names.now (functions_of_branches (branches_of (branch_views c.in-If.parts))) (functions_of_otherwise (otherwise_of (option_map view c.in-If.otherwise))) (rw c.as_slice-in-If.ensures at c.in_ok-add_in_branches-in-If.ensures) c.add_in_otherwise.ensures)

pub add_in_kind-returns-in_ok-add_in_script-in-Loop : goal.add_in_kind-returns-in_ok-add_in_script-in-Loop
add_in_kind-returns-in_ok-add_in_script-in-Loop t c = rw (c.in-Loop.is, loop_is c.in-Loop.until c.in-Loop.test c.in-Loop.body) (two_given c.add_in_script-in-Loop-2.result c.add_in_script-in-Loop-2.new.names c.add_in_script-in-Loop.new.names c.args.names.now (functions_of (view c.in-Loop.test)) (functions_of (view c.in-Loop.body)) c.in_ok-add_in_script-in-Loop.ensures c.add_in_script-in-Loop-2.ensures)

pub add_in_kind-returns-in_ok-add_in_parts-in-Case : goal.add_in_kind-returns-in_ok-add_in_parts-in-Case
add_in_kind-returns-in_ok-add_in_parts-in-Case t c = rw (c.in-Case.is, case_is c.in-Case.subject c.in-Case.items, word_is c.in-Case.subject) (two_given c.add_in_items.result c.add_in_items.new.names c.add_in_parts.new.names c.args.names.now (functions_of_parts (parts_of (map view_part (out-Word c.in-Case.subject).parts))) (functions_of_items (case_items_of (map view_case_item c.in-Case.items))) (rw c.as_slice-in-Case.ensures at c.in_ok-add_in_parts-in-Case.ensures) (rw c.as_slice-in-Case-2.ensures at c.add_in_items.ensures))

pub add_in_command-returns : goal.add_in_command-returns
add_in_command-returns t c = rw (command_is c.args.command.now) (two_given c.add_in_redirects.result c.add_in_redirects.new.names c.add_in_kind.new.names c.args.names.now (functions_of_kind (view_kind (out-Command c.args.command.now).kind)) (functions_of_redirects (redirects_of (map view_redirect (out-Command c.args.command.now).redirects))) c.in_ok-add_in_kind.ensures (rw c.as_slice.ensures at c.add_in_redirects.ensures))

pub add_in_item-returns : goal.add_in_item-returns
add_in_item-returns t c = rw (item_is c.args.item.now, chain_is (out-Item c.args.item.now).chain, pipeline_is (out-AndOr (out-Item c.args.item.now).chain).first) (two_given c.add_in_links.result c.add_in_links.new.names c.add_in_stages.new.names c.args.names.now (functions_of_stages (stages_of (map view_command (out-Pipeline (out-AndOr (out-Item c.args.item.now).chain).first).stages))) (functions_of_links (links_of (link_views (out-AndOr (out-Item c.args.item.now).chain).rest))) (rw c.as_slice.ensures at c.in_ok-add_in_stages.ensures) (rw c.as_slice-2.ensures at c.add_in_links.ensures))

pub add_function-returns : goal.add_function-returns
add_function-returns t c = rw (function_is c.args.function.now) (two_given c.add_in_command.result c.add_in_command.new.names c.add_name.new.names c.args.names.now ((out-Function c.args.function.now).name.text ∷ []) (functions_of_command (view_command (out-Function c.args.function.now).body)) (rw c.bytes.ensures at c.in_ok-add_name.ensures) (rw c.get.ensures at c.add_in_command.ensures))

pub add_in_parts-loop-part-preserved : goal.add_in_parts-loop-part-preserved
add_in_parts-loop-part-preserved t c = rw c.in_ok-add_in_part.ensures
    (gives_next (λ ps. functions_of_parts (parts_of (map view_part ps))) (λ p. functions_of_part (view_part p)) c.loop-part.names c.args.parts.now c.loop-part.part-index c.part-item.result (λ y ys. refl) c.loop-part-test.true c.part-item.is ∙ c.loop-part.invariant)

pub add_in_chains-loop-item-preserved : goal.add_in_chains-loop-item-preserved
add_in_chains-loop-item-preserved t c = rw c.in_ok-add_in_item.ensures
    (gives_next (λ is. functions_of (items_of (map view_item is))) (λ i. functions_of_chain (view_item i)) c.loop-item.names c.args.items.now c.loop-item.item-index c.item-item.result (λ y ys. refl) c.loop-item-test.true c.item-item.is ∙ c.loop-item.invariant)

pub add_in_stages-loop-stage-preserved : goal.add_in_stages-loop-stage-preserved
add_in_stages-loop-stage-preserved t c = rw c.in_ok-add_in_command.ensures
    (gives_next (λ cs. functions_of_stages (stages_of (map view_command cs))) (λ k. functions_of_command (view_command k)) c.loop-stage.names c.args.stages.now c.loop-stage.stage-index c.stage-item.result (λ y ys. refl) c.loop-stage-test.true c.stage-item.is ∙ c.loop-stage.invariant)

pub add_in_words-loop-word-preserved : goal.add_in_words-loop-word-preserved
add_in_words-loop-word-preserved t c = rw (c.in_ok-add_in_parts.ensures, c.as_slice.ensures)
    (gives_next (λ ws. functions_of_words (words_of (map view_word ws))) (λ w. functions_of_parts (parts_of (map view_part (out-Word w).parts))) c.loop-word.names c.args.words.now c.loop-word.word-index c.word-item.result (words_step) c.loop-word-test.true c.word-item.is ∙ c.loop-word.invariant)

pub add_in_redirects-loop-redirect-preserved : goal.add_in_redirects-loop-redirect-preserved
add_in_redirects-loop-redirect-preserved t c = rw (c.in_ok-add_in_parts.ensures, c.as_slice.ensures)
    (gives_next (λ rs. functions_of_redirects (redirects_of (map view_redirect rs))) (λ r. functions_of_parts (parts_of (map view_part (out-Word (out-Redirect r).word).parts))) c.loop-redirect.names c.args.redirects.now c.loop-redirect.redirect-index c.redirect-item.result (redirects_step) c.loop-redirect-test.true c.redirect-item.is ∙ c.loop-redirect.invariant)

pub add_in_assigns-loop-assign-preserved : goal.add_in_assigns-loop-assign-preserved
add_in_assigns-loop-assign-preserved t c = rw c.in_ok-add_in_value.ensures
    (gives_next (λ as'. functions_of_assigns (assigns_of (map view_assign as'))) (λ a. functions_of_value (view_value a.value)) c.loop-assign.names c.args.assigns.now c.loop-assign.assign-index c.assign-item.result (assigns_step) c.loop-assign-test.true c.assign-item.is ∙ c.loop-assign.invariant)

pub add_in_links-loop-link-preserved : goal.add_in_links-loop-link-preserved
add_in_links-loop-link-preserved t c = rw (c.in_ok-add_in_stages.ensures, c.as_slice.ensures)
    (gives_next (λ ls. functions_of_links (links_of (link_views ls))) (λ l. functions_of_stages (stages_of (map view_command (out-Pipeline l.1).stages))) c.loop-link.names c.args.links.now c.loop-link.link-index c.link-item.result (links_step) c.loop-link-test.true c.link-item.is ∙ c.loop-link.invariant)

pub add_in_branches-loop-branch-preserved : goal.add_in_branches-loop-branch-preserved
add_in_branches-loop-branch-preserved t c = rw (c.in_ok-add_in_script-2.ensures, c.in_ok-add_in_script.ensures, append_assoc c.loop-branch.names (functions_of (view c.branch-item.result.0)) (functions_of (view c.branch-item.result.1)))
    (gives_next (λ bs. functions_of_branches (branches_of (branch_views bs))) (λ b. functions_of (view b.0) ++ functions_of (view b.1)) c.loop-branch.names c.args.branches.now c.loop-branch.branch-index c.branch-item.result (branches_step) c.loop-branch-test.true c.branch-item.is ∙ c.loop-branch.invariant)

pub add_in_items-loop-item-preserved : goal.add_in_items-loop-item-preserved
add_in_items-loop-item-preserved t c = rw (c.in_ok-add_in_script.ensures, c.in_ok-add_in_words.ensures, c.as_slice.ensures, append_assoc c.loop-item.names (functions_of_words (words_of (map view_word (out-CaseItem c.item-item.result).patterns))) (functions_of (view (out-CaseItem c.item-item.result).body)))
    (gives_next (λ is. functions_of_items (case_items_of (map view_case_item is))) (λ i. functions_of_words (words_of (map view_word (out-CaseItem i).patterns)) ++ functions_of (view (out-CaseItem i).body)) c.loop-item.names c.args.items.now c.loop-item.item-index c.item-item.result (items_step) c.loop-item-test.true c.item-item.is ∙ c.loop-item.invariant)

pub add_in_kind-returns-in-None : goal.add_in_kind-returns-in-None
add_in_kind-returns-in-None t c = rw (c.in-For.is, c.in-None.is, for_is c.in-For.name None c.in-For.body) c.add_in_script-in-None.ensures

pub add_in_kind-returns-in_ok-add_in_words-in-Some : goal.add_in_kind-returns-in_ok-add_in_words-in-Some
add_in_kind-returns-in_ok-add_in_words-in-Some t c =
    rw (c.in-For.is, c.in-Some.is, for_is c.in-For.name (Some c.in-Some.words) c.in-For.body)
    (two_given c.add_in_script-in-Some.result c.add_in_script-in-Some.new.names c.add_in_words-in-Some.new.names c.args.names.now (functions_of_words (words_of (map view_word c.in-Some.words))) (functions_of (view c.in-For.body)) (rw c.as_slice-in-Some.ensures at c.in_ok-add_in_words-in-Some.ensures) c.add_in_script-in-Some.ensures)

use Rattle.std.proofs.Common.{◌≡◌, ◌++◌, drop}
use Rattle.std.specs.Prelude.{map}
use Rattle.sh_meaning.specs.builtins.Functions.{functions_of_parts, functions_of_words, functions_of_assigns, functions_of_redirects, functions_of_branches, functions_of_items, functions_of_stages, functions_of_links, functions_of}
use Rattle.sh_syntax.specs.View.{view_part, view_word, view_assign, view_redirect, view_case_item, view_command, view_item, parts_of, words_of, assigns_of, redirects_of, branches_of, case_items_of, stages_of, links_of, items_of}
use Rattle.sh_checks.specs.Branches.{branch_views, link_views}
use Rattle.sh_checks.proofs.functions.+functions.Given as goal

abbrev pub invariant-add_in_parts-loop-part : goal.invariant-add_in_parts-loop-part
invariant-add_in_parts-loop-part l = l.names ++ functions_of_parts (parts_of (map view_part (drop l.part-index l.parts))) ≡ l.fn.names ++ functions_of_parts (parts_of (map view_part l.parts))

abbrev pub invariant-add_in_words-loop-word : goal.invariant-add_in_words-loop-word
invariant-add_in_words-loop-word l = l.names ++ functions_of_words (words_of (map view_word (drop l.word-index l.words))) ≡ l.fn.names ++ functions_of_words (words_of (map view_word l.words))

abbrev pub invariant-add_in_assigns-loop-assign : goal.invariant-add_in_assigns-loop-assign
invariant-add_in_assigns-loop-assign l = l.names ++ functions_of_assigns (assigns_of (map view_assign (drop l.assign-index l.assigns))) ≡ l.fn.names ++ functions_of_assigns (assigns_of (map view_assign l.assigns))

abbrev pub invariant-add_in_redirects-loop-redirect : goal.invariant-add_in_redirects-loop-redirect
invariant-add_in_redirects-loop-redirect l = l.names ++ functions_of_redirects (redirects_of (map view_redirect (drop l.redirect-index l.redirects))) ≡ l.fn.names ++ functions_of_redirects (redirects_of (map view_redirect l.redirects))

abbrev pub invariant-add_in_branches-loop-branch : goal.invariant-add_in_branches-loop-branch
invariant-add_in_branches-loop-branch l = l.names ++ functions_of_branches (branches_of (branch_views (drop l.branch-index l.branches))) ≡ l.fn.names ++ functions_of_branches (branches_of (branch_views l.branches))

abbrev pub invariant-add_in_items-loop-item : goal.invariant-add_in_items-loop-item
invariant-add_in_items-loop-item l = l.names ++ functions_of_items (case_items_of (map view_case_item (drop l.item-index l.items))) ≡ l.fn.names ++ functions_of_items (case_items_of (map view_case_item l.items))

abbrev pub invariant-add_in_stages-loop-stage : goal.invariant-add_in_stages-loop-stage
invariant-add_in_stages-loop-stage l = l.names ++ functions_of_stages (stages_of (map view_command (drop l.stage-index l.stages))) ≡ l.fn.names ++ functions_of_stages (stages_of (map view_command l.stages))

abbrev pub invariant-add_in_links-loop-link : goal.invariant-add_in_links-loop-link
invariant-add_in_links-loop-link l = l.names ++ functions_of_links (links_of (link_views (drop l.link-index l.links))) ≡ l.fn.names ++ functions_of_links (links_of (link_views l.links))

abbrev pub invariant-add_in_chains-loop-item : goal.invariant-add_in_chains-loop-item
invariant-add_in_chains-loop-item l = l.names ++ functions_of (items_of (map view_item (drop l.item-index l.items))) ≡ l.fn.names ++ functions_of (items_of (map view_item l.items))

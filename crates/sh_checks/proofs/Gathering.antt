-- Names that come behind others.
use Rattle.std.proofs.Common.{◌≡◌, ℕ, ◌+◌, ◌<◌, List, ◌∷◌, ◌++◌, drop, length, get_or, Result, Ok, Err, OnOk, refl, sym, ap, ◌∙◌, append_assoc, arith}
use Rattle.std.specs.Prelude.{map}
use Rattle.sh_grammar.specs.Shape as shape
use Rattle.sh_meaning.specs.builtins.Functions.{functions_of_parts, functions_of_words, functions_of_value, functions_of_assigns, functions_of_redirects, functions_of_branches, functions_of_items, functions_of_stages, functions_of_pipeline, functions_of_links, functions_of}
use Rattle.sh_syntax.specs.declared.tree.Assign.{Assign}
use Rattle.sh_syntax.specs.declared.tree.CaseItem.{CaseItem, out-CaseItem}
use Rattle.sh_syntax.specs.declared.tree.Joint.{Joint}
use Rattle.sh_syntax.specs.declared.tree.Joint.TheVariants.{And, Or}
use Rattle.sh_syntax.specs.declared.tree.Pipeline.{Pipeline, out-Pipeline}
use Rattle.sh_syntax.specs.declared.tree.Redirect.{Redirect, out-Redirect}
use Rattle.sh_syntax.specs.declared.tree.Script.{Script}
use Rattle.sh_syntax.specs.declared.tree.Word.{Word, out-Word}
use Rattle.sh_syntax.specs.View.{view, view_part, view_word, view_value, view_assign, view_redirect, view_command, view_case_item, view_pipeline, parts_of, words_of, assigns_of, redirects_of, branches_of, case_items_of, stages_of, links_of, link_of}
use Rattle.sh_syntax.proofs.Views.{assign_is, case_item_is, pipeline_is, redirect_is, word_is}
use Rattle.sh_checks.specs.Branches.{branch_views, link_views}
use Rattle.shell_world.specs.Texts.{Text}
use Rattle.sh_checks.proofs.Loops.{next_item}

append_assoc_is : (a b c : List Text) → a ++ b ++ c ≡ (a ++ b) ++ c
append_assoc_is a b c = grind arith

-- two gatherings, one behind the other
pub two_given : {A E : Type 0} (r : Result A E) (new mid old a b : List Text) → mid ≡ old ++ a → OnOk r (new ≡ mid ++ b) → OnOk r (new ≡ old ++ (a ++ b))
two_given (Err e) new mid old a b is given = tt
two_given (Ok x) new mid old a b is given = (rw is at given) ∙ append_assoc old a b

-- an item more
pub gives_next : {X : Type 0} (all : List X → List Text) (one : X → List Text) (done : List Text) (xs : List X) (i : ℕ) (x : X) → ((y : X) (ys : List X) → all (y ∷ ys) ≡ one y ++ all ys) → i < length xs → x ≡ get_or xs i x → (done ++ one x) ++ all (drop (i + 1) xs) ≡ done ++ all (drop i xs)
gives_next {X} all one done xs i x step lt is =
    append_assoc done (one x) (all (drop (i + 1) xs)) ∙ ap (λ ts. done ++ ts) (sym (ap all (next_item xs i x lt is) ∙ step x (drop (i + 1) xs)))

-- ---- items that are seen through what they hold

pub words_step : (w : Word) (ws : List Word) → functions_of_words (words_of (map view_word (w ∷ ws))) ≡ functions_of_parts (parts_of (map view_part (out-Word w).parts)) ++ functions_of_words (words_of (map view_word ws))
words_step w ws = ap (λ v. functions_of_parts v ++ functions_of_words (words_of (map view_word ws))) (word_is w)

pub redirects_step : (r : Redirect) (rs : List Redirect) → functions_of_redirects (redirects_of (map view_redirect (r ∷ rs))) ≡ functions_of_parts (parts_of (map view_part (out-Word (out-Redirect r).word).parts)) ++ functions_of_redirects (redirects_of (map view_redirect rs))
redirects_step r rs = rw (redirect_is r, word_is (out-Redirect r).word) refl

pub assigns_step : (a : Assign) (as' : List Assign) → functions_of_assigns (assigns_of (map view_assign (a ∷ as'))) ≡ functions_of_value (view_value a.value) ++ functions_of_assigns (assigns_of (map view_assign as'))
assigns_step a as' = rw (assign_is a) refl

pub branches_step : (b : Script × Script) (bs : List (Script × Script)) → functions_of_branches (branches_of (branch_views (b ∷ bs))) ≡ (functions_of (view b.0) ++ functions_of (view b.1)) ++ functions_of_branches (branches_of (branch_views bs))
branches_step b bs = append_assoc_is (functions_of (view b.0)) (functions_of (view b.1)) (functions_of_branches (branches_of (branch_views bs)))

pub items_step : (i : CaseItem) (is : List CaseItem) → functions_of_items (case_items_of (map view_case_item (i ∷ is))) ≡ (functions_of_words (words_of (map view_word (out-CaseItem i).patterns)) ++ functions_of (view (out-CaseItem i).body)) ++ functions_of_items (case_items_of (map view_case_item is))
items_step i is = rw (case_item_is i) (append_assoc_is (functions_of_words (words_of (map view_word (out-CaseItem i).patterns))) (functions_of (view (out-CaseItem i).body)) (functions_of_items (case_items_of (map view_case_item is))))

link_step : (joint : Joint) (p : shape.Pipeline) (ls : shape.Links) → functions_of_links (link_of joint p ls) ≡ functions_of_pipeline p ++ functions_of_links ls
link_step And p ls = refl
link_step Or p ls = refl

pub links_step : (l : Joint × Pipeline) (ls : List (Joint × Pipeline)) → functions_of_links (links_of (link_views (l ∷ ls))) ≡ functions_of_stages (stages_of (map view_command (out-Pipeline l.1).stages)) ++ functions_of_links (links_of (link_views ls))
links_step l ls = link_step l.0 (view_pipeline l.1) (links_of (link_views ls)) ∙ ap (λ p. functions_of_pipeline p ++ functions_of_links (links_of (link_views ls))) (pipeline_is l.1)

-- Commands and lists that are checked: the first one and those behind it.
use Rattle.std.proofs.Common.{◌≡◌, ℕ, ◌+◌, ◌≤◌, Bool, true, false, ◌&&◌, List, [], ◌∷◌, drop, length, refl, sym, ap, ◌∙◌, arith}
use Rattle.std.specs.Prelude.{map}
use Rattle.std.proofs.Math.Bool.{and_assoc}
use Rattle.sh_grammar.specs.Shape as shape
use Rattle.sh_printer.specs.Checks.{item_fits, some_fit}
use Rattle.sh_printer.specs.Pieces.{branch_views, link_views}
use Rattle.sh_printer.specs.Weights.{items_weight, script_weight, words_weight}
use Rattle.sh_printing.specs.Printable.{branches_fit, command_fits, has_branch, has_chain, has_redirect, has_stage, items_fit, links_fit, list_fits, pipeline_fits, stages_fit}
use Rattle.sh_syntax.specs.declared.tree.AndOr.{out-AndOr}
use Rattle.sh_syntax.specs.declared.tree.CaseItem.{CaseItem}
use Rattle.sh_syntax.specs.declared.tree.Command.{Command}
use Rattle.sh_syntax.specs.declared.tree.Item.{Item, out-Item}
use Rattle.sh_syntax.specs.declared.tree.Joint.{Joint}
use Rattle.sh_syntax.specs.declared.tree.Joint.TheVariants.{And, Or}
use Rattle.sh_syntax.specs.declared.tree.Pipeline.{Pipeline}
use Rattle.sh_syntax.specs.declared.tree.Redirect.{Redirect}
use Rattle.sh_syntax.specs.declared.tree.Script.{Script}
use Rattle.sh_syntax.specs.View.{view, view_case_item, view_command, view_item, view_pipeline, view_redirect, branches_of, case_items_of, items_of, link_of, links_of, redirects_of, stages_of}
use Rattle.sh_syntax.proofs.Views.{chain_is, item_is}

pub some_redirects : (rs : List Redirect) → 1 ≤ length rs → true ≡ has_redirect (redirects_of (map view_redirect rs))
some_redirects [] lt = absurd (omega arith)
some_redirects (r ∷ rs) lt = refl

pub some_stages : (cs : List Command) → 1 ≤ length cs → true ≡ has_stage (stages_of (map view_command cs))
some_stages [] lt = absurd (omega arith)
some_stages (c ∷ cs) lt = refl

pub some_branches : (bs : List (Script × Script)) → 1 ≤ length bs → true ≡ has_branch (branches_of (branch_views bs))
some_branches [] lt = absurd (omega arith)
some_branches (b ∷ bs) lt = refl

pub some_chains : (is : List Item) → 1 ≤ length is → true ≡ has_chain (items_of (map view_item is))
some_chains [] lt = absurd (omega arith)
some_chains (i ∷ is) lt = refl

-- what comes last comes first
pub last_first : (a b c d : Bool) → (a && d && b && c) ≡ (a && b && c && d)
last_first false b c d = refl
last_first true false c true = refl
last_first true false c false = refl
last_first true true false true = refl
last_first true true false false = refl
last_first true true true true = refl
last_first true true true false = refl

-- lists of one command at least, beside others
pub two_lists : (a b c d : Bool) → (a && b && (c && d)) ≡ (a && b && c && d)
two_lists a b c d = sym (and_assoc (a && b) c d)

pub branch_lists : (a b c d r : Bool) → ((a && b) && (c && d) && r) ≡ (a && b && c && d && r)
branch_lists a b c d r = ap (λ (x : Bool). x && r) (sym (and_assoc (a && b) c d))

pub loop_lists : (w a b c d : Bool) → (w && (a && b) && (c && d)) ≡ (w && a && b && c && d)
loop_lists w a b c d = ap (λ (x : Bool). x && (c && d)) (sym (and_assoc w a b)) ∙ sym (and_assoc (w && a && b) c d)

pub walk_lists : (w n f c d : Bool) → (w && n && f && (c && d)) ≡ (w && n && f && c && d)
walk_lists w n f c d = sym (and_assoc (w && n && f) c d)

pub branches_split : (inside : Bool) (d : ℕ) (bs : List (Script × Script)) (b : Script × Script) → bs ≡ b ∷ drop 1 bs → (some_fit inside d (view b.0) && some_fit inside d (view b.1) && branches_fit inside d (branches_of (branch_views (drop 1 bs)))) ≡ branches_fit inside d (branches_of (branch_views bs))
branches_split inside d bs b e = branch_lists (has_chain (view b.0)) (list_fits inside d (view b.0)) (has_chain (view b.1)) (list_fits inside d (view b.1)) (branches_fit inside d (branches_of (branch_views (drop 1 bs)))) ∙ sym (ap (λ (l : List (Script × Script)). branches_fit inside d (branches_of (branch_views l))) e)

pub items_split : (inside : Bool) (d : ℕ) (is : List CaseItem) (i : CaseItem) → is ≡ i ∷ drop 1 is → (item_fits inside d (view_case_item i) && items_fit inside d (case_items_of (map view_case_item (drop 1 is)))) ≡ items_fit inside d (case_items_of (map view_case_item is))
items_split inside d is i e = sym (ap (λ (l : List CaseItem). items_fit inside d (case_items_of (map view_case_item l))) e)

pub items_weigh_more : (is : List CaseItem) (i : CaseItem) → is ≡ i ∷ drop 1 is → items_weight (case_items_of (map view_case_item is)) ≡ 20 + (words_weight (view_case_item i).0 + script_weight (view_case_item i).1 + items_weight (case_items_of (map view_case_item (drop 1 is))))
items_weigh_more is i e = ap (λ (l : List CaseItem). items_weight (case_items_of (map view_case_item l))) e

pub stages_split : (inside : Bool) (d : ℕ) (cs : List Command) (c : Command) → cs ≡ c ∷ drop 1 cs → (command_fits inside d (view_command c) && stages_fit inside d (stages_of (map view_command (drop 1 cs)))) ≡ stages_fit inside d (stages_of (map view_command cs))
stages_split inside d cs c e = sym (ap (λ (l : List Command). stages_fit inside d (stages_of (map view_command l))) e)

link_fits : (inside : Bool) (d : ℕ) (j : Joint) (p : shape.Pipeline) (ls : shape.Links) → links_fit inside d (link_of j p ls) ≡ (pipeline_fits inside d p && links_fit inside d ls)
link_fits inside d And p ls = refl
link_fits inside d Or p ls = refl

pub links_split : (inside : Bool) (d : ℕ) (ls : List (Joint × Pipeline)) (l : Joint × Pipeline) → ls ≡ l ∷ drop 1 ls → (pipeline_fits inside d (view_pipeline l.1) && links_fit inside d (links_of (link_views (drop 1 ls)))) ≡ links_fit inside d (links_of (link_views ls))
links_split inside d ls l e = sym (ap (λ (x : List (Joint × Pipeline)). links_fit inside d (links_of (link_views x))) e ∙ link_fits inside d l.0 (view_pipeline l.1) (links_of (link_views (drop 1 ls))))

pub chains_split : (inside : Bool) (d : ℕ) (is : List Item) (i : Item) → is ≡ i ∷ drop 1 is → (pipeline_fits inside d (view_pipeline (out-AndOr (out-Item i).chain).first) && links_fit inside d (links_of (link_views (out-AndOr (out-Item i).chain).rest)) && list_fits inside d (items_of (map view_item (drop 1 is)))) ≡ list_fits inside d (items_of (map view_item is))
chains_split inside d is i e = sym (ap (λ (l : List Item). list_fits inside d (items_of (map view_item l))) e ∙ ap (λ (x : shape.Chain). list_fits inside d (shape.next_chain x (items_of (map view_item (drop 1 is))))) (item_is i ∙ chain_is (out-Item i).chain))

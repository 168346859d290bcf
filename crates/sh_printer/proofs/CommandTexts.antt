-- Commands and lists from their pieces: texts and weights.
use Rattle.std.proofs.Common.{◌≡◌, ◌+◌, ◌≤◌, Bool, true, false, List, [], ◌∷◌, ◌++◌, drop, length, refl, sym, ap, ◌∙◌, append_assoc, arith}
use Rattle.std.specs.Prelude.{map, codes}
use Rattle.std.proofs.lemmas.List.{append-nil}
use Rattle.sh_syntax.specs.declared.tree.Assign.{Assign}
use Rattle.sh_syntax.specs.declared.tree.CaseItem.{CaseItem, out-CaseItem}
use Rattle.sh_syntax.specs.declared.tree.Command.{Command}
use Rattle.sh_syntax.specs.declared.tree.Item.{Item, out-Item}
use Rattle.sh_syntax.specs.declared.tree.AndOr.{out-AndOr}
use Rattle.sh_syntax.specs.declared.tree.Joint.{Joint}
use Rattle.sh_syntax.specs.declared.tree.Joint.TheVariants.{And, Or}
use Rattle.sh_syntax.specs.declared.tree.Pipeline.{Pipeline}
use Rattle.sh_syntax.specs.declared.tree.Script.{Script}
use Rattle.sh_syntax.specs.declared.tree.Word.{Word}
use Rattle.sh_grammar.specs.Bytes.{Text, in_word}
use Rattle.sh_grammar.specs.Shape as shape
use Rattle.sh_printing.specs.Marks.{End, next, line, piped, blank}
use Rattle.sh_printer.specs.Pieces.{chains_text, branch_views, link_views, pipeline_mark}
use Rattle.sh_printing.specs.Printing.{list_text, parts_text, command_text, branches_text, patterns_text, items_text, stages_text, pipeline_text, links_text, chain_text, stage_end, link_end, script_text, has_word, has_assign, for_words_text, kind_text}
use Rattle.sh_syntax.specs.View.{view, view_assign, assigns_of, view_case_item, view_command, view_item, view_pipeline, view_word, branches_of, words_of, case_items_of, stages_of, link_of, links_of, items_of}
use Rattle.sh_printer.specs.Weights.{words_weight, command_weight, branches_weight, items_weight, stages_weight, pipeline_weight, links_weight, chain_weight, script_weight}
use Rattle.sh_syntax.proofs.Views.{item_is, chain_is, case_item_is}

pub branches_first : (full : Bool) (key : Text) (bs : List (Script × Script)) (b : Script × Script) → bs ≡ b ∷ drop 1 bs → (((key ++ list_text full (view b.0)) ++ []) ++ ((codes "then " ++ list_text full (view b.1)) ++ [])) ++ branches_text full (codes "elif ") (branches_of (branch_views (drop 1 bs))) ≡ branches_text full key (branches_of (branch_views bs))
branches_first full key bs b e = simp (append_assoc, append-nil) (sym (simp (append_assoc, append-nil) at (ap (λ (l : List (Script × Script)). branches_text full key (branches_of (branch_views l))) e)))

pub branches_weigh : (bs : List (Script × Script)) (b : Script × Script) → bs ≡ b ∷ drop 1 bs → branches_weight (branches_of (branch_views bs)) ≡ 20 + (script_weight (view b.0) + script_weight (view b.1) + branches_weight (branches_of (branch_views (drop 1 bs))))
branches_weigh bs b e = ap (λ (l : List (Script × Script)). branches_weight (branches_of (branch_views l))) e

pub patterns_first : (full : Bool) (mark : Text) (ws : List Word) (w : Word) → ws ≡ w ∷ drop 1 ws → (mark ++ parts_text full in_word blank (view_word w)) ++ patterns_text full (codes " | ") (words_of (map view_word (drop 1 ws))) ≡ patterns_text full mark (words_of (map view_word ws))
patterns_first full mark ws w e = sym (ap (λ (l : List Word). patterns_text full mark (words_of (map view_word l))) e)

pub items_first : (full : Bool) (is : List CaseItem) (i : CaseItem) → is ≡ i ∷ drop 1 is → (patterns_text full (codes "(") (words_of (map view_word (out-CaseItem i).patterns)) ++ ((codes ") " ++ list_text full (view (out-CaseItem i).body)) ++ codes ";; ")) ++ items_text full (case_items_of (map view_case_item (drop 1 is))) ≡ items_text full (case_items_of (map view_case_item is))
items_first full is i e = simp append_assoc (sym (simp append_assoc at (ap (λ (l : List CaseItem). items_text full (case_items_of (map view_case_item l))) e ∙ ap (λ (x : shape.Words × shape.Script). items_text full (shape.item x.0 x.1 (case_items_of (map view_case_item (drop 1 is))))) (case_item_is i))))

pub items_weigh : (is : List CaseItem) (i : CaseItem) → is ≡ i ∷ drop 1 is → items_weight (case_items_of (map view_case_item is)) ≡ 20 + (words_weight (words_of (map view_word (out-CaseItem i).patterns)) + script_weight (view (out-CaseItem i).body) + items_weight (case_items_of (map view_case_item (drop 1 is))))
items_weigh is i e = ap (λ (l : List CaseItem). items_weight (case_items_of (map view_case_item l))) e ∙ ap (λ (x : shape.Words × shape.Script). items_weight (shape.item x.0 x.1 (case_items_of (map view_case_item (drop 1 is))))) (case_item_is i)

pub stages_first : (full : Bool) (end : End) (cs : List Command) (c : Command) → cs ≡ c ∷ drop 1 cs → (command_text full (stage_end end (stages_of (map view_command (drop 1 cs)))) (view_command c) ++ []) ++ stages_text full end (stages_of (map view_command (drop 1 cs))) ≡ stages_text full end (stages_of (map view_command cs))
stages_first full end cs c e = rw (append-nil (command_text full (stage_end end (stages_of (map view_command (drop 1 cs)))) (view_command c))) (sym (ap (λ (l : List Command). stages_text full end (stages_of (map view_command l))) e))

pub stages_weigh : (cs : List Command) (c : Command) → cs ≡ c ∷ drop 1 cs → stages_weight (stages_of (map view_command cs)) ≡ 20 + (command_weight (view_command c) + stages_weight (stages_of (map view_command (drop 1 cs))))
stages_weigh cs c e = ap (λ (l : List Command). stages_weight (stages_of (map view_command l))) e

pub link_text : (full : Bool) (end : End) (j : Joint) (p : shape.Pipeline) (ls : shape.Links) → links_text full end (link_of j p ls) ≡ pipeline_text full (link_end end ls) p ++ links_text full end ls
link_text full end And p ls = refl
link_text full end Or p ls = refl

pub link_weighs : (j : Joint) (p : shape.Pipeline) (ls : shape.Links) → links_weight (link_of j p ls) ≡ 20 + (pipeline_weight p + links_weight ls)
link_weighs And p ls = refl
link_weighs Or p ls = refl

pub links_first : (full : Bool) (end : End) (ls : List (Joint × Pipeline)) (l : Joint × Pipeline) → ls ≡ l ∷ drop 1 ls → (pipeline_text full (link_end end (links_of (link_views (drop 1 ls)))) (view_pipeline l.1) ++ []) ++ links_text full end (links_of (link_views (drop 1 ls))) ≡ links_text full end (links_of (link_views ls))
links_first full end ls l e = rw (append-nil (pipeline_text full (link_end end (links_of (link_views (drop 1 ls)))) (view_pipeline l.1))) (sym (ap (λ (x : List (Joint × Pipeline)). links_text full end (links_of (link_views x))) e ∙ link_text full end l.0 (view_pipeline l.1) (links_of (link_views (drop 1 ls)))))

pub links_weigh : (ls : List (Joint × Pipeline)) (l : Joint × Pipeline) → ls ≡ l ∷ drop 1 ls → links_weight (links_of (link_views ls)) ≡ 20 + (pipeline_weight (view_pipeline l.1) + links_weight (links_of (link_views (drop 1 ls))))
links_weigh ls l e = ap (λ (x : List (Joint × Pipeline)). links_weight (links_of (link_views x))) e ∙ link_weighs l.0 (view_pipeline l.1) (links_of (link_views (drop 1 ls)))

chain_of : (i : Item) → view_item i ≡ shape.chain (view_pipeline (out-AndOr (out-Item i).chain).first) (links_of (link_views (out-AndOr (out-Item i).chain).rest))
chain_of i = item_is i ∙ chain_is (out-Item i).chain

pub chains_first : (full : Bool) (end : End) (is : List Item) (i : Item) → is ≡ i ∷ drop 1 is → (pipeline_text full (link_end end (links_of (link_views (out-AndOr (out-Item i).chain).rest))) (view_pipeline (out-AndOr (out-Item i).chain).first) ++ links_text full end (links_of (link_views (out-AndOr (out-Item i).chain).rest))) ++ chains_text full end (items_of (map view_item (drop 1 is))) ≡ chains_text full end (items_of (map view_item is))
chains_first full end is i e = sym (ap (λ (l : List Item). chains_text full end (items_of (map view_item l))) e ∙ ap (λ (x : shape.Chain). chain_text full end x ++ chains_text full end (items_of (map view_item (drop 1 is)))) (chain_of i))

pub chains_weigh : (is : List Item) (i : Item) → is ≡ i ∷ drop 1 is → script_weight (items_of (map view_item is)) ≡ 20 + ((20 + (pipeline_weight (view_pipeline (out-AndOr (out-Item i).chain).first) + links_weight (links_of (link_views (out-AndOr (out-Item i).chain).rest)))) + script_weight (items_of (map view_item (drop 1 is))))
chains_weigh is i e = ap (λ (l : List Item). script_weight (items_of (map view_item l))) e ∙ ap (λ (x : shape.Chain). 20 + (chain_weight x + script_weight (items_of (map view_item (drop 1 is))))) (chain_of i)

-- a list inside of a command is chains that end so
pub list_chains : (full : Bool) (s : shape.Script) → chains_text full next s ≡ list_text full s
list_chains full shape.no_chain = refl
list_chains full (shape.next_chain c more) = ap (λ (t : Text). chain_text full next c ++ t) (list_chains full more)

pub script_chains : (full : Bool) (s : shape.Script) → chains_text full line s ≡ script_text full s
script_chains full shape.no_chain = refl
script_chains full (shape.next_chain c more) = ap (λ (t : Text). chain_text full line c ++ t) (script_chains full more)

pub pipeline_marked : (full negated : Bool) (end : End) (ss : shape.Stages) → (pipeline_mark negated ++ []) ++ stages_text full end ss ≡ pipeline_text full end (shape.pipeline negated ss)
pipeline_marked full true end ss = refl
pipeline_marked full false end ss = refl

pub more_stages : (end : End) (cs : List Command) → 1 ≤ length cs → piped ≡ stage_end end (stages_of (map view_command cs))
more_stages end [] lt = absurd (omega arith)
more_stages end (c ∷ cs) lt = refl

pub some_words : (ws : List Word) → 1 ≤ length ws → true ≡ has_word (words_of (map view_word ws))
some_words [] lt = absurd (omega arith)
some_words (w ∷ ws) lt = refl

pub some_assigns : (as' : List Assign) → 1 ≤ length as' → true ≡ has_assign (assigns_of (map view_assign as'))
some_assigns [] lt = absurd (omega arith)
some_assigns (a ∷ as') lt = refl

five : (a b c d t : Text) → (a ++ ((b ++ c) ++ d)) ++ t ≡ (((a ++ b) ++ c) ++ d) ++ t
five a b c d t = simp append_assoc

pub for_whole : (full : Bool) (n : Text) (ws : shape.ForWords) (s : shape.Script) (end : End) (tail : Text) → (((codes "for " ++ n) ++ for_words_text full ws) ++ ((codes "do " ++ list_text full s) ++ codes "done")) ++ tail ≡ kind_text full end tail (shape.walk n ws s)
for_whole full n ws s end tail = five ((codes "for " ++ n) ++ for_words_text full ws) (codes "do ") (list_text full s) (codes "done") tail

pub case_whole : (full : Bool) (w : shape.Parts) (is : shape.Items) (end : End) (tail : Text) → ((codes "case " ++ parts_text full in_word blank w) ++ ((codes " in " ++ items_text full is) ++ codes "esac")) ++ tail ≡ kind_text full end tail (shape.cases w is)
case_whole full w is end tail = five (codes "case " ++ parts_text full in_word blank w) (codes " in ") (items_text full is) (codes "esac") tail

-- What each rule gives, so deep: values that fit.
use Rattle.std.proofs.Common.{◌≡◌, ℕ, Bool, true, false, List, [], ◌∷◌, ◌++◌}
use Rattle.std.specs.Prelude.{◌||◌}
use Rattle.std.specs.List.{list_all}
use Rattle.sh_grammar.specs.Shape as shape
use Rattle.sh_grammar.specs.Shape.{plain, exact, double, tilde, param, subst as listing, arith, no_part, part, no_word, word as next_word, no_redirect, redirect as next_redirect}
use Rattle.sh_grammar.specs.Bytes.{Text, Context, in_word, in_double, in_body, clear, literal_run, unit_starts}
use Rattle.sh_grammar.specs.Tokens.{redirect_next, name_next, assign_next, simple_next, function_next}
use Rattle.sh_grammar.specs.Expansions.{filling_next}
use Rattle.sh_grammar.specs.State.{State, Node, part_node, word_node, kind_node, command_node, bang_node, pipeline_node, chain_node, script_node, else_node, parts_in, words_in, assigns_in, redirects_in}
use Rattle.sh_grammar.specs.Table.{piece, line_piece, complete, complete_more, list, maybe_list, list_more, lines, chain, link, and_link, or_link, pipeline, bang, stage, command, compound_command, compound, other_compound, group, subshell, if_command, if_branch, elif_branch, else_part, while_loop, until_loop, do_body, for_loop, for_words, for_in, case_command, case_in, case_item, pattern_more, item_end, function_command, simple_command, prefixed, called, suffix, prefix_item, suffix_item, assign, redirect, target, file, word, value, word_parts, more_parts, pattern, part as a_part, double_quotes, expansion, braces, fill, trim, subst, sum, sum_part, sum_group, body_parts}
use Rattle.sh_printing.specs.Printable.{has_part, has_chain, has_redirect, has_compound, is_compound, is_expansion, is_assignment, is_reserved_word, name_fits, part_fits, parts_fit, word_fits, redirects_fit, kind_fits, command_fits, otherwise_fits, pipeline_fits, chain_fits, list_fits}
use Rattle.sh_printing.proofs.ExactNodes.{is_chain, is_link, is_stage, is_branch, is_listed, is_item, is_pattern, is_prefix, is_suffix, is_redirect, is_aimed}
use Rattle.sh_printing.proofs.ExactParts.{Fronts, OnePart, OneExpansion}
use Rattle.sh_printing.proofs.ExactRules.{Claim}

-- one value, of which something holds
pub record One {A : Type 0} (make : A → Node) (ok : A → Type 0) (vs : List Node) : Type 0 where
  pub one : A
  pub is : vs ≡ make one ∷ []
  pub fits : ok one

abbrev pub OneNode : (Node → Bool) → List Node → Type 0
OneNode test vs = One (λ (x : Node). x) (λ x. test x ≡ true) vs

-- parts one behind the other
pub record PartsOk (inside : Bool) (d : ℕ) (c : Context) (s e : State) (ps : shape.Parts) : Type 0 where
  pub fits : parts_fit inside d c ps ≡ true
  pub front : Fronts c ps (clear s.bytes)
  pub none : has_part ps ≡ false → s ≡ e

-- the first part of a word, if it is bytes that stand for themselves, is all that do so here
abbrev pub WordFront : shape.Parts → Text → Type 0
WordFront (part (plain text) no_part) t = ((literal_run in_word t).0 ≡ text) × (unit_starts in_word (literal_run in_word t).1 ≡ false)
WordFront (part (plain text) (part q qs)) t = (literal_run in_word t).0 ≡ text
WordFront ps t = Unit {0}

-- a word behind its place
pub record PartsOfWord (inside : Bool) (d : ℕ) (s : State) (ps : shape.Parts) : Type 0 where
  pub fits : word_fits inside d false ps ≡ true
  pub front : WordFront ps (clear s.bytes)

-- an expansion that stands anywhere
abbrev pub Anywhere : Bool → ℕ → List Node → Type 0
Anywhere i d vs = One part_node (λ p. (is_expansion p ≡ true) × ((c : Context) (behind : shape.Parts) → part_fits i d c behind p ≡ true)) vs

-- the word of a command
abbrev pub WordOk : Bool → ℕ → Text → shape.Parts → Type 0
WordOk i d t w = (word_fits i d true w ≡ true) × (assign_next t ≡ false → is_assignment w ≡ false) × (name_next t ≡ true → is_reserved_word w ≡ false)

-- words and redirections behind a command's assignments
pub record SuffixOk (inside : Bool) (d : ℕ) (t : Text) (vs : List Node) : Type 0 where
  pub each : list_all (is_suffix inside d) vs ≡ true
  pub first : (redirect_next t || assign_next t) ≡ false → name_fits true (words_in vs) ≡ true

-- all of a simple command
pub record SimpleOk (inside : Bool) (d : ℕ) (vs : List Node) : Type 0 where
  pub fits : kind_fits inside d (has_redirect (redirects_in vs)) (shape.simple (assigns_in vs) (words_in vs)) ≡ true
  pub redirects : redirects_fit inside d (redirects_in vs) ≡ true

abbrev pub Says : Bool → Claim
Says i piece d s e vs = list_all (is_chain i d) vs ≡ true
Says i line_piece d s e vs = list_all (is_chain i d) vs ≡ true
Says i complete d s e vs = list_all (is_chain i d) vs ≡ true
Says i complete_more d s e vs = list_all (is_chain i d) vs ≡ true
Says i list d s e vs = One script_node (λ x. (has_chain x ≡ true) × (list_fits i d x ≡ true)) vs
Says i maybe_list d s e vs = One script_node (λ x. list_fits i d x ≡ true) vs
Says i list_more d s e vs = list_all (is_chain i d) vs ≡ true
Says i lines d s e vs = vs ≡ []
Says i chain d s e vs = One chain_node (λ c. chain_fits i d c ≡ true) vs
Says i link d s e vs = list_all (is_link i d) vs ≡ true
Says i and_link d s e vs = list_all (is_link i d) vs ≡ true
Says i or_link d s e vs = list_all (is_link i d) vs ≡ true
Says i pipeline d s e vs = One pipeline_node (λ p. pipeline_fits i d p ≡ true) vs
Says i bang d s e vs = vs ≡ bang_node ∷ []
Says i stage d s e vs = list_all (is_stage i d) vs ≡ true
Says i command d s e vs = One command_node (λ c. command_fits i d c ≡ true) vs
Says i compound_command d s e vs = One command_node (λ c. (has_compound c ≡ true) × (command_fits i d c ≡ true)) vs
Says i compound d s e vs = One kind_node (λ k. (is_compound k ≡ true) × ((r : Bool) → kind_fits i d r k ≡ true)) vs
Says i other_compound d s e vs = One kind_node (λ k. (is_compound k ≡ true) × ((r : Bool) → kind_fits i d r k ≡ true)) vs
Says i group d s e vs = One kind_node (λ k. (is_compound k ≡ true) × ((r : Bool) → kind_fits i d r k ≡ true)) vs
Says i subshell d s e vs = One kind_node (λ k. (is_compound k ≡ true) × ((r : Bool) → kind_fits i d r k ≡ true)) vs
Says i if_command d s e vs = One kind_node (λ k. (is_compound k ≡ true) × ((r : Bool) → kind_fits i d r k ≡ true)) vs
Says i if_branch d s e vs = OneNode (is_branch i d) vs
Says i elif_branch d s e vs = OneNode (is_branch i d) vs
Says i else_part d s e vs = One else_node (λ x. otherwise_fits i d (shape.otherwise x) ≡ true) vs
Says i while_loop d s e vs = One kind_node (λ k. (is_compound k ≡ true) × ((r : Bool) → kind_fits i d r k ≡ true)) vs
Says i until_loop d s e vs = One kind_node (λ k. (is_compound k ≡ true) × ((r : Bool) → kind_fits i d r k ≡ true)) vs
Says i do_body d s e vs = One script_node (λ x. (has_chain x ≡ true) × (list_fits i d x ≡ true)) vs
Says i for_loop d s e vs = One kind_node (λ k. (is_compound k ≡ true) × ((r : Bool) → kind_fits i d r k ≡ true)) vs
Says i for_words d s e vs = list_all (is_listed i d) vs ≡ true
Says i for_in d s e vs = list_all (is_listed i d) vs ≡ true
Says i case_command d s e vs = One kind_node (λ k. (is_compound k ≡ true) × ((r : Bool) → kind_fits i d r k ≡ true)) vs
Says i case_in d s e vs = list_all (is_item i d) vs ≡ true
Says i case_item d s e vs = list_all (is_item i d) vs ≡ true
Says i pattern_more d s e vs = list_all (is_pattern i d) vs ≡ true
Says i item_end d s e vs = vs ≡ []
Says i function_command d s e vs = function_next s.bytes ≡ true → One command_node (λ c. command_fits i d c ≡ true) vs
Says i simple_command d s e vs = One command_node (λ c. command_fits i d c ≡ true) vs
Says i prefixed d s e vs = SimpleOk i d vs
Says i called d s e vs = simple_next s.bytes ≡ true → (redirect_next s.bytes || assign_next s.bytes) ≡ false → SimpleOk i d vs
Says i suffix d s e vs = SuffixOk i d s.bytes vs
Says i prefix_item d s e vs = OneNode (is_prefix i d) vs
Says i suffix_item d s e vs = OneNode (is_suffix i d) vs × ((redirect_next s.bytes || assign_next s.bytes) ≡ false → (ws : List Node) → name_fits true (words_in (vs ++ ws)) ≡ true)
Says i assign d s e vs = OneNode (is_prefix i d) vs
Says i redirect d s e vs = OneNode (is_redirect i d) vs
Says i target d s e vs = OneNode (is_aimed i d) vs
Says i file d s e vs = OneNode (is_aimed i d) vs
Says i word d s e vs = One word_node (WordOk i d s.bytes) vs
Says i value d s e vs = One word_node (λ w. word_fits i d false w ≡ true) vs
Says i word_parts d s e vs = PartsOfWord i d s (parts_in vs)
Says i more_parts d s e vs = PartsOk i d in_word s e (parts_in vs)
Says i pattern d s e vs = OneNode (is_pattern i d) vs
Says i (a_part c) d s e vs = OnePart i d c s e vs
Says i double_quotes d s e vs = One (λ ps. part_node (double ps)) (λ ps. parts_fit i d in_double ps ≡ true) vs
Says i (expansion c) d s e vs = OneExpansion i d c s e vs
Says i (braces c) d s e vs = OneExpansion i d c s e vs
Says i (fill c) d s e vs = filling_next s.bytes ≡ true → OneExpansion i d c s e vs
Says i (trim c) d s e vs = filling_next s.bytes ≡ false → OneExpansion i d c s e vs
Says i subst d s e vs = Anywhere i d vs
Says i sum d s e vs = Anywhere i d vs
Says i sum_part d s e vs = Unit {0}
Says i sum_group d s e vs = Unit {0}
Says i body_parts d s e vs = One word_node (λ ps. parts_fit i d in_body ps ≡ true) vs

-- Nodes give back the lists that they were made of.
use Rattle.std.proofs.Common.{◌≡◌, false, List, [], ◌∷◌, ◌++◌, refl, ap}
use Rattle.sh_grammar.specs.Shape.{Parts, no_part, part, Words, no_word, word, Assigns, no_assign, assign, Redirects, no_redirect, redirect, Branches, no_branch, branch, Items, no_item, item, Stages, no_stage, stage, Links, no_link, and_link, or_link, Script, no_chain, next_chain, Otherwise, no_else, otherwise}
use Rattle.sh_grammar.specs.State.{Node, part_node, word_node, assign_node, redirect_node, branch_node, item_node, command_node, and_node, or_node, chain_node, else_node, parts_in, words_in, assigns_in, redirects_in, branches_in, items_in, stages_in, links_in, chains_in, has_bang, else_in}

abbrev pub part_nodes : Parts → List Node
part_nodes no_part = []
part_nodes (part p ps) = part_node p ∷ part_nodes ps

pub parts_back : (ps : Parts) → parts_in (part_nodes ps) ≡ ps
parts_back no_part = refl
parts_back (part p ps) = ap (part p) (parts_back ps)

abbrev pub word_nodes : Words → List Node
word_nodes no_word = []
word_nodes (word w ws) = word_node w ∷ word_nodes ws

abbrev pub assign_nodes : Assigns → List Node
assign_nodes no_assign = []
assign_nodes (assign n v more) = assign_node n v ∷ assign_nodes more

abbrev pub redirect_nodes : Redirects → List Node
redirect_nodes no_redirect = []
redirect_nodes (redirect fd op w rs) = redirect_node fd op w ∷ redirect_nodes rs

abbrev pub branch_nodes : Branches → List Node
branch_nodes no_branch = []
branch_nodes (branch t b bs) = branch_node t b ∷ branch_nodes bs

abbrev pub else_nodes : Otherwise → List Node
else_nodes no_else = []
else_nodes (otherwise s) = else_node s ∷ []

abbrev pub item_nodes : Items → List Node
item_nodes no_item = []
item_nodes (item ps b more) = item_node ps b ∷ item_nodes more

abbrev pub stage_nodes : Stages → List Node
stage_nodes no_stage = []
stage_nodes (stage c cs) = command_node c ∷ stage_nodes cs

abbrev pub link_nodes : Links → List Node
link_nodes no_link = []
link_nodes (and_link p ls) = and_node p ∷ link_nodes ls
link_nodes (or_link p ls) = or_node p ∷ link_nodes ls

abbrev pub chain_nodes : Script → List Node
chain_nodes no_chain = []
chain_nodes (next_chain c s) = chain_node c ∷ chain_nodes s

-- ---- words

pub words_only : (ws : Words) → words_in (word_nodes ws) ≡ ws
words_only no_word = refl
words_only (word w ws) = ap (word w) (words_only ws)

pub words_before : (ws : Words) (xs : List Node) → words_in xs ≡ no_word → words_in (word_nodes ws ++ xs) ≡ ws
words_before no_word xs e = e
words_before (word w ws) xs e = ap (word w) (words_before ws xs e)

pub words_over_assigns : (vs : Assigns) (xs : List Node) → words_in (assign_nodes vs ++ xs) ≡ words_in xs
words_over_assigns no_assign xs = refl
words_over_assigns (assign n v more) xs = words_over_assigns more xs

pub words_in_redirects : (rs : Redirects) → words_in (redirect_nodes rs) ≡ no_word
words_in_redirects no_redirect = refl
words_in_redirects (redirect fd op w rs) = words_in_redirects rs

pub words_over_redirects : (rs : Redirects) (xs : List Node) → words_in (redirect_nodes rs ++ xs) ≡ words_in xs
words_over_redirects no_redirect xs = refl
words_over_redirects (redirect fd op w rs) xs = words_over_redirects rs xs

-- ---- assignments

pub assigns_before : (vs : Assigns) (xs : List Node) → assigns_in xs ≡ no_assign → assigns_in (assign_nodes vs ++ xs) ≡ vs
assigns_before no_assign xs e = e
assigns_before (assign n v more) xs e = ap (assign n v) (assigns_before more xs e)

pub assigns_over_words : (ws : Words) (xs : List Node) → assigns_in (word_nodes ws ++ xs) ≡ assigns_in xs
assigns_over_words no_word xs = refl
assigns_over_words (word w ws) xs = assigns_over_words ws xs

pub assigns_in_redirects : (rs : Redirects) → assigns_in (redirect_nodes rs) ≡ no_assign
assigns_in_redirects no_redirect = refl
assigns_in_redirects (redirect fd op w rs) = assigns_in_redirects rs

pub assigns_over_redirects : (rs : Redirects) (xs : List Node) → assigns_in (redirect_nodes rs ++ xs) ≡ assigns_in xs
assigns_over_redirects no_redirect xs = refl
assigns_over_redirects (redirect fd op w rs) xs = assigns_over_redirects rs xs

pub assigns_in_words : (ws : Words) → assigns_in (word_nodes ws) ≡ no_assign
assigns_in_words no_word = refl
assigns_in_words (word w ws) = assigns_in_words ws

-- ---- redirections

pub redirects_only : (rs : Redirects) → redirects_in (redirect_nodes rs) ≡ rs
redirects_only no_redirect = refl
redirects_only (redirect fd op w rs) = ap (redirect fd op w) (redirects_only rs)

pub redirects_over_words : (ws : Words) (xs : List Node) → redirects_in (word_nodes ws ++ xs) ≡ redirects_in xs
redirects_over_words no_word xs = refl
redirects_over_words (word w ws) xs = redirects_over_words ws xs

pub redirects_over_assigns : (vs : Assigns) (xs : List Node) → redirects_in (assign_nodes vs ++ xs) ≡ redirects_in xs
redirects_over_assigns no_assign xs = refl
redirects_over_assigns (assign n v more) xs = redirects_over_assigns more xs

pub redirects_before : (rs : Redirects) (xs : List Node) → redirects_in xs ≡ no_redirect → redirects_in (redirect_nodes rs ++ xs) ≡ rs
redirects_before no_redirect xs e = e
redirects_before (redirect fd op w rs) xs e = ap (redirect fd op w) (redirects_before rs xs e)

pub redirects_in_words : (ws : Words) → redirects_in (word_nodes ws) ≡ no_redirect
redirects_in_words no_word = refl
redirects_in_words (word w ws) = redirects_in_words ws

-- ---- other lists

pub branches_before : (bs : Branches) (xs : List Node) → branches_in xs ≡ no_branch → branches_in (branch_nodes bs ++ xs) ≡ bs
branches_before no_branch xs e = e
branches_before (branch t b bs) xs e = ap (branch t b) (branches_before bs xs e)

pub else_over_branches : (bs : Branches) (xs : List Node) → else_in (branch_nodes bs ++ xs) ≡ else_in xs
else_over_branches no_branch xs = refl
else_over_branches (branch t b bs) xs = else_over_branches bs xs

pub items_before : (is : Items) (xs : List Node) → items_in xs ≡ no_item → items_in (item_nodes is ++ xs) ≡ is
items_before no_item xs e = e
items_before (item ps b more) xs e = ap (item ps b) (items_before more xs e)

pub stages_only : (ss : Stages) → stages_in (stage_nodes ss) ≡ ss
stages_only no_stage = refl
stages_only (stage c cs) = ap (stage c) (stages_only cs)

pub no_bang : (ss : Stages) → has_bang (stage_nodes ss) ≡ false
no_bang no_stage = refl
no_bang (stage c cs) = no_bang cs

pub links_only : (ls : Links) → links_in (link_nodes ls) ≡ ls
links_only no_link = refl
links_only (and_link p ls) = ap (and_link p) (links_only ls)
links_only (or_link p ls) = ap (or_link p) (links_only ls)

pub chains_only : (s : Script) → chains_in (chain_nodes s) ≡ s
chains_only no_chain = refl
chains_only (next_chain c s) = ap (next_chain c) (chains_only s)

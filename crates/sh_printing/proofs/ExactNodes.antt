-- Values of one kind, and what a rule takes of them.
use Rattle.std.proofs.Common.{◌≡◌, ℕ, Bool, true, false, List, [], ◌∷◌, ◌++◌, refl}
use Rattle.std.specs.Prelude.{◌||◌, ◌&&◌}
use Rattle.std.specs.List.{list_all}
use Rattle.std.proofs.lemmas.Bool.{false≢true}
use Rattle.sh_grammar.specs.Shape as shape
use Rattle.sh_grammar.specs.Shape.{no_word, word, no_assign, assign, no_redirect, redirect, no_stage, stage, no_link, and_link, or_link, no_chain, next_chain, no_branch, branch, no_item, item, parameters, no_part}
use Rattle.sh_grammar.specs.State.{Node, word_node, aimed_node, redirect_node, assign_node, command_node, and_node, or_node, chain_node, branch_node, listed_node, item_node, words_in, redirects_in, stages_in, links_in, chains_in, branches_in, items_in, listed_in}
use Rattle.sh_printing.specs.Printing.{has_word}
use Rattle.sh_printing.specs.Printable.{has_part, has_redirect, has_chain, has_stage, has_branch, word_fits, words_fit, patterns_fit, assigns_fit, redirects_fit, command_fits, branches_fit, for_words_fit, items_fit, stages_fit, pipeline_fits, links_fit, chain_fits, list_fits}
use Rattle.sh_printing.proofs.BackBytes.{both}

pub each_of : (p : Node → Bool) (xs ys : List Node) → list_all p xs ≡ true → list_all p ys ≡ true → list_all p (xs ++ ys) ≡ true
each_of p [] ys e f = f
each_of p (x ∷ xs) ys e f = let z = both (p x) (list_all p xs) e in rw (z.0, each_of p xs ys z.1 f) refl

-- ---- tests on values

abbrev pub is_chain : Bool → ℕ → Node → Bool
is_chain i d (chain_node c) = chain_fits i d c
is_chain i d x = false

abbrev pub is_link : Bool → ℕ → Node → Bool
is_link i d (and_node p) = pipeline_fits i d p
is_link i d (or_node p) = pipeline_fits i d p
is_link i d x = false

abbrev pub is_stage : Bool → ℕ → Node → Bool
is_stage i d (command_node c) = command_fits i d c
is_stage i d x = false

abbrev pub is_branch : Bool → ℕ → Node → Bool
is_branch i d (branch_node t b) = branches_fit i d (branch t b no_branch)
is_branch i d x = false

abbrev pub is_listed : Bool → ℕ → Node → Bool
is_listed i d (listed_node ws) = for_words_fit i d ws
is_listed i d x = false

abbrev pub is_item : Bool → ℕ → Node → Bool
is_item i d (item_node ps b) = items_fit i d (item ps b no_item)
is_item i d x = false

abbrev pub is_word : Bool → ℕ → Node → Bool
is_word i d (word_node w) = word_fits i d true w
is_word i d x = false

abbrev pub is_pattern : Bool → ℕ → Node → Bool
is_pattern i d (word_node w) = patterns_fit i d (word w no_word)
is_pattern i d x = false

abbrev pub is_redirect : Bool → ℕ → Node → Bool
is_redirect i d (redirect_node fd op w) = redirects_fit i d (redirect fd op w no_redirect)
is_redirect i d x = false

abbrev pub is_aimed : Bool → ℕ → Node → Bool
is_aimed i d (aimed_node op w) = redirects_fit i d (redirect Rattle.std.specs.Prelude.None op w no_redirect)
is_aimed i d x = false

-- an assignment or a redirection
abbrev pub is_prefix : Bool → ℕ → Node → Bool
is_prefix i d (assign_node n v) = assigns_fit i d (assign n v no_assign)
is_prefix i d (redirect_node fd op w) = redirects_fit i d (redirect fd op w no_redirect)
is_prefix i d x = false

-- a word or a redirection
abbrev pub is_suffix : Bool → ℕ → Node → Bool
is_suffix i d (word_node w) = word_fits i d true w
is_suffix i d (redirect_node fd op w) = redirects_fit i d (redirect fd op w no_redirect)
is_suffix i d x = false

-- ---- what is taken of them

and_true : (a b c : Bool) → (a && true) ≡ true → (b ≡ true → c ≡ true) → b ≡ true → (a && c) ≡ true
and_true true b c e h f = h f
and_true false b c e h f = absurd (false≢true e)

pub chains_fit : (i : Bool) (d : ℕ) (xs : List Node) → list_all (is_chain i d) xs ≡ true → list_fits i d (chains_in xs) ≡ true
chains_fit i d [] e = refl
chains_fit i d (chain_node c ∷ xs) e = let x = both (chain_fits i d c) (list_all (is_chain i d) xs) e in rw (x.0, chains_fit i d xs x.1) refl
chains_fit i d (x ∷ xs) e = absurd (false≢true e)

pub links_of : (i : Bool) (d : ℕ) (xs : List Node) → list_all (is_link i d) xs ≡ true → links_fit i d (links_in xs) ≡ true
links_of i d [] e = refl
links_of i d (and_node p ∷ xs) e = let x = both (pipeline_fits i d p) (list_all (is_link i d) xs) e in rw (x.0, links_of i d xs x.1) refl
links_of i d (or_node p ∷ xs) e = let x = both (pipeline_fits i d p) (list_all (is_link i d) xs) e in rw (x.0, links_of i d xs x.1) refl
links_of i d (x ∷ xs) e = absurd (false≢true e)

pub stages_of : (i : Bool) (d : ℕ) (xs : List Node) → list_all (is_stage i d) xs ≡ true → stages_fit i d (stages_in xs) ≡ true
stages_of i d [] e = refl
stages_of i d (command_node c ∷ xs) e = let x = both (command_fits i d c) (list_all (is_stage i d) xs) e in rw (x.0, stages_of i d xs x.1) refl
stages_of i d (x ∷ xs) e = absurd (false≢true e)

pub items_of : (i : Bool) (d : ℕ) (xs : List Node) → list_all (is_item i d) xs ≡ true → items_fit i d (items_in xs) ≡ true
items_of i d [] e = refl
items_of i d (item_node ps b ∷ xs) e =
    let x = both (items_fit i d (item ps b no_item)) (list_all (is_item i d) xs) e in
    and_true (has_word ps && patterns_fit i d ps && list_fits i d b) (list_all (is_item i d) xs) (items_fit i d (items_in xs)) x.0 (λ f. items_of i d xs f) x.1
items_of i d (x ∷ xs) e = absurd (false≢true e)

pub branches_of : (i : Bool) (d : ℕ) (xs : List Node) → list_all (is_branch i d) xs ≡ true → branches_fit i d (branches_in xs) ≡ true
branches_of i d [] e = refl
branches_of i d (branch_node t b ∷ xs) e =
    let x = both (branches_fit i d (branch t b no_branch)) (list_all (is_branch i d) xs) e in
    and_true (has_chain t && list_fits i d t && has_chain b && list_fits i d b) (list_all (is_branch i d) xs) (branches_fit i d (branches_in xs)) x.0 (λ f. branches_of i d xs f) x.1
branches_of i d (x ∷ xs) e = absurd (false≢true e)

pub listed_of : (i : Bool) (d : ℕ) (xs : List Node) → list_all (is_listed i d) xs ≡ true → for_words_fit i d (listed_in xs) ≡ true
listed_of i d [] e = refl
listed_of i d (listed_node ws ∷ xs) e = (both (for_words_fit i d ws) (list_all (is_listed i d) xs) e).0
listed_of i d (x ∷ xs) e = absurd (false≢true e)

pub words_of : (i : Bool) (d : ℕ) (xs : List Node) → list_all (is_word i d) xs ≡ true → words_fit i d (words_in xs) ≡ true
words_of i d [] e = refl
words_of i d (word_node w ∷ xs) e = let x = both (word_fits i d true w) (list_all (is_word i d) xs) e in rw (x.0, words_of i d xs x.1) refl
words_of i d (x ∷ xs) e = absurd (false≢true e)

pub patterns_of : (i : Bool) (d : ℕ) (xs : List Node) → list_all (is_pattern i d) xs ≡ true → patterns_fit i d (words_in xs) ≡ true
patterns_of i d [] e = refl
patterns_of i d (word_node w ∷ xs) e =
    let x = both (patterns_fit i d (word w no_word)) (list_all (is_pattern i d) xs) e in
    and_true (has_part w && Rattle.std.specs.Prelude.not (Rattle.sh_printing.specs.Printable.plain_begins 35 w) && Rattle.sh_printing.specs.Printable.parts_fit i d Rattle.sh_grammar.specs.Bytes.in_word w) (list_all (is_pattern i d) xs) (patterns_fit i d (words_in xs)) x.0 (λ f. patterns_of i d xs f) x.1
patterns_of i d (x ∷ xs) e = absurd (false≢true e)

-- a redirection fits by itself, whatever follows it
pub redirect_before : (i : Bool) (d : ℕ) (fd : Rattle.std.specs.Prelude.Option ℕ) (op : shape.RedirectOp) (w : shape.Parts) (rs : shape.Redirects) → redirects_fit i d (redirect fd op w no_redirect) ≡ true → redirects_fit i d rs ≡ true → redirects_fit i d (redirect fd op w rs) ≡ true
redirect_before i d fd shape.read w rs e f = and_true (Rattle.sh_printing.specs.Printable.fd_fits fd && word_fits i d true w) true (redirects_fit i d rs) e (λ z. f) refl
redirect_before i d fd shape.write w rs e f = and_true (Rattle.sh_printing.specs.Printable.fd_fits fd && word_fits i d true w) true (redirects_fit i d rs) e (λ z. f) refl
redirect_before i d fd shape.append w rs e f = and_true (Rattle.sh_printing.specs.Printable.fd_fits fd && word_fits i d true w) true (redirects_fit i d rs) e (λ z. f) refl
redirect_before i d fd shape.here_literal w rs e f = and_true (Rattle.sh_printing.specs.Printable.fd_fits fd && Rattle.sh_printing.specs.Printable.literal_body i w) true (redirects_fit i d rs) e (λ z. f) refl
redirect_before i d fd shape.here_expanded w rs e f = and_true (Rattle.sh_printing.specs.Printable.fd_fits fd && (Rattle.sh_printing.specs.Printable.ends_line w && Rattle.sh_printing.specs.Printable.parts_fit true d Rattle.sh_grammar.specs.Bytes.in_body w)) true (redirects_fit i d rs) e (λ z. f) refl
redirect_before i d fd shape.copy_in w rs e f = and_true (Rattle.sh_printing.specs.Printable.fd_fits fd && Rattle.sh_printing.specs.Printable.is_copied_word w) true (redirects_fit i d rs) e (λ z. f) refl
redirect_before i d fd shape.copy_out w rs e f = and_true (Rattle.sh_printing.specs.Printable.fd_fits fd && Rattle.sh_printing.specs.Printable.is_copied_word w) true (redirects_fit i d rs) e (λ z. f) refl

pub redirects_of : (i : Bool) (d : ℕ) (xs : List Node) → list_all (is_redirect i d) xs ≡ true → redirects_fit i d (redirects_in xs) ≡ true
redirects_of i d [] e = refl
redirects_of i d (redirect_node fd op w ∷ xs) e =
    let x = both (redirects_fit i d (redirect fd op w no_redirect)) (list_all (is_redirect i d) xs) e in redirect_before i d fd op w (redirects_in xs) x.0 (redirects_of i d xs x.1)
redirects_of i d (x ∷ xs) e = absurd (false≢true e)

-- The steps of the induction over simple commands.
use Rattle.std.proofs.Common.{◌≡◌, ℕ, true, false, List, [], ◌∷◌, ◌++◌, refl, sym, ap, subst, ◌∙◌, append_assoc}
use Rattle.text_grammar.specs.Grammar.{star, rule}
use Rattle.span_text.specs.Names.{is_name}
use Rattle.sh_grammar.specs.Shape as shape
use Rattle.sh_grammar.specs.Shape.{simple, assign, no_assign, word, no_redirect, command}
use Rattle.sh_grammar.specs.Bytes.{Text, in_word, gap}
use Rattle.sh_grammar.specs.Tokens.{redirect_next, assign_next}
use Rattle.sh_grammar.specs.State.{State, Sum, Node, word_node, assign_node, command_node, words_in, assigns_in, redirects_in}
use Rattle.sh_grammar.specs.Table.{Test, Rule, prefix_begins, suffix_begins, prefix_item, suffix_item, command as command_rule, word as word_rule, assign as assign_rule}
use Rattle.sh_grammar.specs.Steps.{Known, holds}
use Rattle.sh_printing.specs.Marks.{End, ended, blank}
use Rattle.sh_printing.specs.Printing.{parts_text, words_text, assigns_text, value_text}
use Rattle.sh_printing.proofs.BackSays.{Says, no_more, one_more, saying}
use Rattle.sh_printing.proofs.BackDue.{st, pending_text}
use Rattle.sh_printing.proofs.BackBytes.{gap_blank}
use Rattle.sh_printing.proofs.BackBehind.{parts_on}
use Rattle.sh_printing.proofs.BackWordFronts.{WordFront}
use Rattle.sh_printing.proofs.BackNodes.{word_nodes, assign_nodes, redirect_nodes, words_before, words_over_assigns, words_in_redirects, assigns_before, assigns_over_words, assigns_in_redirects, redirects_only, redirects_over_words, redirects_over_assigns, words_only, words_over_redirects, assigns_over_redirects, assigns_in_words, redirects_before, redirects_in_words}
use Rattle.sh_printing.proofs.BackEnds.{any_end}
use Rattle.sh_printing.proofs.BackSimple.{SimpleFront, assign_front, word_token, word_no_redirect, carry_redirect, carry_assign}
use Rattle.sh_printing.proofs.BackCommands.{by_prefix, by_suffix, Wording, prefix_assign, called_says, prefixed_says, simple_of}
use Rattle.sh_printing.proofs.BackLines.{clean}
use Rattle.sh_printing.proofs.BackLists.{due, On}
use Rattle.sh_printing.proofs.BackCommandSteps.{turn_of}

-- the nodes of a simple command make it
pub simple_nodes : (vs : shape.Assigns) (ws : shape.Words) (rs : shape.Redirects) → simple_of (assign_nodes vs ++ (word_nodes ws ++ redirect_nodes rs)) ≡ command (simple vs ws) rs
simple_nodes vs ws rs =
    let z = word_nodes ws ++ redirect_nodes rs in
    let a : assigns_in (assign_nodes vs ++ z) ≡ vs = assigns_before vs z (assigns_over_words ws (redirect_nodes rs) ∙ assigns_in_redirects rs) in
    let w : words_in (assign_nodes vs ++ z) ≡ ws = words_over_assigns vs z ∙ words_before ws (redirect_nodes rs) (words_in_redirects rs) in
    let r : redirects_in (assign_nodes vs ++ z) ≡ rs = redirects_over_assigns vs z ∙ redirects_over_words ws (redirect_nodes rs) ∙ redirects_only rs in
    rw (a, w, r) refl

-- those of words behind redirections
turned_nodes : (ws : shape.Words) (rs : shape.Redirects) → simple_of (redirect_nodes rs ++ word_nodes ws) ≡ command (simple no_assign ws) rs
turned_nodes ws rs =
    let z = word_nodes ws in
    let a : assigns_in (redirect_nodes rs ++ z) ≡ no_assign = assigns_over_redirects rs z ∙ assigns_in_words ws in
    let w : words_in (redirect_nodes rs ++ z) ≡ ws = words_over_redirects rs z ∙ words_only ws in
    let r : redirects_in (redirect_nodes rs ++ z) ≡ rs = redirects_before rs z (redirects_in_words ws) in
    rw (a, w, r) refl

-- a word in front of others, in a repetition
pub words_step : (k : Known) (d : ℕ) (q : List Sum) (f h : List Text) (w : shape.Parts) (ws : shape.Words) (t : Text) (e : State) (ys : List Node) (p : Test) (r : Rule) → Wording p r →
    WordFront (parts_on in_word blank w (words_text true true ws ++ t)) →
    ((bytes : Text) → gap bytes ≡ parts_on in_word blank w (words_text true true ws ++ t) → Says k (rule word_rule) (st d q (clean f) bytes) (st d q (clean h) (words_text true true ws ++ t)) (word_node w ∷ [])) →
    Says k (star p (rule r)) (st d q (clean h) (words_text true true ws ++ t)) e (word_nodes ws ++ ys) →
    Says k (star p (rule r)) (st d q (clean f) (words_text true true (word w ws) ++ t)) e (word_nodes (word w ws) ++ ys)
words_step k d q f h w ws t e ys p r W front a b =
    let u = words_text true true ws ++ t in
    let v = parts_on in_word blank w u in
    let g : gap (32 ∷ v) ≡ v = gap_blank v ∙ front.solid in
    let tk = word_token (32 ∷ v) v g front in
    let s = st d q (clean f) (32 ∷ v) in
    subst (λ (z : Text). Says k (star p (rule r)) (st d q (clean f) z) e (word_nodes (word w ws) ++ ys)) (sym (append_assoc (32 ∷ parts_text true in_word blank w) (words_text true true ws) t))
    (one_more {xs = word_node w ∷ []} (W.begins s v tk) (W.turn k s (st d q (clean h) u) (word_node w ∷ []) v tk (a (32 ∷ v) g)) b)

-- an assignment in front of others
pub assigns_step : (k : Known) (d : ℕ) (q : List Sum) (f h : List Text) (n : Text) (v : shape.Value) (vs : shape.Assigns) (t : Text) (e : State) (ys : List Node) → is_name n ≡ true →
    ((bytes : Text) → gap bytes ≡ n ++ 61 ∷ (value_text true v ++ (assigns_text true true vs ++ t)) → Says k (rule assign_rule) (st d q (clean f) bytes) (st d q (clean h) (assigns_text true true vs ++ t)) (assign_node n v ∷ [])) →
    Says k (star prefix_begins (rule prefix_item)) (st d q (clean h) (assigns_text true true vs ++ t)) e (assign_nodes vs ++ ys) →
    Says k (star prefix_begins (rule prefix_item)) (st d q (clean f) (assigns_text true true (assign n v vs) ++ t)) e (assign_nodes (assign n v vs) ++ ys)
unfolding holds
assigns_step k d q f h n v vs t e ys nm a b =
    let u = assigns_text true true vs ++ t in
    let x = n ++ 61 ∷ (value_text true v ++ u) in
    let fr = assign_front n (value_text true v ++ u) nm in
    let g : gap (32 ∷ x) ≡ x = gap_blank x ∙ fr.simple.solid in
    let i : gap (32 ∷ x) ≡ gap x = gap_blank x in
    let s = st d q (clean f) (32 ∷ x) in
    let is : assigns_text true true (assign n v vs) ++ t ≡ 32 ∷ x = append_assoc (32 ∷ (n ++ 61 ∷ value_text true v)) (assigns_text true true vs) t ∙ ap (λ (z : Text). 32 ∷ z) (append_assoc n (61 ∷ value_text true v) u) in
    subst (λ (z : Text). Says k (star prefix_begins (rule prefix_item)) (st d q (clean f) z) e (assign_nodes (assign n v vs) ++ ys)) (sym is)
    (one_more {xs = assign_node n v ∷ []} (rw (carry_redirect (32 ∷ x) x i, carry_assign (32 ∷ x) x i, fr.no_redirect, fr.begins) refl) (prefix_assign k s (st d q (clean h) u) (assign_node n v ∷ []) (carry_redirect (32 ∷ x) x i ∙ fr.no_redirect) (a (32 ∷ x) g)) b)

-- no turn more where a command's name comes
pub prefix_stops : (k : Known) (d : ℕ) (q : List Sum) (f : List Text) (v : Text) → WordFront v → assign_next v ≡ false → Says k (star prefix_begins (rule prefix_item)) (st d q (clean f) (32 ∷ v)) (st d q (clean f) (32 ∷ v)) []
unfolding holds
prefix_stops k d q f v w n =
    let i : gap (32 ∷ v) ≡ gap v = gap_blank v in
    no_more (rw (carry_redirect (32 ∷ v) v i, carry_assign (32 ∷ v) v i, word_no_redirect v v (word_token v v w.solid w), n) refl)

-- what is behind all words
pub suffix_stops : (k : Known) (d : ℕ) (q : List Sum) (ps : List Rattle.sh_printing.proofs.BackDue.Pending) (found : List Text) (end : End) (t : Text) → Says k (star suffix_begins (rule suffix_item)) (st d q (due ps found) (ended end (pending_text ps) ++ t)) (st d q (due ps found) (ended end (pending_text ps) ++ t)) []
suffix_stops k d q ps found end t =
    let x = any_end end (pending_text ps) t in
    no_more (by_suffix.ends (st d q (due ps found) (ended end (pending_text ps) ++ t)) x.op x.rest x.is)

-- ---- the three ways that a simple command begins

-- its name first
pub name_first : (k : Known) (d : ℕ) (q : List Sum) (f : List Text) (bytes v : Text) (m : State) (end : End) (t : Text) (w : shape.Parts) (ws : shape.Words) (rs : shape.Redirects) (all : List Text) → gap bytes ≡ v → SimpleFront v → redirect_next v ≡ false → assign_next v ≡ false →
    Says k (rule word_rule) (st d q (clean f) bytes) m (word_node w ∷ []) → On k (star suffix_begins (rule suffix_item)) d q m (ended end) t (word_nodes ws ++ redirect_nodes rs) all →
    On k (rule command_rule) d q (st d q (clean f) bytes) (ended end) t (command_node (command (simple no_assign (word w ws)) rs) ∷ []) all
name_first k d q f bytes v m end t w ws rs all e s n o a b =
    record {
      owing = b.owing;
      found = b.found;
      is_all = b.is_all;
      says =
          saying (ap (λ (z : shape.Command). command_node z ∷ []) (simple_nodes no_assign (word w ws) rs)) (called_says k d q (clean f) bytes v m _ (word_node w ∷ []) (word_nodes ws ++ redirect_nodes rs) e s n o a b.says);
    }

-- an assignment first
pub assign_first : (k : Known) (d : ℕ) (q : List Sum) (f : List Text) (bytes n u : Text) (m o : State) (end : End) (t : Text) (v : shape.Value) (vs : shape.Assigns) (ws : shape.Words) (rs : shape.Redirects) (all : List Text) (ys zs : List Node) → is_name n ≡ true → gap bytes ≡ n ++ 61 ∷ u → ys ++ zs ≡ assign_nodes vs ++ (word_nodes ws ++ redirect_nodes rs) →
    Says k (rule assign_rule) (st d q (clean f) bytes) m (assign_node n v ∷ []) → Says k (star prefix_begins (rule prefix_item)) m o ys → On k (star suffix_begins (rule suffix_item)) d q o (ended end) t zs all →
    On k (rule command_rule) d q (st d q (clean f) bytes) (ended end) t (command_node (command (simple (assign n v vs) ws) rs) ∷ []) all
assign_first k d q f bytes n u m o end t v vs ws rs all ys zs nm e is a b c =
    let x = n ++ 61 ∷ u in
    let fr = assign_front n u nm in
    let i : gap bytes ≡ gap x = e ∙ sym fr.simple.solid in
    record {
      owing = c.owing;
      found = c.found;
      is_all = c.is_all;
      says =
          saying (ap (λ (z : List Node). command_node (simple_of (assign_node n v ∷ z)) ∷ []) is ∙ ap (λ (z : shape.Command). command_node z ∷ []) (simple_nodes (assign n v vs) ws rs))
          (prefixed_says k d q (clean f) bytes x m o _ (assign_node n v ∷ []) ys zs e fr.simple (rw (carry_redirect bytes x i, carry_assign bytes x i, fr.no_redirect, fr.begins) refl)
          (prefix_assign k (st d q (clean f) bytes) m (assign_node n v ∷ []) (carry_redirect bytes x i ∙ fr.no_redirect) a) b c.says);
    }

-- a redirection first, and words behind all of them or none
pub redirect_first : (k : Known) (d : ℕ) (q : List Sum) (f : List Text) (bytes v : Text) (m : State) (end : End) (t : Text) (ws : shape.Words) (rs : shape.Redirects) (all : List Text) → gap bytes ≡ v → SimpleFront v → redirect_next bytes ≡ true →
    Says k (star prefix_begins (rule prefix_item)) (st d q (clean f) bytes) m (redirect_nodes rs) → On k (star suffix_begins (rule suffix_item)) d q m (ended end) t (word_nodes ws) all →
    On k (rule command_rule) d q (st d q (clean f) bytes) (ended end) t (command_node (command (simple no_assign ws) rs) ∷ []) all
redirect_first k d q f bytes v m end t ws rs all e s n a b =
    let x = turn_of k prefix_begins prefix_item (st d q (clean f) bytes) _ (redirect_nodes rs) (by_prefix.begins (st d q (clean f) bytes) n) a in
    record {
      owing = b.owing;
      found = b.found;
      is_all = b.is_all;
      says =
          saying (ap (λ (z : List Node). command_node (simple_of z) ∷ []) (sym (append_assoc x.ones x.others (word_nodes ws)) ∙ ap (λ (z : List Node). z ++ word_nodes ws) x.is) ∙ ap (λ (z : shape.Command). command_node z ∷ []) (turned_nodes ws rs))
          (prefixed_says k d q (clean f) bytes v x.middle _ _ x.ones x.others (word_nodes ws) e s (rw n refl) x.one x.rest b.says);
    }

-- Simple commands and functions that were read fit.
use Rattle.std.proofs.Common.{◌≡◌, ℕ, zero, suc, Bool, true, false, List, [], ◌∷◌, ◌++◌, Option, Some, None, inl, inr, refl, sym, ap, subst, ◌∙◌}
use Rattle.std.specs.Prelude.{◌||◌, ◌&&◌}
use Rattle.std.specs.List.{list_all}
use Rattle.std.proofs.lemmas.Bool.{false≢true, true≢false}
use Rattle.span_text.specs.Names.{begins_name, is_name}
use Rattle.text_grammar.specs.Grammar.{Leaf, rule, choose, pass}
use Rattle.text_grammar.specs.Values.{leaf_kids}
use Rattle.sh_grammar.specs.Shape as shape
use Rattle.sh_grammar.specs.Shape.{no_word, word, no_value, value, no_assign, assign, no_redirect, redirect}
use Rattle.sh_grammar.specs.Bytes.{Text, in_word, clear, gap, name_run}
use Rattle.sh_grammar.specs.Tokens.{name_next, redirect_next, assign_next, simple_next, name_at, assign_at, behind, ◌>>=◌}
use Rattle.sh_grammar.specs.State.{State, Node, text_node, word_node, redirect_node, assign_node, command_node, words_in, assigns_in, redirects_in, text_in, value_in}
use Rattle.sh_grammar.specs.Steps.{Known, run_step, holds}
use Rattle.sh_grammar.specs.Table.{Test, Rule, body}
use Rattle.sh_grammar.specs.Table as table
use Rattle.sh_grammar.specs.Acts.{act}
use Rattle.sh_grammar.proofs.Tools.{If, chosen_by}
use Rattle.sh_grammar.proofs.Tools as tools
use Rattle.sh_printing.specs.Printing.{has_assign, has_word}
use Rattle.sh_printing.specs.Printable.{has_redirect, is_assignment, is_reserved_word, name_fits, word_fits, words_fit, value_fits, assigns_fit, redirects_fit, command_fits}
use Rattle.sh_printing.proofs.BackBytes.{both, neither}
use Rattle.sh_printing.proofs.ExactParams.{name_of}
use Rattle.sh_printing.proofs.ExactParts.{by_step}
use Rattle.sh_printing.proofs.ExactRules.{Stepped, Turns, Ruled, Sat}
use Rattle.sh_printing.proofs.ExactStates.{Fine}
use Rattle.sh_printing.proofs.ExactNodes.{each_of, is_prefix, is_suffix, is_redirect, redirect_before}
use Rattle.sh_printing.proofs.ExactClaims.{One, OneNode, SuffixOk, SimpleOk, Says}
use Rattle.sh_printing.proofs.ExactLists.{turns_all, each_is, node_each}

-- ---- assignments

named_behind : (n : Text) (o : Option Text) → is_name n ≡ true → If (λ (x : Text × Text). is_name x.0 ≡ true) (o >>= λ rest. Some (n, rest))
named_behind n None e = tt
named_behind n (Some rest) e = e

named_front : (t : Text) → If (λ (x : Text × Text). is_name x.0 ≡ true) (name_at t >>= λ x. behind 61 (clear x.1) >>= λ rest. Some (x.0, rest))
unfolding name_at
named_front [] = tt
named_front (b ∷ bs) =
    chosen_by (λ (o : Option (Text × Text)). If (λ (x : Text × Text). is_name x.0 ≡ true) (o >>= λ x. behind 61 (clear x.1) >>= λ rest. Some (x.0, rest))) (begins_name b) _ _
    (λ e. named_behind (name_run (b ∷ bs)).0 (behind 61 (clear (name_run (b ∷ bs)).1)) (name_of b bs e).is) (λ e. tt)

assign_named : (t : Text) → If (λ (x : Text × Text). is_name x.0 ≡ true) (assign_at t)
unfolding assign_at
assign_named t = named_front (gap t)

record AssignName (vs : List Node) : Type 0 where
  name : Text
  is : vs ≡ text_node name ∷ []
  fits : is_name name ≡ true

assign_name : {k : Known} {F : State → Type 0} {d : ℕ} {s e : State} {vs : List Node} → Stepped k F table.assign_name d s e vs → AssignName vs
unfolding run_step
assign_name {s = s} st =
    by_step (λ (m : State) (ws : List Node). AssignName ws)
    (tools.then (λ (x : Text × Text). is_name x.0 ≡ true) (λ (x : Leaf Node × State). AssignName (leaf_kids x.0)) (assign_at s.bytes) _ (assign_named s.bytes) (λ x h. record { name = x.0; is = refl; fits = h })) st

assigned : (k : Known) (i : Bool) (d : ℕ) (s e : State) (vs : List Node) (n : Text) → is_name n ≡ true → Sat k (Fine k i) (Says i) (choose (table.unit_begins in_word) (rule table.value) pass) d s e vs →
    assigns_fit i d (assign n (value_in vs) no_assign) ≡ true
assigned k i d s e vs n f (inl a) =
    let o = a.1.claim in subst (λ (z : List Node). assigns_fit i d (assign n (value_in z) no_assign) ≡ true) (sym o.is) (rw (f, o.fits) refl)
assigned k i d s e vs n f (inr a) = subst (λ (z : List Node). assigns_fit i d (assign n (value_in z) no_assign) ≡ true) (sym a.1.1) (rw f refl)

pub assign_rule : (k : Known) (i : Bool) (d : ℕ) (s e : State) (vs : List Node) → Sat k (Fine k i) (Says i) (body table.assign) d s e vs → OneNode (is_prefix i d) (act table.assign vs)
assign_rule k i d s e vs a =
    let n = assign_name a.before in
    let is : vs ≡ text_node n.name ∷ a.others = a.is ∙ ap (λ (z : List Node). z ++ a.others) n.is in
    record { one = assign_node n.name (value_in a.others); is = ap (λ (z : List Node). assign_node (text_in z) (value_in z) ∷ []) is; fits = assigned k i d a.middle e a.others n.name n.fits a.rest }

-- ---- what stands before a command's name, and behind it

redirect_is_prefix : (i : Bool) (d : ℕ) (x : Node) → is_redirect i d x ≡ true → is_prefix i d x ≡ true
redirect_is_prefix i d (redirect_node fd op w) e = e
redirect_is_prefix i d x e = absurd (false≢true e)

redirect_is_suffix : (i : Bool) (d : ℕ) (x : Node) → is_redirect i d x ≡ true → is_suffix i d x ≡ true
redirect_is_suffix i d (redirect_node fd op w) e = e
redirect_is_suffix i d x e = absurd (false≢true e)

pub prefix_item_rule : (k : Known) (i : Bool) (d : ℕ) (s e : State) (vs : List Node) → Sat k (Fine k i) (Says i) (body table.prefix_item) d s e vs → OneNode (is_prefix i d) vs
prefix_item_rule k i d s e vs (inl a) = let o = a.1.claim in record { one = o.one; is = o.is; fits = redirect_is_prefix i d o.one o.fits }
prefix_item_rule k i d s e vs (inr a) = a.1.claim

pub suffix_item_rule : (k : Known) (i : Bool) (d : ℕ) (s e : State) (vs : List Node) → Sat k (Fine k i) (Says i) (body table.suffix_item) d s e vs → Says i table.suffix_item d s e vs
unfolding holds
suffix_item_rule k i d s e vs (inl a) =
    let o = a.1.claim in
    (record { one = o.one; is = o.is; fits = redirect_is_suffix i d o.one o.fits }, λ f ws. absurd (true≢false (sym a.0 ∙ (neither (redirect_next s.bytes) (assign_next s.bytes) f).0)))
suffix_item_rule k i d s e vs (inr a) =
    let o = a.1.claim in (
      record { one = word_node o.one; is = o.is; fits = o.fits.0 },
      λ f ws. subst (λ (z : List Node). name_fits true (words_in (z ++ ws)) ≡ true) (sym o.is) (rw (o.fits.1 (neither (redirect_next s.bytes) (assign_next s.bytes) f).1) refl),
    )

suffix_turns : (k : Known) (i : Bool) (d n : ℕ) (s e : State) (vs : List Node) → Turns (Fine k i) table.suffix_begins (Ruled (Fine k i) (Says i table.suffix_item) d) n s e vs →
    (redirect_next s.bytes || assign_next s.bytes) ≡ false → name_fits true (words_in vs) ≡ true
suffix_turns k i d zero s e vs t f = subst (λ (z : List Node). name_fits true (words_in z) ≡ true) (sym t.2) refl
suffix_turns k i d (suc n) s e vs t f =
    let b = t.1 in subst (λ (z : List Node). name_fits true (words_in z) ≡ true) (sym b.is) (b.before.claim.1 f b.others)

pub suffix_rule : (k : Known) (i : Bool) (d : ℕ) (s e : State) (vs : List Node) → Sat k (Fine k i) (Says i) (body table.suffix) d s e vs → SuffixOk i d s.bytes vs
suffix_rule k i d s e vs a =
    record {
      each = turns_all (Fine k i) table.suffix_begins (Ruled (Fine k i) (Says i table.suffix_item) d) (is_suffix i d) (λ s e ws r. node_each (is_suffix i d) ws r.claim.0) a.0 s e vs a.1;
      first = suffix_turns k i d a.0 s e vs a.1;
    }

-- ---- all of a command

abbrev is_simple : Bool → ℕ → Node → Bool
is_simple i d (assign_node n v) = assigns_fit i d (assign n v no_assign)
is_simple i d (word_node w) = word_fits i d true w
is_simple i d (redirect_node fd op w) = redirects_fit i d (redirect fd op w no_redirect)
is_simple i d x = false

prefix_simple : (i : Bool) (d : ℕ) (x : Node) → is_prefix i d x ≡ true → is_simple i d x ≡ true
prefix_simple i d (assign_node n v) e = e
prefix_simple i d (redirect_node fd op w) e = e
prefix_simple i d x e = absurd (false≢true e)

suffix_simple : (i : Bool) (d : ℕ) (x : Node) → is_suffix i d x ≡ true → is_simple i d x ≡ true
suffix_simple i d (word_node w) e = e
suffix_simple i d (redirect_node fd op w) e = e
suffix_simple i d x e = absurd (false≢true e)

each_more : (p q : Node → Bool) → ((x : Node) → p x ≡ true → q x ≡ true) → (xs : List Node) → list_all p xs ≡ true → list_all q xs ≡ true
each_more p q h [] e = refl
each_more p q h (x ∷ xs) e = let y = both (p x) (list_all p xs) e in rw (h x y.0, each_more p q h xs y.1) refl

and_true : (a c : Bool) → (a && true) ≡ true → c ≡ true → (a && c) ≡ true
and_true true c e h = h
and_true false c e h = absurd (false≢true e)

simple_assigns : (i : Bool) (d : ℕ) (xs : List Node) → list_all (is_simple i d) xs ≡ true → assigns_fit i d (assigns_in xs) ≡ true
simple_assigns i d [] e = refl
simple_assigns i d (assign_node n v ∷ xs) e =
    let x = both (assigns_fit i d (assign n v no_assign)) (list_all (is_simple i d) xs) e in and_true (is_name n && value_fits i d v) (assigns_fit i d (assigns_in xs)) x.0 (simple_assigns i d xs x.1)
simple_assigns i d (word_node w ∷ xs) e = simple_assigns i d xs (both (word_fits i d true w) (list_all (is_simple i d) xs) e).1
simple_assigns i d (redirect_node fd op w ∷ xs) e = simple_assigns i d xs (both (redirects_fit i d (redirect fd op w no_redirect)) (list_all (is_simple i d) xs) e).1
simple_assigns i d (x ∷ xs) e = absurd (false≢true e)

simple_words : (i : Bool) (d : ℕ) (xs : List Node) → list_all (is_simple i d) xs ≡ true → words_fit i d (words_in xs) ≡ true
simple_words i d [] e = refl
simple_words i d (assign_node n v ∷ xs) e = simple_words i d xs (both (assigns_fit i d (assign n v no_assign)) (list_all (is_simple i d) xs) e).1
simple_words i d (word_node w ∷ xs) e = let x = both (word_fits i d true w) (list_all (is_simple i d) xs) e in rw (x.0, simple_words i d xs x.1) refl
simple_words i d (redirect_node fd op w ∷ xs) e = simple_words i d xs (both (redirects_fit i d (redirect fd op w no_redirect)) (list_all (is_simple i d) xs) e).1
simple_words i d (x ∷ xs) e = absurd (false≢true e)

simple_redirects : (i : Bool) (d : ℕ) (xs : List Node) → list_all (is_simple i d) xs ≡ true → redirects_fit i d (redirects_in xs) ≡ true
simple_redirects i d [] e = refl
simple_redirects i d (assign_node n v ∷ xs) e = simple_redirects i d xs (both (assigns_fit i d (assign n v no_assign)) (list_all (is_simple i d) xs) e).1
simple_redirects i d (word_node w ∷ xs) e = simple_redirects i d xs (both (word_fits i d true w) (list_all (is_simple i d) xs) e).1
simple_redirects i d (redirect_node fd op w ∷ xs) e = let x = both (redirects_fit i d (redirect fd op w no_redirect)) (list_all (is_simple i d) xs) e in redirect_before i d fd op w (redirects_in xs) x.0 (simple_redirects i d xs x.1)
simple_redirects i d (x ∷ xs) e = absurd (false≢true e)

prefix_words : (i : Bool) (d : ℕ) (xs ys : List Node) → list_all (is_prefix i d) xs ≡ true → words_in (xs ++ ys) ≡ words_in ys
prefix_words i d [] ys e = refl
prefix_words i d (assign_node n v ∷ xs) ys e = prefix_words i d xs ys (both (assigns_fit i d (assign n v no_assign)) (list_all (is_prefix i d) xs) e).1
prefix_words i d (redirect_node fd op w ∷ xs) ys e = prefix_words i d xs ys (both (redirects_fit i d (redirect fd op w no_redirect)) (list_all (is_prefix i d) xs) e).1
prefix_words i d (x ∷ xs) ys e = absurd (false≢true e)

or_true : (b : Bool) → (b || true) ≡ true
or_true true = refl
or_true false = refl

first_leads : (i : Bool) (d : ℕ) (x : Node) (xs : List Node) → is_prefix i d x ≡ true → (has_assign (assigns_in (x ∷ xs)) || has_redirect (redirects_in (x ∷ xs))) ≡ true
first_leads i d (assign_node n v) xs e = refl
first_leads i d (redirect_node fd op w) xs e = or_true (has_assign (assigns_in xs))
first_leads i d x xs e = absurd (false≢true e)

or_between : (a b c : Bool) → (a || c) ≡ true → (a || b || c) ≡ true
or_between true b c e = refl
or_between false b true e = or_true b
or_between false b false e = absurd (false≢true e)

-- the command of these values
simple_fits : (i : Bool) (d : ℕ) (vs : List Node) → list_all (is_simple i d) vs ≡ true → (has_assign (assigns_in vs) || has_redirect (redirects_in vs)) ≡ true → name_fits true (words_in vs) ≡ true → SimpleOk i d vs
simple_fits i d vs e l n =
    let led : name_fits (has_assign (assigns_in vs) || has_redirect (redirects_in vs)) (words_in vs) ≡ true = subst (λ (z : Bool). name_fits z (words_in vs) ≡ true) (sym l) n in
    record { fits = rw (or_between (has_assign (assigns_in vs)) (has_word (words_in vs)) (has_redirect (redirects_in vs)) l, simple_assigns i d vs e, simple_words i d vs e, led) refl; redirects = simple_redirects i d vs e }

turns_end : (F : State → Type 0) (p : Test) (turn : State → State → List Node → Type 0) (n : ℕ) (s e : State) (vs : List Node) → Turns F p turn n s e vs → holds p e ≡ false
turns_end F p turn zero s e vs t = subst (λ (z : State). holds p z ≡ false) t.1 t.0
turns_end F p turn (suc n) s e vs t = let b = t.1 in turns_end F p turn n b.middle e b.others b.rest

ends_prefix : (s : State) → holds table.prefix_begins s ≡ false → (redirect_next s.bytes || assign_next s.bytes) ≡ false
unfolding holds
ends_prefix s e = e

pub prefixed_rule : (k : Known) (i : Bool) (d : ℕ) (s e : State) (vs : List Node) → Sat k (Fine k i) (Says i) (body table.prefixed) d s e vs → SimpleOk i d vs
prefixed_rule k i d s e vs a =
    let b = a.rest in let o = a.before.claim in let r = b.rest.claim in
    let t = turns_all (Fine k i) table.prefix_begins (Ruled (Fine k i) (Says i table.prefix_item) d) (is_prefix i d) (λ s e ws r. node_each (is_prefix i d) ws r.claim) b.before.0 a.middle b.middle b.ones b.before.1 in
    let stopped = ends_prefix b.middle (turns_end (Fine k i) table.prefix_begins (Ruled (Fine k i) (Says i table.prefix_item) d) b.before.0 a.middle b.middle b.ones b.before.1) in
    let heads : list_all (is_prefix i d) (o.one ∷ b.ones) ≡ true = rw (o.fits, t) refl in
    let is : vs ≡ (o.one ∷ b.ones) ++ b.others = a.is ∙ (ap (λ (z : List Node). z ++ a.others) o.is ∙ ap (λ (z : List Node). o.one ∷ z) b.is) in
    let all : list_all (is_simple i d) vs ≡ true = each_is (is_simple i d) is (each_of (is_simple i d) (o.one ∷ b.ones) b.others (each_more (is_prefix i d) (is_simple i d) (prefix_simple i d) (o.one ∷ b.ones) heads) (each_more (is_suffix i d) (is_simple i d) (suffix_simple i d) b.others r.each)) in
    let leads : (has_assign (assigns_in vs) || has_redirect (redirects_in vs)) ≡ true = subst (λ (z : List Node). (has_assign (assigns_in z) || has_redirect (redirects_in z)) ≡ true) (sym is) (first_leads i d o.one (b.ones ++ b.others) o.fits) in
    let name : name_fits true (words_in vs) ≡ true = subst (λ (z : shape.Words). name_fits true z ≡ true) (sym (ap words_in is ∙ prefix_words i d (o.one ∷ b.ones) b.others heads)) (r.first stopped) in
    simple_fits i d vs all leads name

or_second : (a b : Bool) → (a || b) ≡ true → a ≡ false → b ≡ true
or_second true b e f = absurd (true≢false f)
or_second false b e f = e

next_is_name : (t : Text) → simple_next t ≡ true → redirect_next t ≡ false → name_next t ≡ true
unfolding simple_next
next_is_name t e f = or_second (redirect_next t) (name_next t) e f

named_first : (i : Bool) (d : ℕ) (w : shape.Parts) (xs : List Node) → list_all (is_simple i d) (word_node w ∷ xs) ≡ true → is_assignment w ≡ false → is_reserved_word w ≡ false → SimpleOk i d (word_node w ∷ xs)
named_first i d w xs e f g =
    let vs = word_node w ∷ xs in
    record { fits = rw (or_true (has_assign (assigns_in xs)), simple_assigns i d vs e, simple_words i d vs e, f, g, or_true (has_assign (assigns_in xs) || has_redirect (redirects_in xs))) refl; redirects = simple_redirects i d vs e }

pub called_rule : (k : Known) (i : Bool) (d : ℕ) (s e : State) (vs : List Node) → Sat k (Fine k i) (Says i) (body table.called) d s e vs → Says i table.called d s e vs
called_rule k i d s e vs a n f =
    let o = a.before.claim in let r = a.rest.claim in
    let x = neither (redirect_next s.bytes) (assign_next s.bytes) f in
    let is : vs ≡ word_node o.one ∷ a.others = a.is ∙ ap (λ (z : List Node). z ++ a.others) o.is in
    let all : list_all (is_simple i d) (word_node o.one ∷ a.others) ≡ true = rw (o.fits.0, each_more (is_suffix i d) (is_simple i d) (suffix_simple i d) a.others r.each) refl in
    subst (SimpleOk i d) (sym is) (named_first i d o.one a.others all (o.fits.1 x.1) (o.fits.2 (next_is_name s.bytes n x.0)))

simple_command_of : (i : Bool) (d : ℕ) (vs : List Node) → SimpleOk i d vs → One command_node (λ c. command_fits i d c ≡ true) (command_node (shape.command (shape.simple (assigns_in vs) (words_in vs)) (redirects_in vs)) ∷ [])
simple_command_of i d vs o = record { one = shape.command (shape.simple (assigns_in vs) (words_in vs)) (redirects_in vs); is = refl; fits = rw (o.fits, o.redirects) refl }

pub simple_rule : (k : Known) (i : Bool) (d : ℕ) (s e : State) (vs : List Node) → Sat k (Fine k i) (Says i) (body table.simple_command) d s e vs → Says i table.simple_command d s e (act table.simple_command vs)
unfolding holds
simple_rule k i d s e vs (inl (t, inl a)) = simple_command_of i d vs a.1.claim
simple_rule k i d s e vs (inl (t, inr a)) = simple_command_of i d vs (a.1.claim t a.0)
simple_rule k i d s e vs (inr a) = absurd a.1

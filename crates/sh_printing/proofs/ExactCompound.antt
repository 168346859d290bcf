-- Compound commands that were read fit.
use Rattle.std.proofs.Common.{◌≡◌, ℕ, suc, Bool, true, false, List, [], ◌∷◌, ◌++◌, Option, Some, None, inl, inr, refl, sym, ap, subst, ◌∙◌}
use Rattle.std.specs.Prelude.{◌||◌, ◌&&◌, not, nat_lt}
use Rattle.std.specs.List.{list_all}
use Rattle.std.proofs.lemmas.Bool.{false≢true}
use Rattle.span_text.specs.Names.{begins_name, is_name}
use Rattle.text_grammar.specs.Grammar.{Leaf, step, rule, choose, pass}
use Rattle.text_grammar.specs.Values.{leaf_kids}
use Rattle.sh_grammar.specs.Shape as shape
use Rattle.sh_grammar.specs.Shape.{no_word, word, no_branch, branch, no_item, item, parameters, listed}
use Rattle.sh_grammar.specs.Bytes.{Text, in_word, gap, unit_starts}
use Rattle.sh_grammar.specs.Tokens as tokens
use Rattle.sh_grammar.specs.Tokens.{name_at}
use Rattle.sh_grammar.specs.Expansions.{◌>>=◌}
use Rattle.sh_grammar.specs.State.{State, Node, text_node, word_node, kind_node, command_node, script_node, branch_node, else_node, listed_node, item_node, words_in, branches_in, items_in, word_in, script_in, second_script_in, else_in, listed_in, kind_in, redirects_in, text_in}
use Rattle.sh_grammar.specs.Steps.{Known, limit, run_step, holds}
use Rattle.sh_grammar.specs.Table.{Rule, body}
use Rattle.sh_grammar.specs.Table as table
use Rattle.sh_grammar.specs.Acts.{act}
use Rattle.sh_grammar.proofs.Tools.{If, chosen_by}
use Rattle.sh_printing.specs.Printable.{has_part, has_redirect, has_chain, has_branch, is_compound, word_fits, words_fit, patterns_fit, redirects_fit, kind_fits, command_fits, branches_fit, otherwise_fits, for_words_fit, items_fit, list_fits}
use Rattle.sh_printing.specs.Printing.{has_word}
use Rattle.sh_printing.proofs.BackBytes.{both}
use Rattle.sh_printing.proofs.ExactParams.{NameIn, name_of}
use Rattle.sh_printing.proofs.ExactParts.{by_step}
use Rattle.sh_printing.proofs.ExactRules.{Stepped, Ruled, Sat}
use Rattle.sh_printing.proofs.ExactStates.{Fine}
use Rattle.sh_printing.proofs.ExactSteps.{nothing_said, skip, stop, enters}
use Rattle.sh_printing.proofs.ExactNodes.{each_of, is_branch, is_listed, is_item, is_word, is_pattern, is_redirect, items_of, words_of, redirects_of}
use Rattle.sh_printing.proofs.ExactClaims.{One, OneNode, WordOk, Says}
use Rattle.sh_printing.proofs.ExactLists.{turns_all, each_is, node_each}

-- a kind of command that isn't a simple one
abbrev Kinds : Bool → ℕ → List Node → Type 0
Kinds i d vs = One kind_node (λ k. (is_compound k ≡ true) × ((r : Bool) → kind_fits i d r k ≡ true)) vs

abbrev Listed : Bool → ℕ → List Node → Type 0
Listed i d vs = One script_node (λ x. (has_chain x ≡ true) × (list_fits i d x ≡ true)) vs

-- ---- a compound command and its redirections

pub compound_command_rule : (k : Known) (i : Bool) (d : ℕ) (s e : State) (vs : List Node) → Sat k (Fine k i) (Says i) (body table.compound_command) d s e vs → Says i table.compound_command d s e (act table.compound_command vs)
compound_command_rule k i d s e vs a =
    let c = a.before.claim in
    let t = turns_all (Fine k i) table.redirect_begins (Ruled (Fine k i) (Says i table.redirect) d) (is_redirect i d) (λ s e ws r. node_each (is_redirect i d) ws r.claim) a.rest.0 a.middle e a.others a.rest.1 in
    let is : vs ≡ kind_node c.one ∷ a.others = a.is ∙ ap (λ (z : List Node). z ++ a.others) c.is in
    record {
      one = shape.command c.one (redirects_in a.others);
      is = ap (λ (z : List Node). command_node (shape.command (kind_in z) (redirects_in z)) ∷ []) is;
      fits = (c.fits.0, rw (c.fits.1 (has_redirect (redirects_in a.others)), redirects_of i d a.others t) refl);
    }

pub compound_rule : (k : Known) (i : Bool) (d : ℕ) (s e : State) (vs : List Node) → Sat k (Fine k i) (Says i) (body table.compound) d s e vs → Kinds i d vs
compound_rule k i d s e vs (inl a) = a.1.claim
compound_rule k i d s e vs (inr (t, inl a)) = a.1.claim
compound_rule k i d s e vs (inr (t, inr (u, inl a))) = a.1.claim
compound_rule k i d s e vs (inr (t, inr (u, inr a))) = a.1.claim

pub other_compound_rule : (k : Known) (i : Bool) (d : ℕ) (s e : State) (vs : List Node) → Sat k (Fine k i) (Says i) (body table.other_compound) d s e vs → Kinds i d vs
other_compound_rule k i d s e vs (inl a) = a.1.claim
other_compound_rule k i d s e vs (inr (t, inl a)) = a.1.claim
other_compound_rule k i d s e vs (inr (t, inr (u, inl a))) = a.1.claim
other_compound_rule k i d s e vs (inr (t, inr (u, inr a))) = a.1.claim

pub group_rule : (k : Known) (i : Bool) (d : ℕ) (s e : State) (vs : List Node) → Sat k (Fine k i) (Says i) (body table.group) d s e vs → Kinds i d (act table.group vs)
group_rule k i d s e vs a =
    let b = a.rest in let g = b.rest in let o = g.before.claim in
    let ends : g.others ≡ [] = skip g.rest.is (nothing_said (table.key tokens.CloseBrace) refl g.rest.before) ∙ nothing_said table.leave refl g.rest.rest in
    let is : vs ≡ script_node o.one ∷ [] = skip a.is (nothing_said (table.key tokens.OpenBrace) refl a.before) ∙ (skip b.is (nothing_said table.enter refl b.before) ∙ (stop g.is ends ∙ o.is)) in
    record { one = shape.group o.one; is = ap (λ (z : List Node). kind_node (shape.group (script_in z)) ∷ []) is; fits = (refl, λ r. rw (enters b.before, o.fits.0, o.fits.1) refl) }

pub subshell_rule : (k : Known) (i : Bool) (d : ℕ) (s e : State) (vs : List Node) → Sat k (Fine k i) (Says i) (body table.subshell) d s e vs → Kinds i d (act table.subshell vs)
subshell_rule k i d s e vs a =
    let b = a.rest in let g = b.rest in let o = g.before.claim in
    let ends : g.others ≡ [] = skip g.rest.is (nothing_said (table.op tokens.Close) refl g.rest.before) ∙ nothing_said table.leave refl g.rest.rest in
    let is : vs ≡ script_node o.one ∷ [] = skip a.is (nothing_said (table.op tokens.Open) refl a.before) ∙ (skip b.is (nothing_said table.enter refl b.before) ∙ (stop g.is ends ∙ o.is)) in
    record { one = shape.subshell o.one; is = ap (λ (z : List Node). kind_node (shape.subshell (script_in z)) ∷ []) is; fits = (refl, λ r. rw (enters b.before, o.fits.0, o.fits.1) refl) }

-- ---- if

-- a branch or what stands behind `else`
abbrev is_if : Bool → ℕ → Node → Bool
is_if i d (branch_node t b) = branches_fit i d (branch t b no_branch)
is_if i d (else_node x) = otherwise_fits i d (shape.otherwise x)
is_if i d x = false

branch_is_if : (i : Bool) (d : ℕ) (x : Node) → is_branch i d x ≡ true → is_if i d x ≡ true
branch_is_if i d (branch_node t b) e = e
branch_is_if i d x e = absurd (false≢true e)

and_true : (a b c : Bool) → (a && true) ≡ true → c ≡ true → (a && c) ≡ true
and_true true b c e h = h
and_true false b c e h = absurd (false≢true e)

branches_if : (i : Bool) (d : ℕ) (xs : List Node) → list_all (is_if i d) xs ≡ true → branches_fit i d (branches_in xs) ≡ true
branches_if i d [] e = refl
branches_if i d (branch_node t b ∷ xs) e =
    let x = both (branches_fit i d (branch t b no_branch)) (list_all (is_if i d) xs) e in
    and_true (has_chain t && list_fits i d t && has_chain b && list_fits i d b) true (branches_fit i d (branches_in xs)) x.0 (branches_if i d xs x.1)
branches_if i d (else_node z ∷ xs) e = branches_if i d xs (both (otherwise_fits i d (shape.otherwise z)) (list_all (is_if i d) xs) e).1
branches_if i d (x ∷ xs) e = absurd (false≢true e)

else_if : (i : Bool) (d : ℕ) (xs : List Node) → list_all (is_if i d) xs ≡ true → otherwise_fits i d (else_in xs) ≡ true
else_if i d [] e = refl
else_if i d (branch_node t b ∷ xs) e = else_if i d xs (both (branches_fit i d (branch t b no_branch)) (list_all (is_if i d) xs) e).1
else_if i d (else_node z ∷ xs) e = (both (otherwise_fits i d (shape.otherwise z)) (list_all (is_if i d) xs) e).0
else_if i d (x ∷ xs) e = absurd (false≢true e)

branch_each : (i : Bool) (d : ℕ) (vs : List Node) → OneNode (is_branch i d) vs → list_all (is_if i d) vs ≡ true
branch_each i d vs o = each_is (is_if i d) o.is (rw (branch_is_if i d o.one o.fits) refl)

is_first_branch : (i : Bool) (d : ℕ) (x : Node) (xs : List Node) → is_branch i d x ≡ true → has_branch (branches_in (x ∷ xs)) ≡ true
is_first_branch i d (branch_node t b) xs e = refl
is_first_branch i d x xs e = absurd (false≢true e)

maybe_else : (k : Known) (i : Bool) (d : ℕ) (s e : State) (vs : List Node) → Sat k (Fine k i) (Says i) (choose (table.key_next tokens.Else) (rule table.else_part) pass) d s e vs → list_all (is_if i d) vs ≡ true
maybe_else k i d s e vs (inl a) = let o = a.1.claim in each_is (is_if i d) o.is (rw o.fits refl)
maybe_else k i d s e vs (inr a) = each_is (is_if i d) a.1.1 refl

pub if_rule : (k : Known) (i : Bool) (d : ℕ) (s e : State) (vs : List Node) → Sat k (Fine k i) (Says i) (body table.if_command) d s e vs → Kinds i d (act table.if_command vs)
if_rule k i d s e vs a =
    let b = a.rest in let g = b.rest in let h = g.rest in let j = h.rest in
    let o = g.before.claim in
    let t = turns_all (Fine k i) (table.key_next tokens.Elif) (Ruled (Fine k i) (Says i table.elif_branch) (suc d)) (is_if i (suc d)) (λ s e ws r. branch_each i (suc d) ws r.claim) h.before.0 g.middle h.middle h.ones h.before.1 in
    let ends : j.others ≡ [] = skip j.rest.is (nothing_said (table.key tokens.Fi) refl j.rest.before) ∙ nothing_said table.leave refl j.rest.rest in
    let last = each_is (is_if i (suc d)) (stop j.is ends) (maybe_else k i (suc d) h.middle j.middle j.ones j.before) in
    let later = each_is (is_if i (suc d)) h.is (each_of (is_if i (suc d)) h.ones h.others t last) in
    let is : vs ≡ o.one ∷ g.others = skip a.is (nothing_said (table.key tokens.If) refl a.before) ∙ (skip b.is (nothing_said table.enter refl b.before) ∙ (g.is ∙ ap (λ (z : List Node). z ++ g.others) o.is)) in
    let all : list_all (is_if i (suc d)) vs ≡ true = each_is (is_if i (suc d)) is (rw (branch_is_if i (suc d) o.one o.fits) later) in
    let first : has_branch (branches_in vs) ≡ true = subst (λ (z : List Node). has_branch (branches_in z) ≡ true) (sym is) (is_first_branch i (suc d) o.one g.others o.fits) in
    record { one = shape.branching (branches_in vs) (else_in vs); is = refl; fits = (refl, λ r. rw (enters b.before, first, branches_if i (suc d) vs all, else_if i (suc d) vs all) refl) }

pub if_branch_rule : (k : Known) (i : Bool) (d : ℕ) (s e : State) (vs : List Node) → Sat k (Fine k i) (Says i) (body table.if_branch) d s e vs → OneNode (is_branch i d) (act table.if_branch vs)
if_branch_rule k i d s e vs a =
    let b = a.rest in let o = a.before.claim in let p = b.rest.claim in
    let is : vs ≡ script_node o.one ∷ script_node p.one ∷ [] =
    a.is ∙ (ap (λ (z : List Node). z ++ a.others) o.is ∙ ap (λ (z : List Node). script_node o.one ∷ z) (skip b.is (nothing_said (table.key tokens.Then) refl b.before) ∙ p.is)) in
    record { one = branch_node o.one p.one; is = ap (λ (z : List Node). branch_node (script_in z) (second_script_in z) ∷ []) is; fits = rw (o.fits.0, o.fits.1, p.fits.0, p.fits.1) refl }

pub elif_rule : (k : Known) (i : Bool) (d : ℕ) (s e : State) (vs : List Node) → Sat k (Fine k i) (Says i) (body table.elif_branch) d s e vs → OneNode (is_branch i d) vs
elif_rule k i d s e vs a =
    let o = a.rest.claim in record { one = o.one; is = skip a.is (nothing_said (table.key tokens.Elif) refl a.before) ∙ o.is; fits = o.fits }

pub else_rule : (k : Known) (i : Bool) (d : ℕ) (s e : State) (vs : List Node) → Sat k (Fine k i) (Says i) (body table.else_part) d s e vs → Says i table.else_part d s e (act table.else_part vs)
else_rule k i d s e vs a =
    let o = a.rest.claim in
    record { one = o.one; is = ap (λ (z : List Node). else_node (script_in z) ∷ []) (skip a.is (nothing_said (table.key tokens.Else) refl a.before) ∙ o.is); fits = rw (o.fits.0, o.fits.1) refl }

-- ---- loops

pub do_body_rule : (k : Known) (i : Bool) (d : ℕ) (s e : State) (vs : List Node) → Sat k (Fine k i) (Says i) (body table.do_body) d s e vs → Listed i d vs
do_body_rule k i d s e vs a =
    let b = a.rest in let o = b.before.claim in
    record { one = o.one; is = skip a.is (nothing_said (table.key tokens.Do) refl a.before) ∙ (stop b.is (nothing_said (table.key tokens.Done) refl b.rest) ∙ o.is); fits = o.fits }

loop_fits : (i : Bool) (d : ℕ) (until : Bool) (vs ones others ends : List Node) (o : Listed i (suc d) ones) (p : Listed i (suc d) others) → nat_lt d limit ≡ true → vs ≡ ones ++ (others ++ ends) → ends ≡ [] → Kinds i d (kind_node (shape.loop until (script_in vs) (second_script_in vs)) ∷ [])
loop_fits i d until vs ones others ends o p l h e =
    let is : vs ≡ script_node o.one ∷ script_node p.one ∷ [] =
    h ∙ (ap (λ (z : List Node). z ++ (others ++ ends)) o.is ∙ ap (λ (z : List Node). script_node o.one ∷ z) (stop refl e ∙ p.is)) in
    record { one = shape.loop until o.one p.one; is = ap (λ (z : List Node). kind_node (shape.loop until (script_in z) (second_script_in z)) ∷ []) is; fits = (refl, λ r. rw (l, o.fits.0, o.fits.1, p.fits.0, p.fits.1) refl) }

pub while_rule : (k : Known) (i : Bool) (d : ℕ) (s e : State) (vs : List Node) → Sat k (Fine k i) (Says i) (body table.while_loop) d s e vs → Kinds i d (act table.while_loop vs)
while_rule k i d s e vs a =
    let b = a.rest in let g = b.rest in let h = g.rest in
    loop_fits i d false vs g.ones h.ones h.others g.before.claim h.before.claim (enters b.before)
    (skip a.is (nothing_said (table.key tokens.While) refl a.before) ∙ (skip b.is (nothing_said table.enter refl b.before) ∙ (g.is ∙ ap (λ (z : List Node). g.ones ++ z) h.is))) (nothing_said table.leave refl h.rest)

pub until_rule : (k : Known) (i : Bool) (d : ℕ) (s e : State) (vs : List Node) → Sat k (Fine k i) (Says i) (body table.until_loop) d s e vs → Kinds i d (act table.until_loop vs)
until_rule k i d s e vs a =
    let b = a.rest in let g = b.rest in let h = g.rest in
    loop_fits i d true vs g.ones h.ones h.others g.before.claim h.before.claim (enters b.before)
    (skip a.is (nothing_said (table.key tokens.Until) refl a.before) ∙ (skip b.is (nothing_said table.enter refl b.before) ∙ (g.is ∙ ap (λ (z : List Node). g.ones ++ z) h.is))) (nothing_said table.leave refl h.rest)

-- ---- names

name_taken : (t : Text) → If (λ (x : Text × Text). NameIn t x) (name_at t)
unfolding name_at
name_taken [] = tt
name_taken (b ∷ bs) = chosen_by (If (λ (x : Text × Text). NameIn (b ∷ bs) x)) (begins_name b) _ _ (λ e. name_of b bs e) (λ e. tt)

-- a name, and what follows it
pub record Named (s e : State) (vs : List Node) : Type 0 where
  pub name : Text
  pub is : vs ≡ text_node name ∷ []
  pub fits : is_name name ≡ true
  pub run : name_at (gap s.bytes) ≡ Some (name, e.bytes)

named_at : (s : State) (t : Text) (o : Option (Text × Text)) → name_at (gap s.bytes) ≡ o → If (λ (x : Text × Text). NameIn t x) o →
    If (λ (x : Leaf Node × State). Named s x.1 (leaf_kids x.0)) (o >>= λ x. Rattle.std.specs.Prelude.if◌then◌else◌ (unit_starts in_word x.1) None (Rattle.sh_grammar.specs.Steps.gives (text_node x.0) s x.1))
named_at s t None h f = tt
named_at s t (Some x) h f =
    chosen_by (If (λ (x : Leaf Node × State). Named s x.1 (leaf_kids x.0))) (unit_starts in_word x.1) _ _ (λ e. tt) (λ e. record { name = x.0; is = refl; fits = f.is; run = h })

pub named : {k : Known} {F : State → Type 0} {d : ℕ} {s e : State} {vs : List Node} → Stepped k F table.name d s e vs → Named s e vs
unfolding run_step
named {s = s} st = by_step (Named s) (named_at s (gap s.bytes) (name_at (gap s.bytes)) refl (name_taken (gap s.bytes))) st

-- ---- for

-- words to walk over, before a script
listed_before : (i : Bool) (d : ℕ) (xs : List Node) (x : shape.Script) → list_all (is_listed i d) xs ≡ true → for_words_fit i d (listed_in (xs ++ script_node x ∷ [])) ≡ true
listed_before i d [] x e = refl
listed_before i d (listed_node ws ∷ xs) x e = (both (for_words_fit i d ws) (list_all (is_listed i d) xs) e).0
listed_before i d (y ∷ xs) x e = absurd (false≢true e)

script_behind : (i : Bool) (d : ℕ) (xs ys : List Node) → list_all (is_listed i d) xs ≡ true → script_in (xs ++ ys) ≡ script_in ys
script_behind i d [] ys e = refl
script_behind i d (listed_node ws ∷ xs) ys e = script_behind i d xs ys (both (for_words_fit i d ws) (list_all (is_listed i d) xs) e).1
script_behind i d (y ∷ xs) ys e = absurd (false≢true e)

pub for_rule : (k : Known) (i : Bool) (d : ℕ) (s e : State) (vs : List Node) → Sat k (Fine k i) (Says i) (body table.for_loop) d s e vs → Kinds i d (act table.for_loop vs)
for_rule k i d s e vs a =
    let b = a.rest in let g = b.rest in let h = g.rest in let j = h.rest in
    let n = named b.before in let o = j.before.claim in
    let is : vs ≡ text_node n.name ∷ (h.ones ++ script_node o.one ∷ []) =
    skip a.is (nothing_said (table.key tokens.For) refl a.before) ∙ (b.is ∙ (ap (λ (z : List Node). z ++ b.others) n.is ∙ ap (λ (z : List Node). text_node n.name ∷ z)
    (skip g.is (nothing_said table.enter refl g.before) ∙ (h.is ∙ ap (λ (z : List Node). h.ones ++ z) (stop j.is (nothing_said table.leave refl j.rest) ∙ o.is))))) in
    let body : script_in (h.ones ++ script_node o.one ∷ []) ≡ o.one = script_behind i (suc d) h.ones (script_node o.one ∷ []) h.before.claim in
    record {
      one = shape.walk n.name (listed_in (h.ones ++ script_node o.one ∷ [])) (script_in (h.ones ++ script_node o.one ∷ []));
      is = ap (λ (z : List Node). kind_node (shape.walk (text_in z) (listed_in z) (script_in z)) ∷ []) is;
      fits = (
        refl,
        λ r. subst (λ (z : shape.Script). kind_fits i d r (shape.walk n.name (listed_in (h.ones ++ script_node o.one ∷ [])) z) ≡ true) (sym body)
            (rw (enters g.before, n.fits, listed_before i (suc d) h.ones o.one h.before.claim, o.fits.0, o.fits.1) refl),
      );
    }

maybe_in : (k : Known) (i : Bool) (d : ℕ) (s e : State) (vs : List Node) → Sat k (Fine k i) (Says i) (choose (table.key_next tokens.In) (rule table.for_in) pass) d s e vs → list_all (is_listed i d) vs ≡ true
maybe_in k i d s e vs (inl a) = a.1.claim
maybe_in k i d s e vs (inr a) = each_is (is_listed i d) a.1.1 refl

pub for_words_rule : (k : Known) (i : Bool) (d : ℕ) (s e : State) (vs : List Node) → Sat k (Fine k i) (Says i) (body table.for_words) d s e vs → list_all (is_listed i d) vs ≡ true
for_words_rule k i d s e vs (inl a) = let b = a.1 in each_is (is_listed i d) (skip b.is (nothing_said (table.op tokens.Semi) refl b.before) ∙ b.rest.claim) refl
for_words_rule k i d s e vs (inr a) = let b = a.1 in each_is (is_listed i d) (skip b.is b.before.claim) (maybe_in k i d b.middle e b.others b.rest)

semi_or_line : (k : Known) (i : Bool) (d : ℕ) (s e : State) (vs : List Node) → Sat k (Fine k i) (Says i) (choose (table.next tokens.Semi) (step (table.op tokens.Semi)) (step table.line)) d s e vs → vs ≡ []
semi_or_line k i d s e vs (inl a) = nothing_said (table.op tokens.Semi) refl a.1
semi_or_line k i d s e vs (inr a) = nothing_said table.line refl a.1

pub word_each : (i : Bool) (d : ℕ) (t : Text) (vs : List Node) → One word_node (WordOk i d t) vs → list_all (is_word i d) vs ≡ true
word_each i d t vs o = each_is (is_word i d) o.is (rw o.fits.0 refl)

pub for_in_rule : (k : Known) (i : Bool) (d : ℕ) (s e : State) (vs : List Node) → Sat k (Fine k i) (Says i) (body table.for_in) d s e vs → list_all (is_listed i d) (act table.for_in vs) ≡ true
for_in_rule k i d s e vs a =
    let b = a.rest in let g = b.rest in
    let t = turns_all (Fine k i) (table.next tokens.Word) (Ruled (Fine k i) (Says i table.word) d) (is_word i d) (λ s e ws r. word_each i d s.bytes ws r.claim) b.before.0 a.middle b.middle b.ones b.before.1 in
    let ends : b.others ≡ [] = skip g.is (semi_or_line k i d b.middle g.middle g.ones g.before) ∙ g.rest.claim in
    let is : vs ≡ b.ones = skip a.is (nothing_said (table.key tokens.In) refl a.before) ∙ stop b.is ends in
    rw (words_of i d vs (each_is (is_word i d) is t)) refl

-- ---- case

pub case_rule : (k : Known) (i : Bool) (d : ℕ) (s e : State) (vs : List Node) → Sat k (Fine k i) (Says i) (body table.case_command) d s e vs → Kinds i d (act table.case_command vs)
case_rule k i d s e vs a =
    let b = a.rest in let g = b.rest in let h = g.rest in let j = h.rest in
    let w = g.before.claim in
    let is : vs ≡ word_node w.one ∷ j.ones =
    skip a.is (nothing_said (table.key tokens.Case) refl a.before) ∙ (skip b.is (nothing_said table.enter refl b.before) ∙ (g.is ∙ (ap (λ (z : List Node). z ++ g.others) w.is ∙ ap (λ (z : List Node). word_node w.one ∷ z)
    (skip h.is h.before.claim ∙ stop j.is (nothing_said table.leave refl j.rest))))) in
    record {
      one = shape.cases w.one (items_in j.ones);
      is = ap (λ (z : List Node). kind_node (shape.cases (word_in z) (items_in z)) ∷ []) is;
      fits = (refl, λ r. rw (enters b.before, w.fits.0, items_of i (suc d) j.ones j.before.claim) refl);
    }

pub case_in_rule : (k : Known) (i : Bool) (d : ℕ) (s e : State) (vs : List Node) → Sat k (Fine k i) (Says i) (body table.case_in) d s e vs → list_all (is_item i d) vs ≡ true
case_in_rule k i d s e vs a =
    let b = a.rest in let g = b.rest in
    let t = turns_all (Fine k i) table.item_begins (Ruled (Fine k i) (Says i table.case_item) d) (is_item i d) (λ s e ws r. r.claim) g.before.0 b.middle g.middle g.ones g.before.1 in
    each_is (is_item i d) (skip a.is (nothing_said (table.key tokens.In) refl a.before) ∙ (skip b.is b.before.claim ∙ stop g.is (nothing_said (table.key tokens.Esac) refl g.rest))) t

pattern_each : (i : Bool) (d : ℕ) (vs : List Node) → OneNode (is_pattern i d) vs → list_all (is_pattern i d) vs ≡ true
pattern_each i d vs o = node_each (is_pattern i d) vs o

patterns_before : (i : Bool) (d : ℕ) (xs : List Node) (x : shape.Script) → list_all (is_pattern i d) xs ≡ true → patterns_fit i d (words_in (xs ++ script_node x ∷ [])) ≡ true
patterns_before i d [] x e = refl
patterns_before i d (word_node w ∷ xs) x e =
    let y = both (patterns_fit i d (word w no_word)) (list_all (is_pattern i d) xs) e in
    and_true (has_part w && not (Rattle.sh_printing.specs.Printable.plain_begins 35 w) && Rattle.sh_printing.specs.Printable.parts_fit i d in_word w) true (patterns_fit i d (words_in (xs ++ script_node x ∷ []))) y.0 (patterns_before i d xs x y.1)
patterns_before i d (y ∷ xs) x e = absurd (false≢true e)

script_of_item : (i : Bool) (d : ℕ) (xs ys : List Node) → list_all (is_pattern i d) xs ≡ true → script_in (xs ++ ys) ≡ script_in ys
script_of_item i d [] ys e = refl
script_of_item i d (word_node w ∷ xs) ys e = script_of_item i d xs ys (both (patterns_fit i d (word w no_word)) (list_all (is_pattern i d) xs) e).1
script_of_item i d (y ∷ xs) ys e = absurd (false≢true e)

first_pattern : (i : Bool) (d : ℕ) (x : Node) (xs : List Node) → is_pattern i d x ≡ true → has_word (words_in (x ∷ xs)) ≡ true
first_pattern i d (word_node w) xs e = refl
first_pattern i d x xs e = absurd (false≢true e)

maybe_open : (k : Known) (i : Bool) (d : ℕ) (s e : State) (vs : List Node) → Sat k (Fine k i) (Says i) (choose (table.next tokens.Open) (step (table.op tokens.Open)) pass) d s e vs → vs ≡ []
maybe_open k i d s e vs (inl a) = nothing_said (table.op tokens.Open) refl a.1
maybe_open k i d s e vs (inr a) = a.1.1

-- patterns, and a script behind them
item_fits : (i : Bool) (d : ℕ) (vs ones others : List Node) (x : shape.Script) → OneNode (is_pattern i d) ones → list_all (is_pattern i d) others ≡ true → list_fits i d x ≡ true → vs ≡ ones ++ (others ++ script_node x ∷ []) →
    list_all (is_item i d) (item_node (words_in vs) (script_in vs) ∷ []) ≡ true
item_fits i d vs ones others x o p l h =
    let ws = o.one ∷ others in
    let all : list_all (is_pattern i d) ws ≡ true = rw (o.fits, p) refl in
    let is : vs ≡ ws ++ script_node x ∷ [] = h ∙ ap (λ (z : List Node). z ++ (others ++ script_node x ∷ [])) o.is in
    each_is (is_item i d) (ap (λ (z : List Node). item_node (words_in z) (script_in z) ∷ []) is)
    (subst (λ (z : shape.Script). list_all (is_item i d) (item_node (words_in (ws ++ script_node x ∷ [])) z ∷ []) ≡ true) (sym (script_of_item i d ws (script_node x ∷ []) all))
    (rw (first_pattern i d o.one (others ++ script_node x ∷ []) o.fits, patterns_before i d ws x all, l) refl))

pub case_item_rule : (k : Known) (i : Bool) (d : ℕ) (s e : State) (vs : List Node) → Sat k (Fine k i) (Says i) (body table.case_item) d s e vs → list_all (is_item i d) (act table.case_item vs) ≡ true
case_item_rule k i d s e vs a =
    let b = a.rest in let g = b.rest in let h = g.rest in let j = h.rest in
    let t = turns_all (Fine k i) (table.next tokens.Pipe) (Ruled (Fine k i) (Says i table.pattern_more) d) (is_pattern i d) (λ s e ws r. r.claim) g.before.0 b.middle g.middle g.ones g.before.1 in
    let o = j.before.claim in
    item_fits i d vs b.ones g.ones o.one b.before.claim t o.fits
    (skip a.is (maybe_open k i d s a.middle a.ones a.before) ∙ (b.is ∙ ap (λ (z : List Node). b.ones ++ z) (g.is ∙ ap (λ (z : List Node). g.ones ++ z) (skip h.is (nothing_said (table.op tokens.Close) refl h.before) ∙ (stop j.is j.rest.claim ∙ o.is)))))

pub pattern_more_rule : (k : Known) (i : Bool) (d : ℕ) (s e : State) (vs : List Node) → Sat k (Fine k i) (Says i) (body table.pattern_more) d s e vs → list_all (is_pattern i d) vs ≡ true
pattern_more_rule k i d s e vs a = each_is (is_pattern i d) (skip a.is (nothing_said (table.op tokens.Pipe) refl a.before)) (pattern_each i d a.others a.rest.claim)

pub item_end_rule : (k : Known) (i : Bool) (d : ℕ) (s e : State) (vs : List Node) → Sat k (Fine k i) (Says i) (body table.item_end) d s e vs → vs ≡ []
item_end_rule k i d s e vs (inl a) = let b = a.1 in skip b.is (nothing_said (table.op tokens.SemiSemi) refl b.before) ∙ b.rest.claim
item_end_rule k i d s e vs (inr (t, inl a)) = a.1.1
item_end_rule k i d s e vs (inr (t, inr a)) = absurd a.1

-- Lists, pipelines and compound commands that were read fit.
use Rattle.std.proofs.Common.{◌≡◌, ℕ, zero, suc, Bool, true, List, [], ◌∷◌, ◌++◌, inl, inr, refl, sym, ap, subst, ◌∙◌}
use Rattle.std.specs.Prelude.{◌&&◌}
use Rattle.std.specs.List.{list_all}
use Rattle.sh_grammar.specs.Shape as shape
use Rattle.sh_grammar.specs.Shape.{no_word, word, no_stage, stage, no_branch, branch, no_item, item, parameters}
use Rattle.sh_grammar.specs.Tokens as tokens
use Rattle.sh_grammar.specs.State.{State, Node, pipeline_node, and_node, or_node, chain_node, stages_in, links_in, chains_in, has_bang, pipeline_in}
use Rattle.sh_grammar.specs.Steps.{Known, holds}
use Rattle.sh_grammar.specs.Table.{Test, Rule, body}
use Rattle.sh_grammar.specs.Table as table
use Rattle.sh_grammar.specs.Acts.{act}
use Rattle.sh_printing.specs.Printable.{has_chain, has_stage, stages_fit, chain_fits}
use Rattle.sh_printing.proofs.ExactRules.{Stepped, Turns, Ruled, Sat}
use Rattle.sh_printing.proofs.ExactStates.{Fine}
use Rattle.sh_printing.proofs.ExactSteps.{nothing_said, skip, stop}
use Rattle.sh_printing.proofs.ExactNodes.{each_of, is_chain, is_link, is_stage, chains_fit, links_of, stages_of}
use Rattle.sh_printing.proofs.ExactClaims.{One, OneNode, Says}

-- ---- turns

pub turns_all : (F : State → Type 0) (p : Test) (turn : State → State → List Node → Type 0) (test : Node → Bool) → ((s e : State) (ws : List Node) → turn s e ws → list_all test ws ≡ true) →
    (n : ℕ) (s e : State) (vs : List Node) → Turns F p turn n s e vs → list_all test vs ≡ true
turns_all F p turn test h zero s e vs t = subst (λ (z : List Node). list_all test z ≡ true) (sym t.2) refl
turns_all F p turn test h (suc n) s e vs t =
    let b = t.1 in
    subst (λ (z : List Node). list_all test z ≡ true) (sym b.is) (each_of test b.ones b.others (h s b.middle b.ones b.before) (turns_all F p turn test h n b.middle e b.others b.rest))

turns_nothing : (F : State → Type 0) (p : Test) (turn : State → State → List Node → Type 0) → ((s e : State) (ws : List Node) → turn s e ws → ws ≡ []) →
    (n : ℕ) (s e : State) (vs : List Node) → Turns F p turn n s e vs → vs ≡ []
turns_nothing F p turn h zero s e vs t = t.2
turns_nothing F p turn h (suc n) s e vs t = let b = t.1 in skip b.is (h s b.middle b.ones b.before) ∙ turns_nothing F p turn h n b.middle e b.others b.rest

-- values by a test, from what they are
pub each_is : (test : Node → Bool) {vs ws : List Node} → vs ≡ ws → list_all test ws ≡ true → list_all test vs ≡ true
each_is test h e = subst (λ (z : List Node). list_all test z ≡ true) (sym h) e

one_each : (test : Node → Bool) (x : Node) → test x ≡ true → list_all test (x ∷ []) ≡ true
one_each test x e = rw e refl

pub node_each : (test : Node → Bool) (vs : List Node) → OneNode test vs → list_all test vs ≡ true
node_each test vs o = each_is test o.is (one_each test o.one o.fits)

-- ---- lines

pub lines_rule : (k : Known) (i : Bool) (d : ℕ) (s e : State) (vs : List Node) → Sat k (Fine k i) (Says i) (body table.lines) d s e vs → vs ≡ []
lines_rule k i d s e vs a = turns_nothing (Fine k i) (table.next tokens.Newline) (Stepped k (Fine k i) table.line d) (λ s e ws st. nothing_said table.line refl st) a.0 s e vs a.1

-- ---- chains

chain_each : (i : Bool) (d : ℕ) (vs : List Node) → One chain_node (λ c. chain_fits i d c ≡ true) vs → list_all (is_chain i d) vs ≡ true
chain_each i d vs o = each_is (is_chain i d) o.is (rw o.fits refl)

pub complete_more_rule : (k : Known) (i : Bool) (d : ℕ) (s e : State) (vs : List Node) → Sat k (Fine k i) (Says i) (body table.complete_more) d s e vs → list_all (is_chain i d) vs ≡ true
complete_more_rule k i d s e vs a = each_is (is_chain i d) (skip a.is (nothing_said (table.op tokens.Semi) refl a.before)) (chain_each i d a.others a.rest.claim)

-- a chain, and those behind it
chains_rule : (i : Bool) (d : ℕ) (ones others vs : List Node) → One chain_node (λ c. chain_fits i d c ≡ true) ones → list_all (is_chain i d) others ≡ true → vs ≡ ones ++ others → list_all (is_chain i d) vs ≡ true
chains_rule i d ones others vs o e h = each_is (is_chain i d) h (each_of (is_chain i d) ones others (chain_each i d ones o) e)

has_first_chain : (i : Bool) (d : ℕ) (ones others vs : List Node) → One chain_node (λ c. chain_fits i d c ≡ true) ones → vs ≡ ones ++ others → has_chain (chains_in vs) ≡ true
has_first_chain i d ones others vs o h = subst (λ (z : List Node). has_chain (chains_in z) ≡ true) (sym (h ∙ ap (λ (z : List Node). z ++ others) o.is)) refl

maybe_semi : (k : Known) (i : Bool) (d : ℕ) (s e : State) (vs : List Node) → Sat k (Fine k i) (Says i) (Rattle.text_grammar.specs.Grammar.choose (table.next tokens.Semi) (Rattle.text_grammar.specs.Grammar.step (table.op tokens.Semi)) Rattle.text_grammar.specs.Grammar.pass) d s e vs → vs ≡ []
maybe_semi k i d s e vs (inl a) = nothing_said (table.op tokens.Semi) refl a.1
maybe_semi k i d s e vs (inr a) = a.1.1

pub complete_rule : (k : Known) (i : Bool) (d : ℕ) (s e : State) (vs : List Node) → Sat k (Fine k i) (Says i) (body table.complete) d s e vs → list_all (is_chain i d) vs ≡ true
complete_rule k i d s e vs a =
    let b = a.rest in
    let t = turns_all (Fine k i) table.goes_on (Ruled (Fine k i) (Says i table.complete_more) d) (is_chain i d) (λ s e ws r. r.claim) b.before.0 a.middle b.middle b.ones b.before.1 in
    chains_rule i d a.ones a.others vs a.before.claim (each_is (is_chain i d) (stop b.is (maybe_semi k i d b.middle e b.others b.rest)) t) a.is

line_or_end : (k : Known) (i : Bool) (d : ℕ) (s e : State) (vs : List Node) → Sat k (Fine k i) (Says i) (Rattle.text_grammar.specs.Grammar.choose (table.next tokens.Newline) (Rattle.text_grammar.specs.Grammar.step table.line) (Rattle.text_grammar.specs.Grammar.step table.ends)) d s e vs → vs ≡ []
line_or_end k i d s e vs (inl a) = nothing_said table.line refl a.1
line_or_end k i d s e vs (inr a) = nothing_said table.ends refl a.1

pub piece_rule : (k : Known) (i : Bool) (d : ℕ) (s e : State) (vs : List Node) → Sat k (Fine k i) (Says i) (body table.piece) d s e vs → list_all (is_chain i d) vs ≡ true
piece_rule k i d s e vs (inl a) = each_is (is_chain i d) (nothing_said table.line refl a.1) refl
piece_rule k i d s e vs (inr a) = let b = a.1 in each_is (is_chain i d) (stop b.is (line_or_end k i d b.middle e b.others b.rest)) b.before.claim

pub line_piece_rule : (k : Known) (i : Bool) (d : ℕ) (s e : State) (vs : List Node) → Sat k (Fine k i) (Says i) (body table.line_piece) d s e vs → list_all (is_chain i d) vs ≡ true
line_piece_rule k i d s e vs (inl a) = each_is (is_chain i d) (nothing_said table.line refl a.1) refl
line_piece_rule k i d s e vs (inr a) = let b = a.1 in each_is (is_chain i d) (stop b.is (nothing_said table.line refl b.rest)) b.before.claim

pub list_rule : (k : Known) (i : Bool) (d : ℕ) (s e : State) (vs : List Node) → Sat k (Fine k i) (Says i) (body table.list) d s e vs → Says i table.list d s e (act table.list vs)
list_rule k i d s e vs a =
    let b = a.rest in
    let t = turns_all (Fine k i) table.separates (Ruled (Fine k i) (Says i table.list_more) d) (is_chain i d) (λ s e ws r. r.claim) b.rest.0 b.middle e b.others b.rest.1 in
    let is : vs ≡ b.ones ++ b.others = skip a.is a.before.claim ∙ b.is in
    record { one = chains_in vs; is = refl; fits = (has_first_chain i d b.ones b.others vs b.before.claim is, chains_fit i d vs (chains_rule i d b.ones b.others vs b.before.claim t is)) }

maybe_chains : (k : Known) (i : Bool) (d : ℕ) (s e : State) (vs : List Node) →
    Sat k (Fine k i) (Says i) (Rattle.text_grammar.specs.Grammar.choose table.pipeline_begins (Rattle.text_grammar.specs.Grammar.seq (Rattle.text_grammar.specs.Grammar.rule table.chain) (Rattle.text_grammar.specs.Grammar.star table.separates (Rattle.text_grammar.specs.Grammar.rule table.list_more))) Rattle.text_grammar.specs.Grammar.pass) d s e vs → list_all (is_chain i d) vs ≡ true
maybe_chains k i d s e vs (inl a) =
    let b = a.1 in
    chains_rule i d b.ones b.others vs b.before.claim (turns_all (Fine k i) table.separates (Ruled (Fine k i) (Says i table.list_more) d) (is_chain i d) (λ s e ws r. r.claim) b.rest.0 b.middle e b.others b.rest.1) b.is
maybe_chains k i d s e vs (inr a) = each_is (is_chain i d) a.1.1 refl

pub maybe_list_rule : (k : Known) (i : Bool) (d : ℕ) (s e : State) (vs : List Node) → Sat k (Fine k i) (Says i) (body table.maybe_list) d s e vs → Says i table.maybe_list d s e (act table.maybe_list vs)
maybe_list_rule k i d s e vs a = record { one = chains_in vs; is = refl; fits = chains_fit i d vs (each_is (is_chain i d) (skip a.is a.before.claim) (maybe_chains k i d a.middle e a.others a.rest)) }

semi_or_line : (k : Known) (i : Bool) (d : ℕ) (s e : State) (vs : List Node) → Sat k (Fine k i) (Says i) (Rattle.text_grammar.specs.Grammar.choose (table.next tokens.Semi) (Rattle.text_grammar.specs.Grammar.step (table.op tokens.Semi)) (Rattle.text_grammar.specs.Grammar.step table.line)) d s e vs → vs ≡ []
semi_or_line k i d s e vs (inl a) = nothing_said (table.op tokens.Semi) refl a.1
semi_or_line k i d s e vs (inr a) = nothing_said table.line refl a.1

maybe_chain : (k : Known) (i : Bool) (d : ℕ) (s e : State) (vs : List Node) →
    Sat k (Fine k i) (Says i) (Rattle.text_grammar.specs.Grammar.choose table.pipeline_begins (Rattle.text_grammar.specs.Grammar.rule table.chain) (Rattle.text_grammar.specs.Grammar.choose (table.next tokens.Semi) Rattle.text_grammar.specs.Grammar.fail Rattle.text_grammar.specs.Grammar.pass)) d s e vs → list_all (is_chain i d) vs ≡ true
maybe_chain k i d s e vs (inl a) = chain_each i d vs a.1.claim
maybe_chain k i d s e vs (inr (t, inl a)) = absurd a.1
maybe_chain k i d s e vs (inr (t, inr a)) = each_is (is_chain i d) a.1.1 refl

pub list_more_rule : (k : Known) (i : Bool) (d : ℕ) (s e : State) (vs : List Node) → Sat k (Fine k i) (Says i) (body table.list_more) d s e vs → list_all (is_chain i d) vs ≡ true
list_more_rule k i d s e vs a =
    let b = a.rest in
    each_is (is_chain i d) (skip a.is (semi_or_line k i d s a.middle a.ones a.before) ∙ skip b.is b.before.claim) (maybe_chain k i d b.middle e b.others b.rest)

-- ---- pipelines

pub chain_rule : (k : Known) (i : Bool) (d : ℕ) (s e : State) (vs : List Node) → Sat k (Fine k i) (Says i) (body table.chain) d s e vs → Says i table.chain d s e (act table.chain vs)
chain_rule k i d s e vs a =
    let p = a.before.claim in
    let t = turns_all (Fine k i) table.links (Ruled (Fine k i) (Says i table.link) d) (is_link i d) (λ s e ws r. r.claim) a.rest.0 a.middle e a.others a.rest.1 in
    let is : vs ≡ pipeline_node p.one ∷ a.others = a.is ∙ ap (λ (z : List Node). z ++ a.others) p.is in
    record { one = shape.chain p.one (links_in a.others); is = ap (λ (z : List Node). chain_node (shape.chain (pipeline_in z) (links_in z)) ∷ []) is; fits = rw (p.fits, links_of i d a.others t) refl }

pub link_rule : (k : Known) (i : Bool) (d : ℕ) (s e : State) (vs : List Node) → Sat k (Fine k i) (Says i) (body table.link) d s e vs → list_all (is_link i d) vs ≡ true
link_rule k i d s e vs (inl a) = a.1.claim
link_rule k i d s e vs (inr a) = a.1.claim

pub and_link_rule : (k : Known) (i : Bool) (d : ℕ) (s e : State) (vs : List Node) → Sat k (Fine k i) (Says i) (body table.and_link) d s e vs → list_all (is_link i d) (act table.and_link vs) ≡ true
and_link_rule k i d s e vs a =
    let b = a.rest in
    let p = b.rest.claim in
    each_is (is_link i d) (ap (λ (z : List Node). and_node (pipeline_in z) ∷ []) (skip a.is (nothing_said (table.op tokens.AndIf) refl a.before) ∙ (skip b.is b.before.claim ∙ p.is))) (rw p.fits refl)

pub or_link_rule : (k : Known) (i : Bool) (d : ℕ) (s e : State) (vs : List Node) → Sat k (Fine k i) (Says i) (body table.or_link) d s e vs → list_all (is_link i d) (act table.or_link vs) ≡ true
or_link_rule k i d s e vs a =
    let b = a.rest in
    let p = b.rest.claim in
    each_is (is_link i d) (ap (λ (z : List Node). or_node (pipeline_in z) ∷ []) (skip a.is (nothing_said (table.op tokens.OrIf) refl a.before) ∙ (skip b.is b.before.claim ∙ p.is))) (rw p.fits refl)

-- nothing or a `!`
bang_stages : (k : Known) (i : Bool) (d : ℕ) (s e : State) (vs ws : List Node) → Sat k (Fine k i) (Says i) (Rattle.text_grammar.specs.Grammar.choose (table.key_next tokens.Bang) (Rattle.text_grammar.specs.Grammar.rule table.bang) Rattle.text_grammar.specs.Grammar.pass) d s e vs → stages_in (vs ++ ws) ≡ stages_in ws
bang_stages k i d s e vs ws (inl a) = ap (λ (z : List Node). stages_in (z ++ ws)) a.1.claim
bang_stages k i d s e vs ws (inr a) = ap (λ (z : List Node). stages_in (z ++ ws)) a.1.1

pub pipeline_rule : (k : Known) (i : Bool) (d : ℕ) (s e : State) (vs : List Node) → Sat k (Fine k i) (Says i) (body table.pipeline) d s e vs → Says i table.pipeline d s e (act table.pipeline vs)
pipeline_rule k i d s e vs a =
    let b = a.rest in
    let c = b.before.claim in
    let t = turns_all (Fine k i) (table.next tokens.Pipe) (Ruled (Fine k i) (Says i table.stage) d) (is_stage i d) (λ s e ws r. r.claim) b.rest.0 b.middle e b.others b.rest.1 in
    let is : stages_in vs ≡ stage c.one (stages_in b.others) =
    ap stages_in a.is ∙ (bang_stages k i d s a.middle a.ones a.others a.before ∙ (ap stages_in b.is ∙ ap (λ (z : List Node). stages_in (z ++ b.others)) c.is)) in
    record {
      one = shape.pipeline (has_bang vs) (stages_in vs);
      is = refl;
      fits = subst (λ (z : shape.Stages). (has_stage z && stages_fit i d z) ≡ true) (sym is) (rw (c.fits, stages_of i d b.others t) refl);
    }

pub bang_rule : (k : Known) (i : Bool) (d : ℕ) (s e : State) (vs : List Node) → Sat k (Fine k i) (Says i) (body table.bang) d s e vs → Says i table.bang d s e (act table.bang vs)
bang_rule k i d s e vs a = refl

pub stage_rule : (k : Known) (i : Bool) (d : ℕ) (s e : State) (vs : List Node) → Sat k (Fine k i) (Says i) (body table.stage) d s e vs → list_all (is_stage i d) vs ≡ true
stage_rule k i d s e vs a =
    let b = a.rest in
    let c = b.rest.claim in
    each_is (is_stage i d) (skip a.is (nothing_said (table.op tokens.Pipe) refl a.before) ∙ (skip b.is b.before.claim ∙ c.is)) (rw c.fits refl)

pub command_rule : (k : Known) (i : Bool) (d : ℕ) (s e : State) (vs : List Node) → Sat k (Fine k i) (Says i) (body table.command) d s e vs → Says i table.command d s e vs
unfolding holds
command_rule k i d s e vs (inl a) = let c = a.1.claim in record { one = c.one; is = c.is; fits = c.fits.1 }
command_rule k i d s e vs (inr (t, inl a)) = a.1.claim a.0
command_rule k i d s e vs (inr (t, inr a)) = a.1.claim

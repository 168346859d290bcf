-- Pipelines, chains and lists read back, from the commands in them.
use Rattle.std.proofs.Common.{◌≡◌, ℕ, true, false, List, [], ◌∷◌, ◌++◌, refl, sym, ap, ◌∙◌, append_assoc}
use Rattle.std.specs.Prelude.{◌||◌}
use Rattle.std.proofs.lemmas.List.{append-nil}
use Rattle.text_grammar.specs.Grammar.{step, star, rule, choose}
use Rattle.sh_grammar.specs.Shape as shape
use Rattle.sh_grammar.specs.Bytes.{Text, gap}
use Rattle.sh_grammar.specs.Tokens.{Newline, Semi, AndIf, OrIf, Pipe, code, token, is_token, pipeline_next}
use Rattle.sh_grammar.specs.State.{State, Sum, Node, command_node, pipeline_node, and_node, or_node, chain_node}
use Rattle.sh_grammar.specs.Table.{Gram, op, line, next, separates, links, lines, list_more, chain, link, and_link, or_link, pipeline, stage, command}
use Rattle.sh_grammar.specs.Steps.{Known, holds}
use Rattle.sh_printing.specs.Marks as marks
use Rattle.sh_printing.specs.Marks.{End, piped, and_then, or_else, ended}
use Rattle.sh_printing.proofs.BackSays.{Says, nothing, ◌then◌, the_first, the_second, by_rule, no_more, one_more, to_state}
use Rattle.sh_printing.proofs.BackDue.{Due, Pending, settled, st, bodies_of, pending_text, Covers, covers_second}
use Rattle.sh_printing.proofs.BackBytes.{gap_blank, gap_is}
use Rattle.sh_printing.proofs.BackTokens.{test_is, op_says}
use Rattle.sh_printing.proofs.BackLines.{clean, Goes, line_says, no_lines, lines_say}
use Rattle.sh_printing.proofs.BackEnds.{any_end, marks_pipe, marks_link, piped_end, and_end, or_end, semi_end}
use Rattle.sh_printing.proofs.BackSimple.{carry_token}
use Rattle.sh_printing.proofs.BackCommands.{ListEnd}

-- these are owed, and these were found
abbrev pub due : List Pending → List Text → Due
due ps found = record { owing = ps; found = found }

-- From a state to what stands behind redirections or a command: what is owed then, and all bodies that were named.
pub record On (k : Known) (g : Gram) (d : ℕ) (q : List Sum) (s : State) (last : Text → Text) (t : Text) (xs : List Node) (all : List Text) : Type 0 where
  pub owing : List Pending
  pub found : List Text
  pub says : Says k g s (st d q (due owing found) (last (pending_text owing) ++ t)) xs
  pub is_all : found ++ bodies_of owing ≡ all

-- the state that is settled
pub settled_is : (d : ℕ) (q : List Sum) (ps : List Pending) (found all : List Text) (t : Text) → found ++ bodies_of ps ≡ all → st d q (settled (due ps found)) t ≡ st d q (clean all) t
settled_is d q ps found all t e = ap (λ (z : List Text). st d q (clean z) t) e

-- ---- what is known, along a list

pub covers_on : (k : Known) (f xs ys : List Text) → Covers k (clean f) (xs ++ ys) → Covers k (clean (f ++ xs)) ys
covers_on k f xs ys c = covers_second k (clean f) (clean (f ++ xs)) xs ys (append-nil (f ++ xs) ∙ ap (λ (z : List Text). z ++ xs) (sym (append-nil f))) c

-- ---- pipelines

-- `|` and what stands behind it, up to the next command
pub pipe_says : (k : Known) (d : ℕ) (q : List Sum) (ps : List Pending) (found all : List Text) (t : Text) → found ++ bodies_of ps ≡ all → is_token Newline t ≡ false →
    Goes k (Rattle.text_grammar.specs.Grammar.seq (step (op Pipe)) (rule lines)) (st d q (due ps found) (ended piped (pending_text ps) ++ t)) d q (clean all) t []
pipe_says k d q ps found all t e n =
    let l = lines_say k d q ps found t n in
    let x = piped_end (pending_text ps) t in
    record { ahead = l.ahead; same = l.same; says = op_says k Pipe d q (due ps found) (ended piped (pending_text ps) ++ t) (marks.gap (pending_text ps) ++ t) x.token_is then to_state (settled_is d q ps found all l.ahead e) l.says }

pub no_stages : (k : Known) (d : ℕ) (q : List Sum) (ps : List Pending) (found : List Text) (end : End) (t : Text) → marks_pipe end ≡ false →
    Says k (star (next Pipe) (rule stage)) (st d q (due ps found) (ended end (pending_text ps) ++ t)) (st d q (due ps found) (ended end (pending_text ps) ++ t)) []
unfolding holds
no_stages k d q ps found end t n = let x = any_end end (pending_text ps) t in no_more (test_is x.op Pipe (ended end (pending_text ps) ++ t) x.rest x.is.token_is ∙ x.no_pipe ∙ n)

-- what leads to a command, and the command
regroup_by : (k : Known) (g h i : Gram) (s m e : State) (xs : List Node) (t : Rattle.text_grammar.specs.Derivations.Tree Rattle.sh_grammar.specs.Table.Rule Node) →
    Rattle.text_grammar.specs.Derivations.At (Rattle.sh_grammar.specs.Spelling.knowing k) t (Rattle.text_grammar.specs.Grammar.seq g h) s m → Rattle.text_grammar.specs.Values.kids (Rattle.sh_grammar.specs.Spelling.knowing k) t ≡ [] → Says k i m e xs → Says k (Rattle.text_grammar.specs.Grammar.seq g (Rattle.text_grammar.specs.Grammar.seq h i)) s e xs
regroup_by k g h i s m e xs (Rattle.text_grammar.specs.Derivations.both t u) a n b =
    let l = Rattle.text_grammar.specs.Values.kids (Rattle.sh_grammar.specs.Spelling.knowing k) in
    record { tree = Rattle.text_grammar.specs.Derivations.both t (Rattle.text_grammar.specs.Derivations.both u b.tree); spelled = (a.0, a.1, (m, a.2, b.spelled)); says = sym (append_assoc (l t) (l u) (l b.tree)) ∙ ap (λ (z : List Node). z ++ l b.tree) n ∙ b.says }
regroup_by k g h i s m e xs t a n b = absurd a

regroup : (k : Known) (g h i : Gram) (s m e : State) (xs : List Node) → Says k (Rattle.text_grammar.specs.Grammar.seq g h) s m [] → Says k i m e xs → Says k (Rattle.text_grammar.specs.Grammar.seq g (Rattle.text_grammar.specs.Grammar.seq h i)) s e xs
regroup k g h i s m e xs a b = regroup_by k g h i s m e xs a.tree a.spelled a.says b

pub one_stage : (k : Known) (d : ℕ) (q : List Sum) (ps : List Pending) (found all : List Text) (t : Text) (m e : State) (c : shape.Command) (ys : List Node) →
    (l : Goes k (Rattle.text_grammar.specs.Grammar.seq (step (op Pipe)) (rule lines)) (st d q (due ps found) (ended piped (pending_text ps) ++ t)) d q (clean all) t []) →
    Says k (rule command) (st d q (clean all) l.ahead) m (command_node c ∷ []) → Says k (star (next Pipe) (rule stage)) m e ys → Says k (star (next Pipe) (rule stage)) (st d q (due ps found) (ended piped (pending_text ps) ++ t)) e (command_node c ∷ ys)
unfolding holds code
one_stage k d q ps found all t m e c ys l a b =
    one_more {xs = command_node c ∷ []} (test_is Pipe Pipe (ended piped (pending_text ps) ++ t) _ (piped_end (pending_text ps) t).token_is) (by_rule stage refl (regroup k (step (op Pipe)) (rule lines) (rule command) _ _ m (command_node c ∷ []) l.says a)) b

-- ---- chains

pub and_says : (k : Known) (d : ℕ) (q : List Sum) (ps : List Pending) (found all : List Text) (t : Text) → found ++ bodies_of ps ≡ all → is_token Newline t ≡ false →
    Goes k (Rattle.text_grammar.specs.Grammar.seq (step (op AndIf)) (rule lines)) (st d q (due ps found) (ended and_then (pending_text ps) ++ t)) d q (clean all) t []
and_says k d q ps found all t e n =
    let l = lines_say k d q ps found t n in
    let x = and_end (pending_text ps) t in
    record { ahead = l.ahead; same = l.same; says = op_says k AndIf d q (due ps found) (ended and_then (pending_text ps) ++ t) (marks.gap (pending_text ps) ++ t) x.token_is then to_state (settled_is d q ps found all l.ahead e) l.says }

pub or_says : (k : Known) (d : ℕ) (q : List Sum) (ps : List Pending) (found all : List Text) (t : Text) → found ++ bodies_of ps ≡ all → is_token Newline t ≡ false →
    Goes k (Rattle.text_grammar.specs.Grammar.seq (step (op OrIf)) (rule lines)) (st d q (due ps found) (ended or_else (pending_text ps) ++ t)) d q (clean all) t []
or_says k d q ps found all t e n =
    let l = lines_say k d q ps found t n in
    let x = or_end (pending_text ps) t in
    record { ahead = l.ahead; same = l.same; says = op_says k OrIf d q (due ps found) (ended or_else (pending_text ps) ++ t) (marks.gap (pending_text ps) ++ t) x.token_is then to_state (settled_is d q ps found all l.ahead e) l.says }

pub no_links : (k : Known) (d : ℕ) (q : List Sum) (ps : List Pending) (found : List Text) (end : End) (t : Text) → marks_link end ≡ false →
    Says k (star links (rule link)) (st d q (due ps found) (ended end (pending_text ps) ++ t)) (st d q (due ps found) (ended end (pending_text ps) ++ t)) []
unfolding holds
no_links k d q ps found end t n =
    let x = any_end end (pending_text ps) t in
    let v = ended end (pending_text ps) ++ t in
    no_more (rw (test_is x.op AndIf v x.rest x.is.token_is, test_is x.op OrIf v x.rest x.is.token_is) (x.no_link ∙ n))

pub one_and : (k : Known) (d : ℕ) (q : List Sum) (ps : List Pending) (found all : List Text) (t : Text) (m e : State) (p : shape.Pipeline) (ys : List Node) →
    (l : Goes k (Rattle.text_grammar.specs.Grammar.seq (step (op AndIf)) (rule lines)) (st d q (due ps found) (ended and_then (pending_text ps) ++ t)) d q (clean all) t []) →
    Says k (rule pipeline) (st d q (clean all) l.ahead) m (pipeline_node p ∷ []) → Says k (star links (rule link)) m e ys → Says k (star links (rule link)) (st d q (due ps found) (ended and_then (pending_text ps) ++ t)) e (and_node p ∷ ys)
unfolding holds code
one_and k d q ps found all t m e p ys l a b =
    let x = (and_end (pending_text ps) t).token_is in
    let v = ended and_then (pending_text ps) ++ t in
    one_more {xs = and_node p ∷ []} (rw (test_is AndIf AndIf v _ x) refl) (by_rule link refl (the_first (test_is AndIf AndIf v _ x) (by_rule and_link refl (regroup k (step (op AndIf)) (rule lines) (rule pipeline) _ _ m (pipeline_node p ∷ []) l.says a)))) b

pub one_or : (k : Known) (d : ℕ) (q : List Sum) (ps : List Pending) (found all : List Text) (t : Text) (m e : State) (p : shape.Pipeline) (ys : List Node) →
    (l : Goes k (Rattle.text_grammar.specs.Grammar.seq (step (op OrIf)) (rule lines)) (st d q (due ps found) (ended or_else (pending_text ps) ++ t)) d q (clean all) t []) →
    Says k (rule pipeline) (st d q (clean all) l.ahead) m (pipeline_node p ∷ []) → Says k (star links (rule link)) m e ys → Says k (star links (rule link)) (st d q (due ps found) (ended or_else (pending_text ps) ++ t)) e (or_node p ∷ ys)
unfolding holds code
one_or k d q ps found all t m e p ys l a b =
    let x = (or_end (pending_text ps) t).token_is in
    let v = ended or_else (pending_text ps) ++ t in
    one_more {xs = or_node p ∷ []} (rw (test_is OrIf AndIf v _ x, test_is OrIf OrIf v _ x) refl) (by_rule link refl (the_second (test_is OrIf AndIf v _ x) (by_rule or_link refl (regroup k (step (op OrIf)) (rule lines) (rule pipeline) _ _ m (pipeline_node p ∷ []) l.says a)))) b

-- ---- lists

-- `;`, or a newline with all that is owed
abbrev pub separator : Gram
separator = choose (next Semi) (step (op Semi)) (step line)

next_text_of : (a b c : Text) → ended marks.next (a ++ (b ++ 10 ∷ c)) ≡ 10 ∷ (a ++ (b ++ 10 ∷ c))
next_text_of [] [] c = refl
next_text_of [] (x ∷ b) c = refl
next_text_of (x ∷ a) b c = refl

next_text : (p : Pending) (ps : List Pending) → ended marks.next (pending_text (p ∷ ps)) ≡ 10 ∷ pending_text (p ∷ ps)
next_text p ps = next_text_of p.body p.owed.delimiter (pending_text ps)

newline_separator : (k : Known) (d : ℕ) (q : List Sum) (p : Pending) (ps : List Pending) (found all : List Text) (t : Text) → found ++ bodies_of (p ∷ ps) ≡ all →
    Goes k separator (st d q (due (p ∷ ps) found) (ended marks.next (pending_text (p ∷ ps)) ++ t)) d q (clean all) t []
unfolding holds code
newline_separator k d q p ps found all t e =
    let v = ended marks.next (pending_text (p ∷ ps)) ++ t in
    let i : v ≡ 10 ∷ (pending_text (p ∷ ps) ++ t) = ap (λ (z : Text). z ++ t) (next_text p ps) in
    let g : gap v ≡ 10 ∷ (pending_text (p ∷ ps) ++ t) = ap gap i ∙ gap_is 10 (pending_text (p ∷ ps) ++ t) refl in
    record { ahead = t; same = refl; says = to_state (settled_is d q (p ∷ ps) found all t e) (the_second (test_is Newline Semi v _ (Rattle.sh_printing.proofs.BackTokens.newline_token v _ g)) (line_says k d q (due (p ∷ ps) found) v t g)) }

newline_separates : (p : Pending) (ps : List Pending) (t : Text) → (is_token Semi (ended marks.next (pending_text (p ∷ ps)) ++ t) || is_token Newline (ended marks.next (pending_text (p ∷ ps)) ++ t)) ≡ true
unfolding code
newline_separates p ps t =
    let v = ended marks.next (pending_text (p ∷ ps)) ++ t in
    let i : v ≡ 10 ∷ (pending_text (p ∷ ps) ++ t) = ap (λ (z : Text). z ++ t) (next_text p ps) in
    let g : gap v ≡ 10 ∷ (pending_text (p ∷ ps) ++ t) = ap gap i ∙ gap_is 10 (pending_text (p ∷ ps) ++ t) refl in
    let x = Rattle.sh_printing.proofs.BackTokens.newline_token v _ g in
    rw (test_is Newline Semi v _ x, test_is Newline Newline v _ x) refl

pub separator_says : (k : Known) (d : ℕ) (q : List Sum) (ps : List Pending) (found all : List Text) (t : Text) → found ++ bodies_of ps ≡ all →
    Goes k separator (st d q (due ps found) (ended marks.next (pending_text ps) ++ t)) d q (clean all) t []
unfolding holds code
separator_says k d q [] found all t e =
    let x = (semi_end t).token_is in
    let v = ended marks.next [] ++ t in
    record { ahead = 32 ∷ t; same = gap_blank t; says = to_state (settled_is d q [] found all (32 ∷ t) e) (to_state (Rattle.sh_printing.proofs.BackLines.settled_clean d q found (32 ∷ t)) (the_first (test_is Semi Semi v _ x) (op_says k Semi d q (clean found) v (32 ∷ t) x))) }
separator_says k d q (p ∷ ps) found all t e = newline_separator k d q p ps found all t e

-- behind a list's commands
pub separates_at : (ps : List Pending) (t : Text) → (is_token Semi (ended marks.next (pending_text ps) ++ t) || is_token Newline (ended marks.next (pending_text ps) ++ t)) ≡ true
unfolding code
separates_at [] t = let x = (semi_end t).token_is in rw (test_is Semi Semi (ended marks.next [] ++ t) _ x) refl
separates_at (p ∷ ps) t = newline_separates p ps t

-- one more chain
pub more_says : (k : Known) (d : ℕ) (q : List Sum) (s : State) (all : List Text) (t : Text) (e : State) (c : shape.Chain) → (l : Goes k separator s d q (clean all) t []) → is_token Newline t ≡ false → pipeline_next l.ahead ≡ true →
    Says k (rule chain) (st d q (clean all) l.ahead) e (chain_node c ∷ []) → Says k (rule list_more) s e (chain_node c ∷ [])
unfolding holds
more_says k d q s all t e c l n p a = by_rule list_more refl (l.says then by_rule lines refl (no_lines k d q (clean all) l.ahead (carry_token Newline l.ahead t l.same ∙ n)) then the_first p a)

pub carry_pipeline : (t u : Text) → gap t ≡ gap u → pipeline_next t ≡ pipeline_next u
unfolding pipeline_next Rattle.sh_grammar.specs.Tokens.command_next Rattle.sh_grammar.specs.Tokens.compound_next Rattle.sh_grammar.specs.Tokens.simple_next Rattle.sh_grammar.specs.Tokens.name_next Rattle.sh_grammar.specs.Tokens.redirect_next Rattle.sh_grammar.specs.Tokens.here_next Rattle.sh_grammar.specs.Tokens.copy_next is_token token Rattle.sh_grammar.specs.Tokens.is_key
carry_pipeline t u e = rw e refl

-- none
pub last_says : (k : Known) (d : ℕ) (q : List Sum) (s : State) (all : List Text) (t : Text) → (l : Goes k separator s d q (clean all) t []) → ListEnd t → Says k (rule list_more) s (st d q (clean all) l.ahead) []
unfolding holds
last_says k d q s all t l f =
    by_rule list_more refl (l.says then by_rule lines refl (no_lines k d q (clean all) l.ahead (carry_token Newline l.ahead t l.same ∙ f.no_line)) then the_second (carry_pipeline l.ahead t l.same ∙ f.no_pipeline) (the_second (carry_token Semi l.ahead t l.same ∙ f.no_semi) (nothing k (st d q (clean all) l.ahead))))

pub no_separator : (k : Known) (d : ℕ) (q : List Sum) (g : Due) (ahead t : Text) → gap ahead ≡ gap t → ListEnd t → Says k (star separates (rule list_more)) (st d q g ahead) (st d q g ahead) []
unfolding holds
no_separator k d q g ahead t e f = no_more (rw (carry_token Semi ahead t e, carry_token Newline ahead t e, f.no_semi, f.no_line) refl)

-- the commands behind a list's first one
abbrev pub MoreTo : Known → ℕ → List Sum → State → List Text → Text → List Node → Type 0
MoreTo k d q s all t xs = Goes k (star separates (rule list_more)) s d q (clean all) t xs

pub end_of_list : (k : Known) (d : ℕ) (q : List Sum) (ps : List Pending) (found all : List Text) (t : Text) → found ++ bodies_of ps ≡ all → ListEnd t → MoreTo k d q (st d q (due ps found) (ended marks.next (pending_text ps) ++ t)) all t []
unfolding holds
end_of_list k d q ps found all t e f =
    let l = separator_says k d q ps found all t e in
    record { ahead = l.ahead; same = l.same; says = one_more {xs = []} (separates_at ps t) (last_says k d q _ all t l f) (no_separator k d q (clean all) l.ahead t l.same f) }

pub next_of_list : (k : Known) (d : ℕ) (q : List Sum) (ps : List Pending) (found all last : List Text) (t u : Text) (m : State) (c : shape.Chain) (ys : List Node) →
    (l : Goes k separator (st d q (due ps found) (ended marks.next (pending_text ps) ++ t)) d q (clean all) t []) → is_token Newline t ≡ false → pipeline_next l.ahead ≡ true →
    Says k (rule chain) (st d q (clean all) l.ahead) m (chain_node c ∷ []) → MoreTo k d q m last u ys → MoreTo k d q (st d q (due ps found) (ended marks.next (pending_text ps) ++ t)) last u (chain_node c ∷ ys)
unfolding holds
next_of_list k d q ps found all last t u m c ys l n p a b =
    record { ahead = b.ahead; same = b.same; says = one_more {xs = chain_node c ∷ []} (separates_at ps t) (more_says k d q _ all t m c l n p a) b.says }

-- What the induction over a script uses at each node.
use Rattle.std.proofs.Common.{◌≡◌, ℕ, zero, suc, ◌≤◌, Bool, true, false, List, [], ◌∷◌, ◌++◌, Option, refl, sym, ap, subst, ◌∙◌, append_assoc, arith}
use Rattle.std.specs.Prelude.{◌||◌, ◌&&◌, nat_lt, codes}
use Rattle.std.proofs.lemmas.Bool.{true≢false, false≢true, ltb-true}
use Rattle.std.proofs.lemmas.List.{append-nil}
use Rattle.text_grammar.specs.Grammar.{star, rule, seq, choose, pass}
use Rattle.span_text.specs.Names.{is_name}
use Rattle.sh_grammar.specs.Shape as shape
use Rattle.sh_grammar.specs.Shape.{no_part, part, no_word, word, no_assign, no_redirect, redirect, command, simple, group, subshell, branching, loop, walk, cases, function, no_branch, branch, no_else, otherwise, listed, no_item, item, stage, pipeline, no_link, and_link, or_link, chain}
use Rattle.sh_grammar.specs.Bytes.{Text, in_word, in_double, gap}
use Rattle.sh_grammar.specs.Tokens.{Newline, Word, Open, is_token, key_text}
use Rattle.sh_grammar.specs.State.{State, Sum, Node, part_node, word_node, command_node, kind_node, pipeline_node, chain_node, script_node}
use Rattle.sh_grammar.specs.Table.{Test, Rule, expansion}
use Rattle.sh_grammar.specs.Table as table
use Rattle.sh_grammar.specs.Steps.{Known, limit}
use Rattle.sh_grammar.proofs.Known.{known_in}
use Rattle.sh_printing.specs.Marks as marks
use Rattle.sh_printing.specs.Marks.{End, blank, ended}
use Rattle.sh_printing.specs.Printing.{part_text, parts_text, redirects_text, command_text, kind_text, list_text, continued, behind_opening, part_opens, parts_open, is_something, last_text}
use Rattle.sh_printing.specs.Printable.{command_fits, kind_fits, has_redirect, fd_fits}
use Rattle.sh_printing.proofs.BackSays.{Says, ◌then◌, saying, at_state, to_state}
use Rattle.sh_printing.proofs.BackDue.{Due, named, named_more, st, after, pending_text, Covers, covers_first, covers_second, owing_more}
use Rattle.sh_printing.proofs.BackBytes.{four}
use Rattle.sh_printing.proofs.BackTokens.{Outside}
use Rattle.sh_printing.proofs.BackBehind.{parts_on}
use Rattle.sh_printing.proofs.BackWords.{Parts}
use Rattle.sh_printing.proofs.BackRedirects.{op_text}
use Rattle.sh_printing.proofs.BackLines.{clean, Goes}
use Rattle.sh_printing.proofs.BackCommands.{Redirecting}
use Rattle.sh_printing.proofs.BackLists.{On}
use Rattle.sh_printing.proofs.BackNamed.{body_of, part_bodies, parts_bodies, redirects_bodies, part_closed, parts_closed, list_bodies}
use Rattle.sh_printing.proofs.BackNodes.{part_nodes, parts_back, word_nodes, redirect_nodes}
use Rattle.sh_printing.proofs.BackSums.{opening_of}
use Rattle.sh_printing.proofs.BackSteps.{after_clean}
use Rattle.sh_printing.proofs.BackCommandSteps.{HereTarget, here_owed, redirects_step, redirects_on}
use Rattle.sh_grammar.specs.Tokens.{Pipe, Bang}
use Rattle.sh_printing.specs.Printing.{link_end}
use Rattle.sh_printing.proofs.BackDue.{Pending}
use Rattle.sh_printing.proofs.BackBytes.{gap_blank}
use Rattle.sh_printing.proofs.BackNamed.{command_bodies, kind_bodies}
use Rattle.sh_printing.proofs.BackNodes.{stage_nodes, link_nodes, chain_nodes}
use Rattle.sh_printing.proofs.BackEnds.{marks_pipe}
use Rattle.sh_printing.proofs.BackLists.{MoreTo, carry_pipeline}
use Rattle.sh_printing.proofs.BackHeads.{PipelineFront}
use Rattle.sh_grammar.specs.Tokens.{Do, Done, OpenBrace, CloseBrace, If, For, While, Until, Case}
use Rattle.sh_printing.specs.Printable.{is_compound}
use Rattle.sh_printing.proofs.BackSimple.{carry_token}
use Rattle.sh_printing.proofs.BackBraces.{right_five}
use Rattle.sh_printing.proofs.BackCommands.{key_end, key_compound}
use Rattle.sh_printing.proofs.BackCompound.{ListTo, while_says, until_says}
use Rattle.sh_printing.proofs.BackLoops.{compound_command_says, compound_begins_says}
use Rattle.sh_printing.proofs.BackSteps.{list_node_of}
use Rattle.sh_grammar.specs.Tokens.{Then, Elif, Else, Fi}
use Rattle.sh_printing.specs.Printing.{branches_text, otherwise_text}
use Rattle.sh_printing.specs.Printable.{otherwise_fits}
use Rattle.sh_printing.proofs.BackCompound.{Elifs, ElsePart, one_elif, else_says, if_says}
use Rattle.sh_printing.proofs.BackLoops.{Walks, walks_none, walks_listed, for_says}
use Rattle.sh_grammar.specs.Tokens.{Esac}
use Rattle.sh_printing.specs.Printing.{patterns_text, items_text}
use Rattle.sh_printing.proofs.BackLoops.{ItemsTo, no_items, case_says}

-- ---- depths

pub deeper : (d : ℕ) → nat_lt d limit ≡ true → suc d ≤ limit
deeper d e = let lt = ltb-true d limit e in omega arith

-- ---- operands

pub or_none : (o : Bool) (g : Due) (bs : List Text) → after o g bs ≡ after (o || false) g (bs ++ [])
or_none true g bs = ap (λ (z : List Text). after true g z) (sym (append-nil bs))
or_none false g bs = refl

-- an expansion alone
pub operand_wrap : (k : Known) (d : ℕ) (q : List Sum) (g : Due) (p : shape.Part) (t : Text) → Says k (rule (expansion in_double)) (st d q g (part_text true in_double (opening_of g) false p ++ t)) (st d q (after (part_opens p) g (part_bodies p)) t) (part_node p ∷ []) →
    Says k (rule (expansion in_double)) (st d q g (parts_text true in_double (opening_of g) (part p no_part) ++ t)) (st d q (after (parts_open (part p no_part)) g (parts_bodies (part p no_part))) t) (part_nodes (part p no_part))
operand_wrap k d q g p t a =
    at_state (ap (λ (z : Text). st d q g (z ++ t)) (sym (append-nil (part_text true in_double (opening_of g) false p))))
    (to_state (ap (λ (z : Due). st d q z t) (or_none (part_opens p) g (part_bodies p))) a)

pub covers_alone : (k : Known) (g : Due) (p : shape.Part) → Covers k g (parts_bodies (part p no_part)) → Covers k g (part_bodies p)
covers_alone k g p c = covers_first k g (part_bodies p) [] c

-- what the commands of a list behind `$(` say: the law that the induction over lists gives
abbrev pub Maybe : Known → ℕ → List Sum → List Text → Text → Text → shape.Script → Type 0
Maybe k d q f bytes t s = Rattle.sh_printing.proofs.BackSteps.MaybeTo k d q f (f ++ list_bodies s) bytes t s

pub covers_settled : (k : Known) (g : Due) (bs : List Text) → Covers k g bs → Covers k (clean (named g)) bs
covers_settled k g bs c = record { later = c.later; known = c.known ∙ ap (λ (z : List Text). z ++ (bs ++ c.later)) (sym (append-nil (named g))) }

pub known_bodies : (m : ℕ) (bs : List Text) → (known_in m bs).bodies ≡ bs
known_bodies zero bs = refl
known_bodies (suc m) bs = refl

-- the same bodies
pub on_all : (k : Known) (d : ℕ) (q : List Sum) (s : State) (last : Text → Text) (t : Text) (xs : List Node) (a b : List Text) → a ≡ b → (g : Rattle.sh_grammar.specs.Table.Gram) → On k g d q s last t xs a → On k g d q s last t xs b
on_all k d q s last t xs a b e g x = record { owing = x.owing; found = x.found; says = x.says; is_all = x.is_all ∙ e }

pub on_at : (k : Known) (d : ℕ) (q : List Sum) (s u : State) (last : Text → Text) (t : Text) (xs : List Node) (a : List Text) → s ≡ u → (g : Rattle.sh_grammar.specs.Table.Gram) → On k g d q s last t xs a → On k g d q u last t xs a
on_at k d q s u last t xs a e g x = record { owing = x.owing; found = x.found; says = at_state e x.says; is_all = x.is_all }

pub copied_covers : (k : Known) (g : Due) (w : shape.Parts) (bs : List Text) → parts_bodies w ≡ [] → Covers k g (parts_bodies w ++ bs) → Covers k g bs
copied_covers k g w bs e c = subst (λ (z : List Text). Covers k g (z ++ bs)) e c

pub here_covers : (k : Known) (g : Due) (p : Rattle.sh_printing.proofs.BackDue.Pending) (b : Text) (bs : List Text) → p.body ≡ b → Covers k g (b ∷ bs) → Covers k (owing_more g p) bs
here_covers k g p b bs e c = covers_second k g (owing_more g p) (b ∷ []) bs (named_more g p ∙ ap (λ (z : Text). named g ++ z ∷ []) e) c

-- a here-document in front of other redirections
pub here_step : (k : Known) (d : ℕ) (q : List Sum) (g : Due) (behind : Bool) (last : Text → Text) (fd : Option ℕ) (op : shape.RedirectOp) (w : shape.Parts) (rs : shape.Redirects) (t : Text) (p : Test) (r : Rule) → Redirecting p r → (bytes : Text) → gap bytes ≡ gap (redirects_text true behind last (pending_text g.owing) (redirect fd op w rs) ++ t) → fd_fits fd ≡ true →
    ((owed : Text) → Rattle.sh_printing.specs.Printing.owed_behind true op (parts_open w) (body_of w) owed ≡ owed ++ marks.whole_body true (body_of w)) → redirects_bodies (redirect fd op w rs) ≡ body_of w ∷ redirects_bodies rs →
    (a : HereTarget k d q g op w (op_text op ++ (Rattle.sh_printing.proofs.BackBegins.aimed_word op w (opening_of g) ++ (redirects_text true true last (pending_text g.owing ++ marks.whole_body true (body_of w)) rs ++ t))) (redirects_text true true last (pending_text g.owing ++ marks.whole_body true (body_of w)) rs ++ t)) →
    On k (star p (rule r)) d q (st d q (owing_more g a.owes) (redirects_text true true last (pending_text (owing_more g a.owes).owing) rs ++ t)) last t (redirect_nodes rs) (named (owing_more g a.owes) ++ redirects_bodies rs) →
    On k (star p (rule r)) d q (st d q g bytes) last t (redirect_nodes (redirect fd op w rs)) (named g ++ redirects_bodies (redirect fd op w rs))
here_step k d q g behind last fd op w rs t p r R bytes same f ow bs a on =
    let m = owing_more g a.owes in
    let e = here_owed g a.owes w a.body a.delimiter_is in
    let is : redirects_text true true last (pending_text g.owing ++ marks.whole_body true (body_of w)) rs ++ t ≡ redirects_on last m rs t = ap (λ (z : Text). redirects_text true true last z rs ++ t) (sym e) in
    let all : named m ++ redirects_bodies rs ≡ named g ++ redirects_bodies (redirect fd op w rs) =
    ap (λ (z : List Text). z ++ redirects_bodies rs) (named_more g a.owes ∙ ap (λ (z : Text). named g ++ z ∷ []) a.body) ∙ append_assoc (named g) (body_of w ∷ []) (redirects_bodies rs) ∙ ap (λ (z : List Text). named g ++ z) (sym bs) in
    redirects_step k d q g m last fd op w rs t (named g ++ redirects_bodies (redirect fd op w rs)) p r R behind bytes same f (e ∙ sym (ow (pending_text g.owing)))
    (subst (λ (z : Text). Rattle.sh_printing.proofs.BackRedirects.Target k d q g m op w (op_text op ++ (Rattle.sh_printing.proofs.BackBegins.aimed_word op w (opening_of g) ++ z)) z) is a.target)
    (on_all k d q _ last t (redirect_nodes rs) (named m ++ redirects_bodies rs) (named g ++ redirects_bodies (redirect fd op w rs)) all (star p (rule r)) on)

pub more_all : (k : Known) (d : ℕ) (q : List Sum) (s : State) (t : Text) (xs : List Node) (a b : List Text) → a ≡ b → MoreTo k d q s a t xs → MoreTo k d q s b t xs
more_all k d q s t xs a b e x = record { ahead = x.ahead; same = x.same; says = to_state (ap (λ (z : List Text). st d q (clean z) x.ahead) e) x.says }

pub link_pipe : (end : End) (ls : shape.Links) → marks_pipe end ≡ false → marks_pipe (link_end end ls) ≡ false
link_pipe end no_link m = m
link_pipe end (and_link p ls) m = refl
link_pipe end (or_link p ls) m = refl

pub nothing_fits : (i : Bool) (d : ℕ) → command_fits i d (command (simple no_assign no_word) no_redirect) ≡ true → ⊥
nothing_fits i d e = false≢true e

pub plain_pipeline : (k : Known) (d : ℕ) (q : List Sum) (g : Due) (bytes : Text) (m e : State) (c : shape.Command) (cs : shape.Stages) → Rattle.sh_grammar.specs.Tokens.is_key Bang bytes ≡ false → Says k (rule table.command) (st d q g bytes) m (command_node c ∷ []) → Says k (star (table.next Pipe) (rule table.stage)) m e (stage_nodes cs) →
    Says k (rule table.pipeline) (st d q g bytes) e (pipeline_node (pipeline false (stage c cs)) ∷ [])
unfolding Rattle.sh_grammar.specs.Steps.holds
plain_pipeline k d q g bytes m e c cs n a b =
    Rattle.sh_printing.proofs.BackSays.by_rule table.pipeline (rw (Rattle.sh_printing.proofs.BackNodes.no_bang cs, Rattle.sh_printing.proofs.BackNodes.stages_only cs) refl) (Rattle.sh_printing.proofs.BackSays.the_second n (Rattle.sh_printing.proofs.BackSays.nothing k (st d q g bytes)) then a then b)

pub bang_pipeline_says : (k : Known) (d : ℕ) (q : List Sum) (g : Due) (bytes u : Text) (m e : State) (c : shape.Command) (cs : shape.Stages) → gap bytes ≡ 33 ∷ 32 ∷ u → Says k (rule table.command) (st d q g (32 ∷ u)) m (command_node c ∷ []) → Says k (star (table.next Pipe) (rule table.stage)) m e (stage_nodes cs) →
    Says k (rule table.pipeline) (st d q g bytes) e (pipeline_node (pipeline true (stage c cs)) ∷ [])
unfolding Rattle.sh_grammar.specs.Steps.holds key_text
bang_pipeline_says k d q g bytes u m e c cs is a b =
    let o = Rattle.sh_printing.proofs.BackTokens.word_ends (32 ∷ u) refl in
    Rattle.sh_printing.proofs.BackSays.by_rule table.pipeline (rw (Rattle.sh_printing.proofs.BackNodes.stages_only cs) refl)
    (Rattle.sh_printing.proofs.BackSays.the_first (Rattle.sh_printing.proofs.BackTokens.key_test Bang Bang bytes (32 ∷ u) is o) (Rattle.sh_printing.proofs.BackSays.by_rule table.bang refl (Rattle.sh_printing.proofs.BackTokens.key_says k Bang d q g bytes (32 ∷ u) is o)) then a then b)

pub chain_says : (k : Known) (s m e : State) (p : shape.Pipeline) (ls : shape.Links) → Says k (rule table.pipeline) s m (pipeline_node p ∷ []) → Says k (star table.links (rule table.link)) m e (link_nodes ls) → Says k (rule table.chain) s e (chain_node (chain p ls) ∷ [])
chain_says k s m e p ls a b = Rattle.sh_printing.proofs.BackSays.by_rule table.chain (ap (λ (z : shape.Links). chain_node (chain p z) ∷ []) (Rattle.sh_printing.proofs.BackNodes.links_only ls)) (a then b)

-- ---- compound commands

pub chains_by : (k : Known) (d : ℕ) (q : List Sum) (f h : List Text) (bytes t : Text) (s : shape.Script) (m : State) (tree : Rattle.text_grammar.specs.Derivations.Tree Rule Node) → Rattle.sh_grammar.specs.Tokens.pipeline_next bytes ≡ true →
    Rattle.text_grammar.specs.Derivations.At (Rattle.sh_grammar.specs.Spelling.knowing k) tree (choose table.pipeline_begins (seq (rule table.chain) (star table.separates (rule table.list_more))) pass) (st d q (clean f) bytes) m → Rattle.text_grammar.specs.Values.kids (Rattle.sh_grammar.specs.Spelling.knowing k) tree ≡ chain_nodes s →
    Says k (seq (rule table.chain) (star table.separates (rule table.list_more))) (st d q (clean f) bytes) m (chain_nodes s)
unfolding Rattle.sh_grammar.specs.Steps.holds
chains_by k d q f h bytes t s m (Rattle.text_grammar.specs.Derivations.first u) n a e = record { tree = u; spelled = a.1; says = e }
chains_by k d q f h bytes t s m (Rattle.text_grammar.specs.Derivations.second u) n a e = absurd (true≢false (sym n ∙ a.0))
chains_by k d q f h bytes t s m u n a e = absurd a

-- a list that has commands, by the law of lists that may have none
pub list_from : (k : Known) (d : ℕ) (q : List Sum) (f h : List Text) (bytes t : Text) (s : shape.Script) → PipelineFront (list_text true s ++ t) → gap bytes ≡ gap (list_text true s ++ t) → Rattle.sh_printing.proofs.BackSteps.MaybeTo k d q f h bytes t s → ListTo k d q f h bytes t s
list_from k d q f h bytes t s front g a =
    list_node_of k d q f h bytes t s (carry_token Newline bytes (list_text true s ++ t) g ∙ front.no_line)
    (record { ahead = a.ahead; same = a.same; says = chains_by k d q f h bytes t s _ a.says.tree (carry_pipeline bytes (list_text true s ++ t) g ∙ front.begins) a.says.spelled a.says.says })

pub right_six : (a b c e x z : Text) → ((((a ++ b) ++ c) ++ e) ++ x) ++ z ≡ a ++ (b ++ (c ++ (e ++ (x ++ z))))
right_six a b c e x z = append_assoc (((a ++ b) ++ c) ++ e) x z ∙ right_five a b c e (x ++ z)

pub paren_is : (bytes t : Text) → gap bytes ≡ 40 ∷ t → Rattle.sh_grammar.specs.Tokens.compound_next bytes ≡ true
unfolding Rattle.sh_grammar.specs.Tokens.compound_next Rattle.sh_grammar.specs.Tokens.code
paren_is bytes t g = rw (Rattle.sh_printing.proofs.BackTokens.test_is Open Open bytes t (Rattle.sh_printing.proofs.BackTokens.open_token bytes t g)) refl

pub no_branches : (i : Bool) (d : ℕ) (o : shape.Otherwise) → (nat_lt d limit && false && true && Rattle.sh_printing.specs.Printable.otherwise_fits i (suc d) o) ≡ true → ⊥
no_branches i d o e = false≢true (four (nat_lt d limit) false true (Rattle.sh_printing.specs.Printable.otherwise_fits i (suc d) o) e).1

pub brace_end : (u : Text) → Outside u → Rattle.sh_printing.proofs.BackCommands.ListEnd (125 ∷ u)
unfolding key_text
brace_end u o = key_end CloseBrace u o refl

pub do_end : (w : Text) → Rattle.sh_printing.proofs.BackCommands.ListEnd (codes "do" ++ 32 ∷ w)
unfolding key_text
do_end w = key_end Do (32 ∷ w) (Rattle.sh_printing.proofs.BackTokens.word_ends (32 ∷ w) refl) refl

pub done_end : (u : Text) → Outside u → Rattle.sh_printing.proofs.BackCommands.ListEnd (codes "done" ++ u)
unfolding key_text
done_end u o = key_end Done u o refl

pub loop_says : (k : Known) (d : ℕ) (q : List Sum) (f g h : List Text) (bytes v w t : Text) (until : Bool) (s r : shape.Script) → nat_lt d limit ≡ true → gap bytes ≡ Rattle.sh_printing.specs.Marks.loop_key until ++ v →
    ListTo k (suc d) q f g (32 ∷ v) (codes "do" ++ 32 ∷ w) s → ListTo k (suc d) q g h (32 ∷ w) (codes "done" ++ t) r → Outside t → Says k (rule table.compound) (st d q (clean f) bytes) (st d q (clean h) t) (kind_node (loop until s r) ∷ [])
unfolding key_text
loop_says k d q f g h bytes v w t true s r lt e a b o = until_says k d q f g h bytes v w t s r lt e a b o
loop_says k d q f g h bytes v w t false s r lt e a b o = while_says k d q f g h bytes v w t s r lt e a b o

pub kind_tail : (end : End) (tail t : Text) (c : shape.Kind) → is_compound c ≡ true → kind_text true end tail c ++ t ≡ kind_text true end (tail ++ t) c
kind_tail end tail t (simple vs ws) m = absurd (false≢true m)
kind_tail end tail t (function name c) m = absurd (false≢true m)
kind_tail end tail t (group s) m = append_assoc (codes "{ " ++ list_text true s ++ codes "}") tail t
kind_tail end tail t (subshell s) m = append_assoc (codes "( " ++ list_text true s ++ codes ")") tail t
kind_tail end tail t (branching bs o) m = append_assoc (Rattle.sh_printing.specs.Printing.branches_text true (codes "if ") bs ++ Rattle.sh_printing.specs.Printing.otherwise_text true o ++ codes "fi") tail t
kind_tail end tail t (loop until a b) m = append_assoc (Rattle.sh_printing.specs.Marks.loop_key until ++ list_text true a ++ codes "do " ++ list_text true b ++ codes "done") tail t
kind_tail end tail t (walk name ws b) m = append_assoc (codes "for " ++ name ++ Rattle.sh_printing.specs.Printing.for_words_text true ws ++ codes "do " ++ list_text true b ++ codes "done") tail t
kind_tail end tail t (cases w is) m = append_assoc (codes "case " ++ parts_text true in_word blank w ++ codes " in " ++ Rattle.sh_printing.specs.Printing.items_text true is ++ codes "esac") tail t

pub compound_is : (i : Bool) (d : ℕ) (end : End) (redirected : Bool) (bytes u : Text) (c : shape.Kind) → is_compound c ≡ true → kind_fits i d redirected c ≡ true → gap bytes ≡ kind_text true end u c → Rattle.sh_grammar.specs.Tokens.compound_next bytes ≡ true
unfolding key_text
compound_is i d end redirected bytes u (simple vs ws) m e g = absurd (false≢true m)
compound_is i d end redirected bytes u (function name c) m e g = absurd (false≢true m)
compound_is i d end redirected bytes u (group s) m e g = key_compound OpenBrace bytes _ (record { is = g; outside = Rattle.sh_printing.proofs.BackTokens.word_ends _ refl }) refl
compound_is i d end redirected bytes u (subshell s) m e g = paren_is bytes _ g
compound_is i d end redirected bytes u (branching no_branch o) m e g = absurd (no_branches i d o e)
compound_is i d end redirected bytes u (branching (branch a b bs) o) m e g = key_compound If bytes _ (record { is = g; outside = Rattle.sh_printing.proofs.BackTokens.word_ends _ refl }) refl
compound_is i d end redirected bytes u (loop true a b) m e g = key_compound Until bytes _ (record { is = g; outside = Rattle.sh_printing.proofs.BackTokens.word_ends _ refl }) refl
compound_is i d end redirected bytes u (loop false a b) m e g = key_compound While bytes _ (record { is = g; outside = Rattle.sh_printing.proofs.BackTokens.word_ends _ refl }) refl
compound_is i d end redirected bytes u (walk name ws b) m e g = key_compound For bytes _ (record { is = g; outside = Rattle.sh_printing.proofs.BackTokens.word_ends _ refl }) refl
compound_is i d end redirected bytes u (cases w is) m e g = key_compound Case bytes _ (record { is = g; outside = Rattle.sh_printing.proofs.BackTokens.word_ends _ refl }) refl

compound_tail : (end : End) (c : shape.Kind) (rs : shape.Redirects) (t : Text) → is_compound c ≡ true → kind_text true end (redirects_text true (is_something c) (last_text true end c) [] rs ++ t) c ≡ kind_text true end (redirects_text true true (ended end) [] rs ++ t) c
compound_tail end (simple vs ws) rs t m = absurd (false≢true m)
compound_tail end (group s) rs t m = refl
compound_tail end (subshell s) rs t m = refl
compound_tail end (branching bs o) rs t m = refl
compound_tail end (loop until a b) rs t m = refl
compound_tail end (walk n ws b) rs t m = refl
compound_tail end (cases w is) rs t m = refl
compound_tail end (function n c) rs t m = absurd (false≢true m)

-- the bodies of a compound command come before those of its redirections
pub compound_bodies : (c : shape.Kind) (rs : shape.Redirects) → is_compound c ≡ true → kind_bodies c ++ redirects_bodies rs ≡ command_bodies (command c rs)
compound_bodies (simple vs ws) rs m = absurd (false≢true m)
compound_bodies (group s) rs m = refl
compound_bodies (subshell s) rs m = refl
compound_bodies (branching bs o) rs m = refl
compound_bodies (loop until a b) rs m = refl
compound_bodies (walk n ws b) rs m = refl
compound_bodies (cases w is) rs m = refl
compound_bodies (function n c) rs m = absurd (false≢true m)

-- a compound command and its redirections
pub compound_part : (k : Known) (d : ℕ) (q : List Sum) (f : List Text) (end : End) (i : Bool) (c : shape.Kind) (rs : shape.Redirects) (bytes t : Text) → is_compound c ≡ true → kind_fits i d (has_redirect rs) c ≡ true → gap bytes ≡ command_text true end (command c rs) ++ t → Outside (redirects_text true true (ended end) [] rs ++ t) →
    (Outside (redirects_text true true (ended end) [] rs ++ t) → gap bytes ≡ kind_text true end (redirects_text true true (ended end) [] rs ++ t) c → Says k (rule table.compound) (st d q (clean f) bytes) (st d q (clean (f ++ kind_bodies c)) (redirects_text true true (ended end) [] rs ++ t)) (kind_node c ∷ [])) →
    On k (star table.redirect_begins (rule table.redirect)) d q (st d q (clean (f ++ kind_bodies c)) (redirects_text true true (ended end) [] rs ++ t)) (ended end) t (redirect_nodes rs) (named (clean (f ++ kind_bodies c)) ++ redirects_bodies rs) →
    On k (rule table.compound_command) d q (st d q (clean f) bytes) (ended end) t (command_node (command c rs) ∷ []) (f ++ command_bodies (command c rs))
compound_part k d q f end i c rs bytes t m e g o a on =
    let x : gap bytes ≡ kind_text true end (redirects_text true true (ended end) [] rs ++ t) c = g ∙ kind_tail end (redirects_text true (is_something c) (last_text true end c) [] rs) t c m ∙ compound_tail end c rs t m in
    record {
      owing = on.owing;
      found = on.found;
      is_all = on.is_all ∙ ap (λ (z : List Text). z ++ redirects_bodies rs) (append-nil (f ++ kind_bodies c)) ∙ append_assoc f (kind_bodies c) (redirects_bodies rs) ∙ ap (λ (z : List Text). f ++ z) (compound_bodies c rs m);
      says = compound_command_says k d q (clean f) bytes _ _ c rs (a o x) on.says;
    }

-- the same where a command is asked for
pub compound_case : (k : Known) (d : ℕ) (q : List Sum) (f : List Text) (end : End) (i : Bool) (c : shape.Kind) (rs : shape.Redirects) (bytes t : Text) → is_compound c ≡ true → kind_fits i d (has_redirect rs) c ≡ true → gap bytes ≡ command_text true end (command c rs) ++ t → Outside (redirects_text true true (ended end) [] rs ++ t) →
    (Outside (redirects_text true true (ended end) [] rs ++ t) → gap bytes ≡ kind_text true end (redirects_text true true (ended end) [] rs ++ t) c → Says k (rule table.compound) (st d q (clean f) bytes) (st d q (clean (f ++ kind_bodies c)) (redirects_text true true (ended end) [] rs ++ t)) (kind_node c ∷ [])) →
    On k (star table.redirect_begins (rule table.redirect)) d q (st d q (clean (f ++ kind_bodies c)) (redirects_text true true (ended end) [] rs ++ t)) (ended end) t (redirect_nodes rs) (named (clean (f ++ kind_bodies c)) ++ redirects_bodies rs) →
    On k (rule table.command) d q (st d q (clean f) bytes) (ended end) t (command_node (command c rs) ∷ []) (f ++ command_bodies (command c rs))
compound_case k d q f end i c rs bytes t m e g o a on =
    let x : gap bytes ≡ kind_text true end (redirects_text true true (ended end) [] rs ++ t) c = g ∙ kind_tail end (redirects_text true (is_something c) (last_text true end c) [] rs) t c m ∙ compound_tail end c rs t m in
    record {
      owing = on.owing;
      found = on.found;
      is_all = on.is_all ∙ ap (λ (z : List Text). z ++ redirects_bodies rs) (append-nil (f ++ kind_bodies c)) ∙ append_assoc f (kind_bodies c) (redirects_bodies rs) ∙ ap (λ (z : List Text). f ++ z) (compound_bodies c rs m);
      says = compound_begins_says k (st d q (clean f) bytes) _ _ (compound_is i d end (has_redirect rs) bytes (redirects_text true true (ended end) [] rs ++ t) c m e x) (compound_command_says k d q (clean f) bytes _ _ c rs (a o x) on.says);
    }

-- ---- `if` and `for`, with their words written out

pub then_end : (w : Text) → Rattle.sh_printing.proofs.BackCommands.ListEnd (codes "then" ++ 32 ∷ w)
unfolding key_text
then_end w = key_end Then (32 ∷ w) (Rattle.sh_printing.proofs.BackTokens.word_ends (32 ∷ w) refl) refl

pub fi_end : (u : Text) → Outside u → Rattle.sh_printing.proofs.BackCommands.ListEnd (codes "fi" ++ u)
unfolding key_text
fi_end u o = key_end Fi u o refl

pub fi_no_else : (u : Text) → Outside u → Rattle.sh_grammar.specs.Tokens.is_key Else (codes "fi" ++ u) ≡ false
unfolding key_text
fi_no_else u o = Rattle.sh_printing.proofs.BackTokens.key_test Else Fi (codes "fi" ++ u) u (Rattle.sh_printing.proofs.BackTokens.key_gap Fi u) o

-- what stands behind the branches
pub else_list_end : (u : Text) (o : shape.Otherwise) → Outside u → Rattle.sh_printing.proofs.BackCommands.ListEnd (otherwise_text true o ++ (codes "fi" ++ u))
unfolding key_text
else_list_end u no_else out = key_end Fi u out refl
else_list_end u (otherwise s) out = key_end Else _ (Rattle.sh_printing.proofs.BackTokens.word_ends _ refl) refl

pub else_no_elif : (u : Text) (o : shape.Otherwise) → Outside u → Rattle.sh_grammar.specs.Tokens.is_key Elif (otherwise_text true o ++ (codes "fi" ++ u)) ≡ false
unfolding key_text
else_no_elif u no_else out = Rattle.sh_printing.proofs.BackTokens.key_test Elif Fi (codes "fi" ++ u) u (Rattle.sh_printing.proofs.BackTokens.key_gap Fi u) out
else_no_elif u (otherwise s) out = Rattle.sh_printing.proofs.BackTokens.key_test Elif Else _ (32 ∷ (list_text true s ++ (codes "fi" ++ u))) (ap gap (append_assoc (codes "else ") (list_text true s) (codes "fi" ++ u)) ∙ Rattle.sh_printing.proofs.BackTokens.key_gap Else (32 ∷ (list_text true s ++ (codes "fi" ++ u)))) (Rattle.sh_printing.proofs.BackTokens.word_ends _ refl)

pub elif_list_end : (bs : shape.Branches) (t : Text) → Rattle.sh_printing.proofs.BackCommands.ListEnd t → Rattle.sh_printing.proofs.BackCommands.ListEnd (branches_text true (codes "elif ") bs ++ t)
unfolding key_text
elif_list_end no_branch t l = l
elif_list_end (branch a b bs) t l = key_end Elif _ (Rattle.sh_printing.proofs.BackTokens.word_ends _ refl) refl

pub elifs_all : (k : Known) (d : ℕ) (q : List Sum) (f g h : List Text) (bytes t : Text) (bs : shape.Branches) → g ≡ h → Elifs k d q f g bytes t bs → Elifs k d q f h bytes t bs
elifs_all k d q f g h bytes t bs e x = record { ahead = x.ahead; same = x.same; says = to_state (ap (λ (z : List Text). st d q (clean z) x.ahead) e) x.says }

pub else_all : (k : Known) (d : ℕ) (q : List Sum) (f g h : List Text) (bytes t : Text) (o : shape.Otherwise) → g ≡ h → ElsePart k d q f g bytes t o → ElsePart k d q f h bytes t o
else_all k d q f g h bytes t o e x = record { ahead = x.ahead; same = x.same; says = to_state (ap (λ (z : List Text). st d q (clean z) x.ahead) e) x.says }

pub elif_law : (k : Known) (d : ℕ) (q : List Sum) (f g h : List Text) (bytes v t u : Text) (s r : shape.Script) (bs : shape.Branches) → gap bytes ≡ gap (codes "elif" ++ 32 ∷ v) →
    (b : Goes k (rule table.if_branch) (st d q (clean f) (32 ∷ v)) d q (clean g) t (Rattle.sh_grammar.specs.State.branch_node s r ∷ [])) → Elifs k d q g h b.ahead u bs → Elifs k d q f h bytes u (branch s r bs)
unfolding key_text
elif_law k d q f g h bytes v t u s r bs e b more = one_elif k d q f g h bytes v t u s r bs e b more

pub else_some : (k : Known) (d : ℕ) (q : List Sum) (f h : List Text) (bytes v t : Text) (s : shape.Script) → gap bytes ≡ gap (codes "else" ++ 32 ∷ v) → ListTo k d q f h (32 ∷ v) t s → ElsePart k d q f h bytes t (otherwise s)
unfolding key_text
else_some k d q f h bytes v t s e a = else_says k d q f h bytes v t s e a

pub branch_says : (k : Known) (d : ℕ) (q : List Sum) (f g h : List Text) (bytes v t : Text) (s r : shape.Script) → ListTo k d q f g bytes (codes "then" ++ 32 ∷ v) s → ListTo k d q g h (32 ∷ v) t r →
    Goes k (rule table.if_branch) (st d q (clean f) bytes) d q (clean h) t (Rattle.sh_grammar.specs.State.branch_node s r ∷ [])
unfolding key_text
branch_says k d q f g h bytes v t s r a b = Rattle.sh_printing.proofs.BackCompound.branch_says k d q f g h bytes v t s r a b

pub if_law : (k : Known) (d : ℕ) (q : List Sum) (f g h j : List Text) (bytes v w x t : Text) (s r : shape.Script) (bs : shape.Branches) (o : shape.Otherwise) → nat_lt d limit ≡ true → gap bytes ≡ codes "if" ++ 32 ∷ v →
    (b : Goes k (rule table.if_branch) (st (suc d) q (clean f) (32 ∷ v)) (suc d) q (clean g) w (Rattle.sh_grammar.specs.State.branch_node s r ∷ [])) → (c : Elifs k (suc d) q g h b.ahead x bs) → (e : ElsePart k (suc d) q h j c.ahead (codes "fi" ++ t) o) → Outside t →
    Says k (rule table.compound) (st d q (clean f) bytes) (st d q (clean j) t) (kind_node (branching (branch s r bs) o) ∷ [])
unfolding key_text
if_law k d q f g h j bytes v w x t s r bs o lt at b c e out = if_says k d q f g h j bytes v w x t s r bs o lt at b c e out

pub for_law : (k : Known) (d : ℕ) (q : List Sum) (f g h : List Text) (bytes n v w t : Text) (ws : shape.ForWords) (xs : List Node) (s : shape.Script) → nat_lt d limit ≡ true → is_name n ≡ true → gap bytes ≡ codes "for" ++ 32 ∷ (n ++ 32 ∷ v) →
    (Rattle.sh_grammar.specs.State.listed_in (Rattle.sh_grammar.specs.State.text_node n ∷ (xs ++ (script_node s ∷ []))) ≡ ws) → (Rattle.sh_grammar.specs.State.script_in (Rattle.sh_grammar.specs.State.text_node n ∷ (xs ++ (script_node s ∷ []))) ≡ s) →
    Walks k (suc d) q f g (32 ∷ v) (codes "do" ++ 32 ∷ w) xs → ListTo k (suc d) q g h (32 ∷ w) (codes "done" ++ t) s → Outside t → Says k (rule table.compound) (st d q (clean f) bytes) (st d q (clean h) t) (kind_node (walk n ws s) ∷ [])
unfolding key_text
for_law k d q f g h bytes n v w t ws xs s lt nm at lw ls a b o = for_says k d q f g h bytes n v w t ws xs s lt nm at lw ls a b o

pub walk_plain : (k : Known) (d : ℕ) (q : List Sum) (f : List Text) (w : Text) → Walks k d q f f (32 ∷ (codes "do" ++ 32 ∷ w)) (codes "do" ++ 32 ∷ w) []
unfolding key_text
walk_plain k d q f w = walks_none k d q f (32 ∷ (codes "do" ++ 32 ∷ w)) (32 ∷ w) (gap_blank (codes "do" ++ 32 ∷ w)) (Rattle.sh_printing.proofs.BackTokens.word_ends (32 ∷ w) refl)

pub walk_listed : (k : Known) (d : ℕ) (q : List Sum) (f h : List Text) (v w : Text) (ws : shape.Words) → Outside v → Says k (star (table.next Word) (rule table.word)) (st d q (clean f) v) (st d q (clean h) (59 ∷ 32 ∷ (codes "do" ++ 32 ∷ w))) (word_nodes ws) →
    Walks k d q f h (32 ∷ (codes "in" ++ v)) (codes "do" ++ 32 ∷ w) (Rattle.sh_grammar.specs.State.listed_node (listed ws) ∷ [])
unfolding key_text
walk_listed k d q f h v w ws o a = walks_listed k d q f h (32 ∷ (codes "in" ++ v)) v (codes "do" ++ 32 ∷ w) ws (gap_blank (codes "in" ++ v)) o (do_end w).no_line a

pub listed_stops : (k : Known) (d : ℕ) (q : List Sum) (g : Due) (t : Text) → Says k (star (table.next Word) (rule table.word)) (st d q g (59 ∷ 32 ∷ t)) (st d q g (59 ∷ 32 ∷ t)) []
unfolding Rattle.sh_grammar.specs.Steps.holds Rattle.sh_grammar.specs.Tokens.code
listed_stops k d q g t =
    let v = 59 ∷ 32 ∷ t in
    Rattle.sh_printing.proofs.BackSays.no_more (Rattle.sh_printing.proofs.BackTokens.test_is Rattle.sh_grammar.specs.Tokens.Semi Word v (32 ∷ t) (Rattle.sh_printing.proofs.BackTokens.semi_token v t (Rattle.sh_printing.proofs.BackBytes.gap_is 59 (32 ∷ t) refl)))

-- ---- `case`

pub case_law : (k : Known) (d : ℕ) (q : List Sum) (f g h : List Text) (bytes v w t : Text) (p : shape.Parts) (is : shape.Items) → nat_lt d limit ≡ true → gap bytes ≡ codes "case" ++ 32 ∷ v →
    Says k (rule table.word) (st (suc d) q (clean f) (32 ∷ v)) (st (suc d) q (clean g) (32 ∷ (codes "in" ++ 32 ∷ w))) (word_node p ∷ []) → is_token Newline w ≡ false → ItemsTo k (suc d) q g h (32 ∷ w) (codes "esac" ++ t) is → Outside t →
    Says k (rule table.compound) (st d q (clean f) bytes) (st d q (clean h) t) (kind_node (cases p is) ∷ [])
unfolding key_text
case_law k d q f g h bytes v w t p is lt at a n items o = case_says k d q f g h bytes v w t p is lt at a n items o

pub esac_front : (u : Text) → Outside u → is_token Newline (codes "esac" ++ u) ≡ false
unfolding key_text
esac_front u o = (key_end Esac u o refl).no_line

pub items_no_line : (is : shape.Items) (u : Text) → Outside u → is_token Newline (items_text true is ++ (codes "esac" ++ u)) ≡ false
unfolding Rattle.sh_grammar.specs.Tokens.code
items_no_line no_item u o = esac_front u o
items_no_line (item no_word b is) u o = Rattle.sh_printing.proofs.BackTokens.test_is Rattle.sh_grammar.specs.Tokens.Close Newline _ _ (Rattle.sh_printing.proofs.BackTokens.close_token _ _ (Rattle.sh_printing.proofs.BackBytes.gap_is 41 _ refl))
items_no_line (item (word p ps) b is) u o = Rattle.sh_printing.proofs.BackTokens.test_is Open Newline _ _ (Rattle.sh_printing.proofs.BackTokens.open_token _ _ (Rattle.sh_printing.proofs.BackBytes.gap_is 40 _ refl))

pub patterns_outside : (ws : shape.Words) (t : Text) → Outside (patterns_text true (codes " | ") ws ++ 41 ∷ t)
patterns_outside no_word t = Rattle.sh_printing.proofs.BackTokens.word_ends _ refl
patterns_outside (word w ws) t = Rattle.sh_printing.proofs.BackTokens.word_ends _ refl

pub items_all : (k : Known) (d : ℕ) (q : List Sum) (f g h : List Text) (bytes t : Text) (is : shape.Items) → g ≡ h → ItemsTo k d q f g bytes t is → ItemsTo k d q f h bytes t is
items_all k d q f g h bytes t is e x = record { ahead = x.ahead; same = x.same; says = to_state (ap (λ (z : List Text). st d q (clean z) x.ahead) e) x.says }

pub items_none : (k : Known) (d : ℕ) (q : List Sum) (f : List Text) (bytes u : Text) → gap bytes ≡ gap (codes "esac" ++ u) → Outside u → ItemsTo k d q f f bytes (codes "esac" ++ u) no_item
unfolding key_text
items_none k d q f bytes u g o = no_items k d q f bytes u g o

pub pattern_step : (k : Known) (d : ℕ) (q : List Sum) (f : List Text) (p : shape.Part) (ps : shape.Parts) (bytes t : Text) → gap bytes ≡ parts_on in_word blank (part p ps) t → Rattle.sh_printing.proofs.BackWordFronts.WordFront (parts_on in_word blank (part p ps) t) →
    Says k (rule (table.part in_word)) (st d q (clean f) (part_text true in_word blank (continued ps) p ++ parts_on in_word (behind_opening (part_opens p) blank) ps t)) (st d q (after (part_opens p) (clean f) (part_bodies p)) (parts_on in_word (behind_opening (part_opens p) blank) ps t)) (part_node p ∷ []) →
    Parts k in_word d q (after (part_opens p) (clean f) (part_bodies p)) (after (parts_open ps) (after (part_opens p) (clean f) (part_bodies p)) (parts_bodies ps)) (parts_on in_word (opening_of (after (part_opens p) (clean f) (part_bodies p))) ps t) t (part_nodes ps) →
    Says k (rule table.pattern) (st d q (clean f) bytes) (st d q (clean (f ++ parts_bodies (part p ps))) t) (word_node (part p ps) ∷ [])
pattern_step k d q f p ps bytes t g front a b =
    let m = after (part_opens p) (clean f) (part_bodies p) in
    let e = after (parts_open ps) m (parts_bodies ps) in
    let w = parts_on in_word (behind_opening (part_opens p) blank) ps t in
    let sp = Rattle.sh_printing.proofs.BackBehind.parts_split in_word blank p ps t in
    let v = part_text true in_word blank (continued ps) p ++ w in
    let b2 : Parts k in_word d q m e w t (part_nodes ps) = subst (λ (y : Text). Parts k in_word d q m e (parts_on in_word y ps t) t (part_nodes ps)) (sym (Rattle.sh_printing.proofs.BackSteps.opening_after (part_opens p) (clean f) (part_bodies p))) b in
    let fr = subst Rattle.sh_printing.proofs.BackWordFronts.WordFront sp front in
    to_state (ap (λ (z : Due). st d q z t) (Rattle.sh_printing.proofs.BackDue.after_both (part_opens p) (parts_open ps) (clean f) (part_bodies p) (parts_bodies ps) (part_closed p) (parts_closed ps) ∙ after_clean (parts_open (part p ps)) f (parts_bodies (part p ps)) (parts_closed (part p ps))))
    (saying (ap (λ (z : shape.Parts). word_node (part p z) ∷ []) (parts_back ps)) (Rattle.sh_printing.proofs.BackWords.pattern_says k d q (clean f) m e bytes v w t p (part_nodes ps) (g ∙ sp) fr.is_word a b2))

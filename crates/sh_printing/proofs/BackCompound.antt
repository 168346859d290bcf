-- Compound commands read back, from the lists and words in them.
use Rattle.std.proofs.Common.{◌≡◌, ℕ, suc, ◌-◌, true, false, List, [], ◌∷◌, ◌++◌, refl, ap, ◌∙◌, arith}
use Rattle.std.specs.Prelude.{nat_lt}
use Rattle.span_text.specs.KnownNames.{same_text}
use Rattle.span_text.specs.Names.{is_name, continues_name}
use Rattle.text_grammar.specs.Grammar.{step, star, rule, pass}
use Rattle.sh_grammar.specs.Shape as shape
use Rattle.sh_grammar.specs.Bytes.{Text, in_word, gap, unit_starts, starts}
use Rattle.sh_grammar.specs.Tokens.{Open, Close, code, is_token, Key, If, Then, Elif, Else, Fi, For, Until, While, Do, Done, Case, OpenBrace, CloseBrace, key_text, is_key}
use Rattle.sh_grammar.specs.State.{State, Sum, Node, text_node, kind_node, script_node, branch_node, else_node, branches_in, else_in}
use Rattle.sh_grammar.specs.Table.{enter, leave, key, name, key_next, list, if_branch, elif_branch, else_part, if_command, while_loop, until_loop, do_body, for_loop, case_command, group, subshell, compound, other_compound}
use Rattle.sh_grammar.specs.Steps.{Known, limit, run_step, holds}
use Rattle.sh_printing.proofs.BackSays.{Says, nothing, silent_step, said_step, ◌then◌, the_first, the_second, by_rule, no_more, one_more}
use Rattle.sh_printing.proofs.BackDue.{Due, st}
use Rattle.sh_printing.proofs.BackBytes.{joins, gap_is}
use Rattle.sh_printing.proofs.BackTokens.{Outside, test_is, op_says, key_says, key_token, key_gap, open_token, close_token, word_ends}
use Rattle.sh_printing.proofs.BackLines.{clean, Goes}
use Rattle.sh_printing.proofs.BackSimple.{carry_key, name_is, word_is_other}
use Rattle.sh_printing.proofs.BackCommands.{KeyAt, key_says_it}
use Rattle.sh_printing.proofs.BackNodes.{branch_nodes, else_nodes, branches_before, else_over_branches}

-- ---- steps

pub enter_says : (k : Known) (d : ℕ) (q : List Sum) (g : Due) (t : Text) → nat_lt d limit ≡ true → Says k (step enter) (st d q g t) (st (suc d) q g t) []
unfolding run_step
enter_says k d q g t lt = silent_step (rw lt refl)

pub leave_says : (k : Known) (d : ℕ) (q : List Sum) (g : Due) (t : Text) → Says k (step leave) (st (suc d) q g t) (st d q g t) []
unfolding run_step
leave_says k d q g t = let down : suc d - 1 ≡ d = omega arith in silent_step (rw down refl)

pub key_step : (k : Known) (w : Key) (d : ℕ) (q : List Sum) (g : Due) (bytes t : Text) → gap bytes ≡ gap (key_text w ++ t) → Outside t → Says k (step (key w)) (st d q g bytes) (st d q g t) []
key_step k w d q g bytes t e o = key_says k w d q g bytes t (e ∙ key_gap w t) o

-- ---- which compound command

key_no_open : (w : Key) (bytes t : Text) → KeyAt w bytes t → is_token Open bytes ≡ false
key_no_open w bytes t a = (word_is_other bytes (key_text w ++ t) (key_token w bytes t a.is)).1

-- a reserved word that is, or isn't, the one that is looked for
key_yes : (w : Key) (bytes t : Text) → KeyAt w bytes t → same_text (key_text w) (key_text w) ≡ true → is_key w bytes ≡ true
key_yes w bytes t a e = key_says_it w w bytes t a ∙ e

pub brace_compound : (k : Known) (d : ℕ) (q : List Sum) (g : Due) (bytes t : Text) (e : State) (xs : List Node) → KeyAt OpenBrace bytes t → Says k (rule group) (st d q g bytes) e xs → Says k (rule compound) (st d q g bytes) e xs
unfolding holds key_text
brace_compound k d q g bytes t e xs a s = by_rule compound refl (the_second (key_no_open OpenBrace bytes t a) (the_first (key_says_it OpenBrace OpenBrace bytes t a) s))

pub paren_compound : (k : Known) (d : ℕ) (q : List Sum) (g : Due) (bytes t : Text) (e : State) (xs : List Node) → gap bytes ≡ 40 ∷ t → Says k (rule subshell) (st d q g bytes) e xs → Says k (rule compound) (st d q g bytes) e xs
unfolding holds code
paren_compound k d q g bytes t e xs a s = by_rule compound refl (the_first (test_is Open Open bytes t (open_token bytes t a)) s)

pub if_compound : (k : Known) (d : ℕ) (q : List Sum) (g : Due) (bytes t : Text) (e : State) (xs : List Node) → KeyAt If bytes t → Says k (rule if_command) (st d q g bytes) e xs → Says k (rule compound) (st d q g bytes) e xs
unfolding holds key_text
if_compound k d q g bytes t e xs a s = by_rule compound refl (the_second (key_no_open If bytes t a) (the_second (key_says_it OpenBrace If bytes t a) (the_first (key_says_it If If bytes t a) s)))

pub while_compound : (k : Known) (d : ℕ) (q : List Sum) (g : Due) (bytes t : Text) (e : State) (xs : List Node) → KeyAt While bytes t → Says k (rule while_loop) (st d q g bytes) e xs → Says k (rule compound) (st d q g bytes) e xs
unfolding holds key_text
while_compound k d q g bytes t e xs a s = by_rule compound refl (the_second (key_no_open While bytes t a) (the_second (key_says_it OpenBrace While bytes t a) (the_second (key_says_it If While bytes t a)
    (by_rule other_compound refl (the_first (key_says_it While While bytes t a) s)))))

pub until_compound : (k : Known) (d : ℕ) (q : List Sum) (g : Due) (bytes t : Text) (e : State) (xs : List Node) → KeyAt Until bytes t → Says k (rule until_loop) (st d q g bytes) e xs → Says k (rule compound) (st d q g bytes) e xs
unfolding holds key_text
until_compound k d q g bytes t e xs a s = by_rule compound refl (the_second (key_no_open Until bytes t a) (the_second (key_says_it OpenBrace Until bytes t a) (the_second (key_says_it If Until bytes t a)
    (by_rule other_compound refl (the_second (key_says_it While Until bytes t a) (the_first (key_says_it Until Until bytes t a) s))))))

pub for_compound : (k : Known) (d : ℕ) (q : List Sum) (g : Due) (bytes t : Text) (e : State) (xs : List Node) → KeyAt For bytes t → Says k (rule for_loop) (st d q g bytes) e xs → Says k (rule compound) (st d q g bytes) e xs
unfolding holds key_text
for_compound k d q g bytes t e xs a s = by_rule compound refl (the_second (key_no_open For bytes t a) (the_second (key_says_it OpenBrace For bytes t a) (the_second (key_says_it If For bytes t a)
    (by_rule other_compound refl (the_second (key_says_it While For bytes t a) (the_second (key_says_it Until For bytes t a) (the_first (key_says_it For For bytes t a) s)))))))

pub case_compound : (k : Known) (d : ℕ) (q : List Sum) (g : Due) (bytes t : Text) (e : State) (xs : List Node) → KeyAt Case bytes t → Says k (rule case_command) (st d q g bytes) e xs → Says k (rule compound) (st d q g bytes) e xs
unfolding holds key_text
case_compound k d q g bytes t e xs a s = by_rule compound refl (the_second (key_no_open Case bytes t a) (the_second (key_says_it OpenBrace Case bytes t a) (the_second (key_says_it If Case bytes t a)
    (by_rule other_compound refl (the_second (key_says_it While Case bytes t a) (the_second (key_says_it Until Case bytes t a) (the_second (key_says_it For Case bytes t a) s)))))))

-- ---- `{ a; }`, `( a; )`

-- a list up to what stands behind it
abbrev pub ListTo : Known → ℕ → List Sum → List Text → List Text → Text → Text → shape.Script → Type 0
ListTo k d q f h bytes t s = Goes k (rule list) (st d q (clean f) bytes) d q (clean h) t (script_node s ∷ [])

pub group_says : (k : Known) (d : ℕ) (q : List Sum) (f h : List Text) (bytes v t : Text) (s : shape.Script) → nat_lt d limit ≡ true → gap bytes ≡ 123 ∷ 32 ∷ v → ListTo k (suc d) q f h (32 ∷ v) (125 ∷ t) s → Outside t →
    Says k (rule compound) (st d q (clean f) bytes) (st d q (clean h) t) (kind_node (shape.group s) ∷ [])
unfolding key_text
group_says k d q f h bytes v t s lt e a o =
    let b = word_ends (32 ∷ v) refl in
    brace_compound k d q (clean f) bytes (32 ∷ v) (st d q (clean h) t) _ (record { is = e; outside = b })
    (by_rule group refl (key_says k OpenBrace d q (clean f) bytes (32 ∷ v) e b then enter_says k d q (clean f) (32 ∷ v) lt then a.says then key_step k CloseBrace (suc d) q (clean h) a.ahead t a.same o then leave_says k d q (clean h) t))

pub subshell_says : (k : Known) (d : ℕ) (q : List Sum) (f h : List Text) (bytes v t : Text) (s : shape.Script) → nat_lt d limit ≡ true → gap bytes ≡ 40 ∷ v → ListTo k (suc d) q f h v (41 ∷ t) s →
    Says k (rule compound) (st d q (clean f) bytes) (st d q (clean h) t) (kind_node (shape.subshell s) ∷ [])
subshell_says k d q f h bytes v t s lt e a =
    paren_compound k d q (clean f) bytes v (st d q (clean h) t) _ e
    (by_rule subshell refl (op_says k Open d q (clean f) bytes v (open_token bytes v e) then enter_says k d q (clean f) v lt then a.says then op_says k Close (suc d) q (clean h) a.ahead t (close_token a.ahead t (a.same ∙ gap_is 41 t refl)) then leave_says k d q (clean h) t))

-- ---- `if a; then b; elif c; then d; else e; fi`

-- `a; then b;`
pub branch_says : (k : Known) (d : ℕ) (q : List Sum) (f g h : List Text) (bytes v t : Text) (s r : shape.Script) → ListTo k d q f g bytes (key_text Then ++ 32 ∷ v) s → ListTo k d q g h (32 ∷ v) t r →
    Goes k (rule if_branch) (st d q (clean f) bytes) d q (clean h) t (branch_node s r ∷ [])
branch_says k d q f g h bytes v t s r a b =
    record { ahead = b.ahead; same = b.same; says = by_rule if_branch refl (a.says then key_step k Then d q (clean g) a.ahead (32 ∷ v) a.same (word_ends (32 ∷ v) refl) then b.says) }

-- the branches behind the first one
abbrev pub Elifs : Known → ℕ → List Sum → List Text → List Text → Text → Text → shape.Branches → Type 0
Elifs k d q f h bytes t bs = Goes k (star (key_next Elif) (rule elif_branch)) (st d q (clean f) bytes) d q (clean h) t (branch_nodes bs)

elif_same : same_text (key_text Elif) (key_text Elif) ≡ true
unfolding key_text
elif_same = refl

else_same : same_text (key_text Else) (key_text Else) ≡ true
unfolding key_text
else_same = refl

pub no_elif : (k : Known) (d : ℕ) (q : List Sum) (f : List Text) (bytes t : Text) → gap bytes ≡ gap t → is_key Elif t ≡ false → Elifs k d q f f bytes t shape.no_branch
unfolding holds
no_elif k d q f bytes t e n = record { ahead = bytes; same = e; says = no_more (carry_key Elif bytes t e ∙ n) }

pub one_elif : (k : Known) (d : ℕ) (q : List Sum) (f g h : List Text) (bytes v t u : Text) (s r : shape.Script) (bs : shape.Branches) → gap bytes ≡ gap (key_text Elif ++ 32 ∷ v) →
    (b : Goes k (rule if_branch) (st d q (clean f) (32 ∷ v)) d q (clean g) t (branch_node s r ∷ [])) → Elifs k d q g h b.ahead u bs → Elifs k d q f h bytes u (shape.branch s r bs)
unfolding holds
one_elif k d q f g h bytes v t u s r bs e b more =
    let o = word_ends (32 ∷ v) refl in
    record { ahead = more.ahead; same = more.same; says = one_more (key_says_it Elif Elif bytes (32 ∷ v) (record { is = e ∙ key_gap Elif (32 ∷ v); outside = o }) ∙ elif_same) (by_rule elif_branch refl (key_step k Elif d q (clean f) bytes (32 ∷ v) e o then b.says)) more.says }

-- `else e;`
abbrev pub ElsePart : Known → ℕ → List Sum → List Text → List Text → Text → Text → shape.Otherwise → Type 0
ElsePart k d q f h bytes t o = Goes k (Rattle.text_grammar.specs.Grammar.choose (key_next Else) (rule else_part) pass) (st d q (clean f) bytes) d q (clean h) t (else_nodes o)

pub no_else_says : (k : Known) (d : ℕ) (q : List Sum) (f : List Text) (bytes t : Text) → gap bytes ≡ gap t → is_key Else t ≡ false → ElsePart k d q f f bytes t shape.no_else
unfolding holds
no_else_says k d q f bytes t e n = record { ahead = bytes; same = e; says = the_second (carry_key Else bytes t e ∙ n) (nothing k (st d q (clean f) bytes)) }

pub else_says : (k : Known) (d : ℕ) (q : List Sum) (f h : List Text) (bytes v t : Text) (s : shape.Script) → gap bytes ≡ gap (key_text Else ++ 32 ∷ v) → ListTo k d q f h (32 ∷ v) t s → ElsePart k d q f h bytes t (shape.otherwise s)
unfolding holds
else_says k d q f h bytes v t s e a =
    let o = word_ends (32 ∷ v) refl in
    record { ahead = a.ahead; same = a.same; says = the_first (key_says_it Else Else bytes (32 ∷ v) (record { is = e ∙ key_gap Else (32 ∷ v); outside = o }) ∙ else_same) (by_rule else_part refl (key_step k Else d q (clean f) bytes (32 ∷ v) e o then a.says)) }

branch_list : (s r : shape.Script) (bs : shape.Branches) (o : shape.Otherwise) → branches_in (branch_node s r ∷ (branch_nodes bs ++ (else_nodes o ++ []))) ≡ shape.branch s r bs
branch_list s r bs shape.no_else = ap (shape.branch s r) (branches_before bs [] refl)
branch_list s r bs (shape.otherwise x) = ap (shape.branch s r) (branches_before bs (else_node x ∷ []) refl)

else_list : (s r : shape.Script) (bs : shape.Branches) (o : shape.Otherwise) → else_in (branch_node s r ∷ (branch_nodes bs ++ (else_nodes o ++ []))) ≡ o
else_list s r bs shape.no_else = else_over_branches bs []
else_list s r bs (shape.otherwise x) = else_over_branches bs (else_node x ∷ [])

pub if_says : (k : Known) (d : ℕ) (q : List Sum) (f g h j : List Text) (bytes v w x t : Text) (s r : shape.Script) (bs : shape.Branches) (o : shape.Otherwise) → nat_lt d limit ≡ true → gap bytes ≡ key_text If ++ 32 ∷ v →
    (b : Goes k (rule if_branch) (st (suc d) q (clean f) (32 ∷ v)) (suc d) q (clean g) w (branch_node s r ∷ [])) → (c : Elifs k (suc d) q g h b.ahead x bs) → (e : ElsePart k (suc d) q h j c.ahead (key_text Fi ++ t) o) → Outside t →
    Says k (rule compound) (st d q (clean f) bytes) (st d q (clean j) t) (kind_node (shape.branching (shape.branch s r bs) o) ∷ [])
if_says k d q f g h j bytes v w x t s r bs o lt at b c e out =
    let p = word_ends (32 ∷ v) refl in
    if_compound k d q (clean f) bytes (32 ∷ v) (st d q (clean j) t) _ (record { is = at; outside = p })
    (by_rule if_command (rw (branch_list s r bs o, else_list s r bs o) refl)
    (key_says k If d q (clean f) bytes (32 ∷ v) at p then enter_says k d q (clean f) (32 ∷ v) lt then b.says then c.says then e.says then key_step k Fi (suc d) q (clean j) e.ahead t e.same out then leave_says k d q (clean j) t))

-- ---- `while a; do b; done`

-- `do b; done`
pub do_says : (k : Known) (d : ℕ) (q : List Sum) (f h : List Text) (bytes v t : Text) (s : shape.Script) → gap bytes ≡ gap (key_text Do ++ 32 ∷ v) → ListTo k d q f h (32 ∷ v) (key_text Done ++ t) s → Outside t → Says k (rule do_body) (st d q (clean f) bytes) (st d q (clean h) t) (script_node s ∷ [])
do_says k d q f h bytes v t s e a o = by_rule do_body refl (key_step k Do d q (clean f) bytes (32 ∷ v) e (word_ends (32 ∷ v) refl) then a.says then key_step k Done d q (clean h) a.ahead t a.same o)

pub while_says : (k : Known) (d : ℕ) (q : List Sum) (f g h : List Text) (bytes v w t : Text) (s r : shape.Script) → nat_lt d limit ≡ true → gap bytes ≡ key_text While ++ 32 ∷ v →
    ListTo k (suc d) q f g (32 ∷ v) (key_text Do ++ 32 ∷ w) s → ListTo k (suc d) q g h (32 ∷ w) (key_text Done ++ t) r → Outside t → Says k (rule compound) (st d q (clean f) bytes) (st d q (clean h) t) (kind_node (shape.loop false s r) ∷ [])
while_says k d q f g h bytes v w t s r lt at a b o =
    let p = word_ends (32 ∷ v) refl in
    while_compound k d q (clean f) bytes (32 ∷ v) (st d q (clean h) t) _ (record { is = at; outside = p })
    (by_rule while_loop refl (key_says k While d q (clean f) bytes (32 ∷ v) at p then enter_says k d q (clean f) (32 ∷ v) lt then a.says then do_says k (suc d) q g h a.ahead w t r a.same b o then leave_says k d q (clean h) t))

pub until_says : (k : Known) (d : ℕ) (q : List Sum) (f g h : List Text) (bytes v w t : Text) (s r : shape.Script) → nat_lt d limit ≡ true → gap bytes ≡ key_text Until ++ 32 ∷ v →
    ListTo k (suc d) q f g (32 ∷ v) (key_text Do ++ 32 ∷ w) s → ListTo k (suc d) q g h (32 ∷ w) (key_text Done ++ t) r → Outside t → Says k (rule compound) (st d q (clean f) bytes) (st d q (clean h) t) (kind_node (shape.loop true s r) ∷ [])
until_says k d q f g h bytes v w t s r lt at a b o =
    let p = word_ends (32 ∷ v) refl in
    until_compound k d q (clean f) bytes (32 ∷ v) (st d q (clean h) t) _ (record { is = at; outside = p })
    (by_rule until_loop refl (key_says k Until d q (clean f) bytes (32 ∷ v) at p then enter_says k d q (clean f) (32 ∷ v) lt then a.says then do_says k (suc d) q g h a.ahead w t r a.same b o then leave_says k d q (clean h) t))

-- ---- `for n in w; do b; done`

pub name_says : (k : Known) (d : ℕ) (q : List Sum) (g : Due) (bytes n t : Text) → is_name n ≡ true → gap bytes ≡ n ++ t → joins t ≡ false → starts continues_name t ≡ false → unit_starts in_word t ≡ false → Says k (step name) (st d q g bytes) (st d q g t) (text_node n ∷ [])
unfolding run_step
name_says k d q g bytes n t i e f c u = said_step (rw (e, name_is n t i f c, u) refl)

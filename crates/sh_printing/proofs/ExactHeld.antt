-- What stands open of arithmetic expansions, while they are read.
use Rattle.std.proofs.Common.{◌≡◌, ℕ, zero, suc, Bool, true, false, List, [], ◌∷◌, ◌++◌, Option, Some, None, inl, inr, refl, sym, ap, subst, ◌∙◌, append_assoc, append-nil}
use Rattle.std.specs.Prelude.{◌||◌, ◌&&◌, not, ◌==◌, nat_lt}
use Rattle.std.specs.List.{list_all}
use Rattle.std.proofs.lemmas.Bool.{false≢true, true≢false}
use Rattle.text_grammar.specs.Grammar.{Leaf, said, Grammar, pass, fail, step, seq, choose, star, rule}
use Rattle.text_grammar.specs.Values.{leaf_kids}
use Rattle.span_text.specs.ExprTokens.{Cell, byte, expansion}
use Rattle.span_text.specs.declared.expr.Expr.{Expr}
use Rattle.sh_grammar.specs.Shape as shape
use Rattle.sh_grammar.specs.Shape.{no_part, part, arith as arith_part}
use Rattle.sh_grammar.specs.Bytes.{Text, Context, clear, gap, in_word, in_double, literal_run, unit_starts, is_escaped, is_bare_dollar}
use Rattle.sh_grammar.specs.Tokens.{Op, End, Newline, Less, Great, DGreat, DLess, DLessDash, LessAnd, GreatAnd, token, is_token, is_key, name_at, assign_at, tilde_at}
use Rattle.sh_grammar.specs.Expansions.{◌>>=◌, Head, closed as closed_head, filling, trimming, behind_two, dollar_param, dollar_head, dollar_sum}
use Rattle.sh_grammar.specs.Bodies.{delimiter_for, bodies_at}
use Rattle.sh_grammar.specs.State.{State, Sum, Node, part_node, expr_node, operands_in, sum_in}
use Rattle.sh_grammar.specs.Sums.{expression, is_sum_byte, sum_run, with_bytes, with_operand, innermost, without_innermost}
use Rattle.sh_grammar.specs.Steps.{Known, Read, limit, run_step, behind, bytes_read, literal_read, escaped_read, quoted_run, closed_read, head_read, digit_read, op_read, is_copied, copied_read, copy_read, word_place, here_node, here_after, here_read, none_owed}
use Rattle.sh_grammar.specs.Table.{Step, op, key, line, ends, name, assign_name, descriptor, file_op, here, copy, to_word, tilde, literal, escaped, exact, quote, dollar, closed, open_head, open_subst, close_brace, open_sum, sum_bytes, operand, sum_open, sum_close, close_sum, enter, leave, Test, Gram, Rule, piece, line_piece, complete, complete_more, list, maybe_list, list_more, lines, chain, link, and_link, or_link, pipeline, bang, stage, command, compound_command, compound, other_compound, group, subshell, if_command, if_branch, elif_branch, else_part, while_loop, until_loop, do_body, for_loop, for_words, for_in, case_command, case_in, case_item, pattern_more, item_end, function_command, simple_command, prefixed, called, suffix, prefix_item, suffix_item, assign, redirect, target, file, word, value, word_parts, more_parts, pattern, part as a_part, double_quotes, expansion as an_expansion, braces, fill, trim, subst as substitution, sum, sum_part, sum_group, body_parts, body}
use Rattle.sh_grammar.specs.Table as table
use Rattle.sh_grammar.specs.Acts.{act}
use Rattle.sh_grammar.proofs.Tools.{If, then, chosen, chosen_by}
use Rattle.sh_printing.specs.Printable.{operand_fits, operand_checks}
use Rattle.sh_printing.proofs.BackBytes.{both}
use Rattle.sh_printing.proofs.BackSumTokens.{put}
use Rattle.sh_printing.proofs.BackSumCells.{sum_of, sum_put, sum_operand}
use Rattle.sh_printing.proofs.ExactParts.{by_step}
use Rattle.sh_printing.proofs.ExactRules.{Claim, Stepped, Turns, Ruled, Sat, after}
use Rattle.sh_printing.proofs.ExactStates.{Fine}
use Rattle.sh_printing.proofs.ExactSteps.{nothing_said, skip, stop, enters}
use Rattle.sh_printing.proofs.ExactClaims.{Says}
use Rattle.sh_printing.proofs.ExactDeeper.{rises}
use Rattle.sh_printing.proofs.ExactSums.{cells_fit, Holds, holds_both, holds_put, holds_nodes, holds_cells}
use Rattle.sh_printing.proofs.ExactAll.{Held}

-- ---- steps that leave them

abbrev Calm : State → Read → Type 0
Calm s o = If (λ (x : Leaf Node × State). x.1.sums ≡ s.sums) o

any : {A : Type 0} (s : State) (o : Option A) (f : A → Read) → ((x : A) → Calm s (f x)) → Calm s (o >>= f)
any s None f h = tt
any s (Some x) f h = h x

literal_calm : (s : State) (x : Text × Text) → Calm s (literal_read s x)
literal_calm s ([], rest) = tt
literal_calm s (b ∷ bs, rest) = refl

escaped_calm : (c : Context) (s : State) (t : Text) → Calm s (escaped_read c s t)
escaped_calm c s [] = tt
escaped_calm c s (b ∷ bs) = chosen (Calm s) (is_escaped c b) _ _ refl tt

closed_calm : (s : State) (x : Head × Text) → Calm s (closed_read s x)
closed_calm s (closed_head p o, rest) = refl
closed_calm s (filling p t c, rest) = tt
closed_calm s (trimming p x l, rest) = tt

head_calm : (s : State) (x : Head × Text) → Calm s (head_read s x)
head_calm s (closed_head p o, rest) = tt
head_calm s (filling p t c, rest) = refl
head_calm s (trimming p x l, rest) = refl

digit_calm : (s : State) (t : Text) → Calm s (digit_read s t)
digit_calm s [] = tt
digit_calm s (b ∷ bs) = refl

file_calm : (s : State) (x : Op × Text) → Calm s (op_read s x)
file_calm s (Less, rest) = refl
file_calm s (Great, rest) = refl
file_calm s (DGreat, rest) = refl
file_calm s x = tt

copied_calm : (s : State) (o : shape.RedirectOp) (t : Text) → Calm s (copied_read s o t)
copied_calm s o [] = tt
copied_calm s o (b ∷ bs) = chosen (Calm s) (is_copied b && not (unit_starts in_word (clear bs))) _ _ refl tt

copy_calm : (s : State) (x : Op × Text) → Calm s (copy_read s x)
copy_calm s (LessAnd, rest) = any s (word_place rest) _ (λ place. copied_calm s shape.copy_in place)
copy_calm s (GreatAnd, rest) = any s (word_place rest) _ (λ place. copied_calm s shape.copy_out place)
copy_calm s x = tt

here_calm : (k : Known) (s : State) (x : Op × Text) → Calm s (here_read k s x)
here_calm k s (DLess, rest) = any s (word_place rest) _ (λ p. any s (delimiter_for false p) _ (λ d. any s (here_node k s d.0.1) _ (λ y. refl)))
here_calm k s (DLessDash, rest) = any s (word_place rest) _ (λ p. any s (delimiter_for true p) _ (λ d. any s (here_node k s d.0.1) _ (λ y. refl)))
here_calm k s x = tt

abbrev is_calm_step : Step → Bool
is_calm_step open_sum = false
is_calm_step sum_bytes = false
is_calm_step operand = false
is_calm_step sum_open = false
is_calm_step sum_close = false
is_calm_step close_sum = false
is_calm_step p = true

calm : (k : Known) (p : Step) (s : State) → is_calm_step p ≡ true → Calm s (run_step k p s)
unfolding run_step
calm k (op o) s e = chosen (Calm s) (is_token o s.bytes) _ _ refl tt
calm k (key w) s e = chosen (Calm s) (is_key w s.bytes) _ _ refl tt
calm k line s e = chosen (Calm s) (is_token Newline s.bytes) _ _ (any s (bodies_at s.owed (token s.bytes).1) _ (λ x. refl)) tt
calm k ends s e = chosen (Calm s) (is_token End s.bytes && none_owed s.owed) _ _ refl tt
calm k name s e = any s (name_at (gap s.bytes)) _ (λ x. chosen (Calm s) (unit_starts in_word x.1) _ _ tt refl)
calm k assign_name s e = any s (assign_at s.bytes) _ (λ x. refl)
calm k descriptor s e = digit_calm s (gap s.bytes)
calm k file_op s e = file_calm s (token s.bytes)
calm k here s e = here_calm k s (token s.bytes)
calm k copy s e = copy_calm s (token s.bytes)
calm k to_word s e = any s (word_place s.bytes) _ (λ x. refl)
calm k tilde s e = any s (tilde_at (clear s.bytes)) _ (λ x. refl)
calm k (literal c) s e = literal_calm s (literal_run c (clear s.bytes))
calm k (escaped c) s e = any s (behind 92 (clear s.bytes)) _ (λ x. escaped_calm c s x)
calm k exact s e = any s (behind 39 (clear s.bytes)) _ (λ x. any s (quoted_run x) _ (λ y. refl))
calm k quote s e = any s (behind 34 (clear s.bytes)) _ (λ x. refl)
calm k dollar s e = any s (dollar_param s.bytes) _ (λ x. refl)
calm k closed s e = chosen (Calm s) (nat_lt s.depth limit) _ _ (any s (dollar_head s.bytes) _ (λ x. closed_calm s x)) tt
calm k open_head s e = any s (dollar_head s.bytes) _ (λ x. head_calm s x)
calm k open_subst s e = any s (behind_two 36 40 s.bytes) _ (λ x. refl)
calm k close_brace s e = any s (behind 125 (clear s.bytes)) _ (λ x. refl)
calm k enter s e = chosen (Calm s) (nat_lt s.depth limit) _ _ refl tt
calm k leave s e = refl
calm k p s e = absurd (false≢true e)

-- ---- claims

-- cells that come to those of the innermost
abbrev Adds : Bool → ℕ → State → State → List Node → Type 0
Adds i d s e vs = (cs : List Cell) (n : ℕ) (rest : List Sum) → s.sums ≡ sum_of cs ∷ rest → (es : List Cell) × (many : ℕ) × (e.sums ≡ sum_of (cs ++ es) ∷ rest) × Holds i d many d n es vs

abbrev More : Bool → Claim
More i sum_part d s e vs = Adds i d s e vs
More i sum_group d s e vs = Adds i d s e vs
More i r d s e vs = e.sums ≡ s.sums

abbrev Whole : Bool → Claim
Whole i r d s e vs = Says i r d s e vs × More i r d s e vs

abbrev is_calm_rule : Rule → Bool
is_calm_rule sum_part = false
is_calm_rule sum_group = false
is_calm_rule r = true

abbrev is_calm : Gram → Bool
is_calm (step p) = is_calm_step p
is_calm (seq g h) = is_calm g && is_calm h
is_calm (choose p g h) = is_calm g && is_calm h
is_calm (star p g) = is_calm g
is_calm (rule r) = is_calm_rule r
is_calm g = true

calm_rule : (i : Bool) (r : Rule) (d : ℕ) (s e : State) (vs : List Node) → is_calm_rule r ≡ true → More i r d s e vs → e.sums ≡ s.sums
calm_rule i sum_part d s e vs c h = absurd (false≢true c)
calm_rule i sum_group d s e vs c h = absurd (false≢true c)
calm_rule i r d s e vs c h = h

calm_step : {k : Known} {F : State → Type 0} {d : ℕ} {s e : State} {vs : List Node} (p : Step) → is_calm_step p ≡ true → Stepped k F p d s e vs → e.sums ≡ s.sums
calm_step {k} {s = s} p c st = by_step (λ (m : State) (ws : List Node). m.sums ≡ s.sums) (calm k p s c) st

calm_turns : (F : State → Type 0) (p : Test) (turn : State → State → List Node → Type 0) → ((s e : State) (vs : List Node) → turn s e vs → e.sums ≡ s.sums) → (n : ℕ) (s e : State) (vs : List Node) → Turns F p turn n s e vs → e.sums ≡ s.sums
calm_turns F p turn h zero s e vs t = ap (λ (z : State). z.sums) (sym t.1)
calm_turns F p turn h (suc n) s e vs t = let b = t.1 in calm_turns F p turn h n b.middle e b.others b.rest ∙ h s b.middle b.ones b.before

calm_at : (k : Known) (i : Bool) (g : Gram) (d : ℕ) (s e : State) (vs : List Node) → is_calm g ≡ true → Sat k (Fine k i) (Whole i) g d s e vs → e.sums ≡ s.sums
calm_at k i pass d s e vs c a = ap (λ (z : State). z.sums) (sym a.0)
calm_at k i fail d s e vs c a = absurd a
calm_at k i (step p) d s e vs c a = calm_step p c a
calm_at k i (seq g h) d s e vs c a = let x = both (is_calm g) (is_calm h) c in calm_at k i h (after g d) a.middle e a.others x.1 a.rest ∙ calm_at k i g d s a.middle a.ones x.0 a.before
calm_at k i (choose p g h) d s e vs c (inl a) = calm_at k i g d s e vs (both (is_calm g) (is_calm h) c).0 a.1
calm_at k i (choose p g h) d s e vs c (inr a) = calm_at k i h d s e vs (both (is_calm g) (is_calm h) c).1 a.1
calm_at k i (star p g) d s e vs c a = calm_turns (Fine k i) p (Sat k (Fine k i) (Whole i) g d) (λ s e vs x. calm_at k i g d s e vs c x) a.0 s e vs a.1
calm_at k i (rule r) d s e vs c a = calm_rule i r d s e vs c a.claim.1

-- ---- what is added

no_or : (b c : Bool) → (false || false) ≡ true → ⊥
no_or b c h = false≢true h

paren_at : (a b c d e f : Bool) → (not (a || b || c || d) || (d && e)) ≡ true → (d ≡ true → (a || b) ≡ false) → not (a || b) ≡ true
paren_at true b c true e f h g = absurd (true≢false (g refl))
paren_at true b c false e f h g = absurd (no_or b c h)
paren_at false true c true e f h g = absurd (true≢false (g refl))
paren_at false true c false e f h g = absurd (false≢true h)
paren_at false false c d e f h g = refl

no_parens : (b : ℕ) (bs : Text) → is_sum_byte b bs ≡ true → not (b == 40 || b == 41) ≡ true
no_parens b bs e =
    paren_at (b == 40) (b == 41) (b == 0) (b == 36) (is_bare_dollar bs) true e
    (λ h. rw (Rattle.span_text.proofs.Bytes.apart (λ z. z == 36) b 40 h refl, Rattle.span_text.proofs.Bytes.apart (λ z. z == 36) b 41 h refl) refl)

given_sums : (s : State) (x : List Sum) (o : Option Text) → If (λ (y : Leaf Node × State). y.1.sums ≡ x) (o >>= λ rest. Rattle.sh_grammar.specs.Steps.with_sums s x rest)
given_sums s x None = tt
given_sums s x (Some rest) = refl

any_text : (o : Option Text) → If (λ (z : Text). Unit {0}) o
any_text None = tt
any_text (Some x) = tt

calm_bytes : (t : Text) → list_all (λ b. not (b == 40 || b == 41)) (sum_run t).0 ≡ true
unfolding sum_run
calm_bytes [] = refl
calm_bytes (b ∷ bs) = chosen_by (λ (x : Text × Text). list_all (λ b. not (b == 40 || b == 41)) x.0 ≡ true) (is_sum_byte b bs) (b ∷ (sum_run bs).0, (sum_run bs).1) ([], b ∷ bs) (λ e. rw (no_parens b bs e, calm_bytes bs) refl) (λ e. refl)

bytes_given : (i : Bool) (d : ℕ) (s : State) (t rest : Text) → list_all (λ b. not (b == 40 || b == 41)) t ≡ true → If (λ (x : Leaf Node × State). Adds i d s x.1 (leaf_kids x.0)) (bytes_read s (t, rest))
bytes_given i d s [] rest e = tt
bytes_given i d s (b ∷ bs) rest e = λ cs n r h. (put (b ∷ bs) [], n, ap (with_bytes (b ∷ bs)) h ∙ ap (λ (z : Sum). z ∷ r) (sum_put cs (b ∷ bs)), holds_put i d n (b ∷ bs) e)

bytes_add : {k : Known} {F : State → Type 0} {s e : State} {vs : List Node} (i : Bool) (d : ℕ) → Stepped k F sum_bytes d s e vs → Adds i d s e vs
unfolding run_step
bytes_add {s = s} i d st = by_step (Adds i d s) (bytes_given i d s (sum_run s.bytes).0 (sum_run s.bytes).1 (calm_bytes s.bytes)) st

operand_sums : {k : Known} {F : State → Type 0} {d : ℕ} {s e : State} {vs : List Node} → Stepped k F operand d s e vs → e.sums ≡ with_operand s.sums
unfolding run_step
operand_sums {s = s} st = by_step (λ (m : State) (ws : List Node). m.sums ≡ with_operand s.sums) refl st

operand_add : (k : Known) (i : Bool) (d : ℕ) (s e : State) (vs : List Node) → Sat k (Fine k i) (Whole i) (Rattle.text_grammar.specs.Grammar.seq (step operand) (rule (an_expansion in_double))) d s e vs → Adds i d s e vs
operand_add k i d s e vs a cs n r h =
    let o = a.rest.claim.0 in
    let fits : operand_fits i d (part o.one no_part) ≡ true = rw (o.expands, o.fits no_part (λ x. absurd (false≢true x))) refl in
    let is : vs ≡ part_node o.one ∷ [] = skip a.is (nothing_said operand refl a.before) ∙ o.is in
    (expansion n ∷ [], suc n, a.rest.claim.1 ∙ (operand_sums a.before ∙ (ap with_operand h ∙ ap (λ (z : Sum). z ∷ r) (sum_operand cs n))), (o.one, [], refl, is, fits, (refl, refl, refl)))

turns_add : (k : Known) (i : Bool) (d m : ℕ) (s e : State) (vs : List Node) → Turns (Fine k i) table.sum_goes_on (Ruled (Fine k i) (Whole i sum_part) d) m s e vs → Adds i d s e vs
turns_add k i d zero s e vs t cs n r h = ([], n, ap (λ (z : State). z.sums) (sym t.1) ∙ (h ∙ ap (λ (z : List Cell). sum_of z ∷ r) (sym (append-nil cs))), (refl, refl, t.2))
turns_add k i d (suc m) s e vs t cs n r h =
    let b = t.1 in
    let x = b.before.claim.1 cs n r h in
    let y = turns_add k i d m b.middle e b.others b.rest (cs ++ x.0) x.1 r x.2 in (
      x.0 ++ y.0,
      y.1,
      y.2 ∙ ap (λ (z : List Cell). sum_of z ∷ r) (append_assoc cs x.0 y.0),
      subst (Holds i d y.1 d n (x.0 ++ y.0)) (sym b.is) (holds_both i d x.1 d y.1 d n x.0 y.0 b.ones b.others x.3 y.3),
    )

one_byte : {k : Known} {F : State → Type 0} {d : ℕ} {s e : State} {vs : List Node} → Stepped k F sum_open d s e vs → e.sums ≡ with_bytes (40 ∷ []) s.sums
unfolding run_step
one_byte {s = s} st = by_step (λ (m : State) (ws : List Node). m.sums ≡ with_bytes (40 ∷ []) s.sums) (given_sums s (with_bytes (40 ∷ []) s.sums) (behind 40 s.bytes)) st

last_byte : {k : Known} {F : State → Type 0} {d : ℕ} {s e : State} {vs : List Node} → Stepped k F sum_close d s e vs → e.sums ≡ with_bytes (41 ∷ []) s.sums
unfolding run_step
last_byte {s = s} st = by_step (λ (m : State) (ws : List Node). m.sums ≡ with_bytes (41 ∷ []) s.sums) (given_sums s (with_bytes (41 ∷ []) s.sums) (behind 41 s.bytes)) st

opened_sums : {k : Known} {F : State → Type 0} {d : ℕ} {s e : State} {vs : List Node} → Stepped k F open_sum d s e vs → e.sums ≡ sum_of [] ∷ s.sums
unfolding run_step
opened_sums {s = s} st = by_step (λ (m : State) (ws : List Node). m.sums ≡ sum_of [] ∷ s.sums) (given_sums s (sum_of [] ∷ s.sums) (dollar_sum s.bytes)) st

-- parentheses, and what stands between them
group_add : (k : Known) (i : Bool) (d : ℕ) (s e : State) (vs : List Node) → Sat k (Fine k i) (Whole i) (body sum_group) d s e vs → Adds i d s e vs
group_add k i d s e vs a cs n r h =
    let b = a.rest in let g = b.rest in let j = g.rest in
    let opened : b.middle.sums ≡ sum_of (cs ++ put (40 ∷ []) []) ∷ r = calm_step enter refl b.before ∙ (one_byte a.before ∙ (ap (with_bytes (40 ∷ [])) h ∙ ap (λ (z : Sum). z ∷ r) (sum_put cs (40 ∷ [])))) in
    let x = turns_add k i (suc d) g.before.0 b.middle g.middle g.ones g.before.1 (cs ++ put (40 ∷ []) []) n r opened in
    let fs = (cs ++ put (40 ∷ []) []) ++ x.0 in
    let sums : e.sums ≡ sum_of (fs ++ put (41 ∷ []) []) ∷ r = calm_step leave refl j.rest ∙ (last_byte j.before ∙ (ap (with_bytes (41 ∷ [])) x.2 ∙ ap (λ (z : Sum). z ∷ r) (sum_put fs (41 ∷ [])))) in
    let quiet : j.ones ++ j.others ≡ [] = ap (λ (z : List Node). z ++ j.others) (nothing_said sum_close refl j.before) ∙ nothing_said leave refl j.rest in
    let is : vs ≡ g.ones ++ [] = skip a.is (nothing_said sum_open refl a.before) ∙ (skip b.is (nothing_said enter refl b.before) ∙ (g.is ∙ ap (λ (z : List Node). g.ones ++ z) (j.is ∙ quiet))) in
    let inner : Holds i d x.1 (suc d) n (x.0 ++ byte 41 ∷ []) (g.ones ++ []) = holds_both i (suc d) x.1 d x.1 (suc d) n x.0 (byte 41 ∷ []) g.ones [] x.3 (d, inr (inl (refl, refl)), (refl, refl, refl)) in
    let same : fs ++ put (41 ∷ []) [] ≡ cs ++ (byte 40 ∷ (x.0 ++ byte 41 ∷ [])) = append_assoc (cs ++ put (40 ∷ []) []) x.0 (byte 41 ∷ []) ∙ append_assoc cs (byte 40 ∷ []) (x.0 ++ byte 41 ∷ []) in
    (byte 40 ∷ (x.0 ++ byte 41 ∷ []), x.1, sums ∙ ap (λ (z : List Cell). sum_of z ∷ r) same, subst (Holds i d x.1 d n (byte 40 ∷ (x.0 ++ byte 41 ∷ []))) (sym is) (suc d, inl (refl, enters b.before, refl), inner))

part_add : (k : Known) (i : Bool) (d : ℕ) (s e : State) (vs : List Node) → Sat k (Fine k i) (Whole i) (body sum_part) d s e vs → Adds i d s e vs
part_add k i d s e vs (inl a) = a.1.claim.1
part_add k i d s e vs (inr (t, inl a)) = operand_add k i d s e vs a.1
part_add k i d s e vs (inr (t, inr a)) = bytes_add i d a.1

-- ---- all of an expansion

record Closed (s e : State) (vs : List Node) : Type 0 where
  read : Expr
  is : vs ≡ expr_node read ∷ []
  spelled : innermost s.sums ≡ Some read
  sums : e.sums ≡ without_innermost s.sums

close_given : (s : State) (rest : Text) (o : Option Expr) → innermost s.sums ≡ o → If (λ (x : Leaf Node × State). Closed s x.1 (leaf_kids x.0)) (o >>= λ e. Some (said (expr_node e), record s { bytes = rest; sums = without_innermost s.sums }))
close_given s rest None h = tt
close_given s rest (Some e) h = record { read = e; is = refl; spelled = h; sums = refl }

closed_sum : {k : Known} {F : State → Type 0} {d : ℕ} {s e : State} {vs : List Node} → Stepped k F close_sum d s e vs → Closed s e vs
unfolding run_step
closed_sum {s = s} st =
    by_step (Closed s) (then (λ (z : Text). Unit {0}) (λ (x : Leaf Node × State). Closed s x.1 (leaf_kids x.0)) (behind_two 41 41 s.bytes) _ (any_text (behind_two 41 41 s.bytes)) (λ rest h. close_given s rest (innermost s.sums) refl)) st

-- what was read between the parentheses, and how it is spelled
record Read' (i : Bool) (d : ℕ) (s e : State) (vs : List Node) : Type 0 where
  cells : List Cell
  many : ℕ
  operands : List Node
  holds : Holds i d many d 0 cells operands
  read : Expr
  is : vs ≡ operands ++ expr_node read ∷ []
  spelled : expression (sum_of cells) ≡ Some read
  sums : e.sums ≡ s.sums

sum_read : (k : Known) (i : Bool) (d : ℕ) (s e : State) (vs : List Node) → Sat k (Fine k i) (Whole i) (body sum) d s e vs → Read' i (suc d) s e vs
sum_read k i d s e vs a =
    let b = a.rest in let g = b.rest in let j = g.rest in
    let opened : b.middle.sums ≡ sum_of [] ∷ s.sums = calm_step enter refl b.before ∙ opened_sums a.before in
    let x = turns_add k i (suc d) g.before.0 b.middle g.middle g.ones g.before.1 [] 0 s.sums opened in
    let c = closed_sum j.before in
    record {
      cells = x.0;
      many = x.1;
      operands = g.ones;
      holds = x.3;
      read = c.read;
      is = skip a.is (nothing_said open_sum refl a.before) ∙ (skip b.is (nothing_said enter refl b.before) ∙ (g.is ∙ ap (λ (z : List Node). g.ones ++ z) (stop j.is (nothing_said leave refl j.rest) ∙ c.is)));
      spelled = sym (ap innermost x.2) ∙ c.spelled;
      sums = calm_step leave refl j.rest ∙ (c.sums ∙ ap without_innermost x.2);
    }

sum_says : (k : Known) (i : Bool) (d : ℕ) (s e : State) (vs : List Node) → Sat k (Fine k i) (Whole i) (body sum) d s e vs → Says i sum d s e (act sum vs)
sum_says k i d s e vs a =
    let r = sum_read k i d s e vs a in
    let ws = operands_in r.operands in
    let n = holds_nodes i (suc d) r.many (suc d) 0 r.cells r.operands r.read ws r.holds in
    let c = holds_cells i [] (suc d) r.many (suc d) 0 r.cells r.operands refl r.holds in
    let cells = subst (λ (z : ℕ). Rattle.sh_printing.proofs.ExactCells.Cells (Rattle.sh_printing.specs.Spellable.nth_check (operand_checks i ws)) (suc d) z (suc d) 0 r.cells) c.1 c.0 in
    let fits = cells_fit (operand_checks i ws) (suc d) r.cells r.read (rises i ws) cells r.spelled in
    let made : sum_in vs (operands_in vs) ≡ arith_part r.read ws = ap (λ (z : List Node). sum_in z (operands_in z)) r.is ∙ (ap (λ (z : shape.Words). sum_in (r.operands ++ expr_node r.read ∷ []) z) n.0 ∙ n.1) in
    record { one = arith_part r.read ws; is = ap (λ (z : shape.Part). part_node z ∷ []) made; fits = (refl, λ c behind. rw (enters a.rest.before, fits) refl) }

more_rule : (k : Known) (i : Bool) (r : Rule) (d : ℕ) (s e : State) (vs : List Node) → Sat k (Fine k i) (Whole i) (body r) d s e vs → More i r d s e (act r vs)
more_rule k i sum_part d s e vs a = part_add k i d s e vs a
more_rule k i sum_group d s e vs a = group_add k i d s e vs a
more_rule k i sum d s e vs a = (sum_read k i d s e vs a).sums
more_rule k i r d s e vs a = calm_at k i (body r) d s e vs refl a

-- what is said of each rule so that an arithmetic expansion fits
pub held : (k : Known) (i : Bool) → Held k i
held k i = record { more = More i; rules = λ r d s e vs h f g a. more_rule k i r d s e vs a; sums = λ d s e vs a. sum_says k i d s e vs a }

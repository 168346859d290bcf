-- What holds of states holds from step to step.
use Rattle.std.proofs.Common.{◌≡◌, ℕ, zero, suc, ◌+◌, ◌-◌, Bool, true, false, cond, List, [], ◌∷◌, ◌++◌, length, Option, Some, None, refl, sym, ap, ◌∙◌, arith}
use Rattle.std.specs.Prelude.{◌&&◌, not, nat_lt}
use Rattle.std.proofs.lemmas.Bool.{false≢true}
use Rattle.text_grammar.specs.Grammar.{Leaf, said}
use Rattle.sh_grammar.specs.Shape.{RedirectOp, copy_in, copy_out}
use Rattle.sh_grammar.specs.Bytes.{Text, Context, clear, gap, in_word, literal_run, unit_starts, is_escaped}
use Rattle.sh_grammar.specs.Tokens.{Op, End, Newline, Less, Great, DGreat, DLess, DLessDash, LessAnd, GreatAnd, token, is_token, is_key, name_at, assign_at, tilde_at}
use Rattle.sh_grammar.specs.Expansions.{◌>>=◌, Head, closed as closed_head, filling, trimming, dollar_param, dollar_head, dollar_sum, behind_two}
use Rattle.sh_grammar.specs.Bodies.{Owed, delimiter_for, bodies_at}
use Rattle.sh_grammar.specs.State.{State, Node}
use Rattle.sh_grammar.specs.Sums.{sum_run, innermost}
use Rattle.sh_grammar.specs.Table.{Step, op, key, line, ends, name, assign_name, descriptor, file_op, here, copy, to_word, tilde, literal, escaped, exact, quote, dollar, closed, open_head, open_subst, close_brace, open_sum, sum_bytes, operand, sum_open, sum_close, close_sum, enter, leave, Rule, piece, line_piece, complete, complete_more, list, maybe_list, list_more, lines, chain, link, and_link, or_link, pipeline, bang, stage, command, compound_command, compound, other_compound, group, subshell, if_command, if_branch, elif_branch, else_part, while_loop, until_loop, do_body, for_loop, for_words, for_in, case_command, case_in, case_item, pattern_more, item_end, function_command, simple_command, prefixed, called, suffix, prefix_item, suffix_item, assign, redirect, target, file, word, value, word_parts, more_parts, pattern, part, double_quotes, expansion, braces, fill, trim, subst as substitution, sum, sum_part, sum_group, body_parts, body}
use Rattle.sh_grammar.specs.Steps.{Known, limit, Read, behind, word_place, here_node, here_after, here_read, op_read, is_copied, copied_read, copy_read, digit_read, literal_read, escaped_read, quoted_run, closed_read, head_read, bytes_read, none_owed, run_step}
use Rattle.sh_grammar.proofs.Tools.{If, then, chosen, if_some}
use Rattle.sh_printing.proofs.ExactRules.{step_depth, above, after, is_even}
use Rattle.sh_printing.proofs.ExactStates.{Forth, Clean}
use Rattle.sh_printing.proofs.ExactBodies.{clean_tails}
use Rattle.sh_printing.proofs.ExactLines.{Bodies, bodies_fit}
use Rattle.sh_printing.proofs.ExactKeeps.{step_leaves}

-- ---- steps that leave all but the bytes and the sums

pub record Steady (s m : State) : Type 0 where
  pub named : m.named ≡ s.named
  pub found : m.found ≡ s.found
  pub owed : m.owed ≡ s.owed
  pub depth : m.depth ≡ s.depth

abbrev pub IsSteady : State → Read → Type 0
IsSteady s o = If (λ (x : Leaf Node × State). Steady s x.1) o

same : (s m : State) → m.named ≡ s.named → m.found ≡ s.found → m.owed ≡ s.owed → m.depth ≡ s.depth → Steady s m
same s m a b c d = record { named = a; found = b; owed = c; depth = d }

any : {A : Type 0} (s : State) (o : Option A) (f : A → Read) → ((x : A) → IsSteady s (f x)) → IsSteady s (o >>= f)
any s None f h = tt
any s (Some x) f h = h x

either : (s : State) (b : Bool) (o p : Read) → IsSteady s o → IsSteady s p → IsSteady s (cond b o p)
either s true o p h i = h
either s false o p h i = i

literal_steady : (s : State) (x : Text × Text) → IsSteady s (literal_read s x)
literal_steady s ([], rest) = tt
literal_steady s (b ∷ bs, rest) = same s _ refl refl refl refl

escaped_steady : (c : Context) (s : State) (t : Text) → IsSteady s (escaped_read c s t)
escaped_steady c s [] = tt
escaped_steady c s (b ∷ bs) = either s (is_escaped c b) _ _ (same s _ refl refl refl refl) tt

closed_steady : (s : State) (x : Head × Text) → IsSteady s (closed_read s x)
closed_steady s (closed_head p o, rest) = same s _ refl refl refl refl
closed_steady s (filling p t c, rest) = tt
closed_steady s (trimming p x l, rest) = tt

head_steady : (s : State) (x : Head × Text) → IsSteady s (head_read s x)
head_steady s (closed_head p o, rest) = tt
head_steady s (filling p t c, rest) = same s _ refl refl refl refl
head_steady s (trimming p x l, rest) = same s _ refl refl refl refl

digit_steady : (s : State) (t : Text) → IsSteady s (digit_read s t)
digit_steady s [] = tt
digit_steady s (b ∷ bs) = same s _ refl refl refl refl

bytes_steady : (s : State) (x : Text × Text) → IsSteady s (bytes_read s x)
bytes_steady s ([], rest) = tt
bytes_steady s (b ∷ bs, rest) = same s _ refl refl refl refl

file_steady : (s : State) (x : Op × Text) → IsSteady s (op_read s x)
file_steady s (Less, rest) = same s _ refl refl refl refl
file_steady s (Great, rest) = same s _ refl refl refl refl
file_steady s (DGreat, rest) = same s _ refl refl refl refl
file_steady s x = tt

copied_steady : (s : State) (o : RedirectOp) (t : Text) → IsSteady s (copied_read s o t)
copied_steady s o [] = tt
copied_steady s o (b ∷ bs) = either s (is_copied b && not (unit_starts in_word (clear bs))) _ _ (same s _ refl refl refl refl) tt

copy_steady : (s : State) (x : Op × Text) → IsSteady s (copy_read s x)
copy_steady s (LessAnd, rest) = any s (word_place rest) _ (λ place. copied_steady s copy_in place)
copy_steady s (GreatAnd, rest) = any s (word_place rest) _ (λ place. copied_steady s copy_out place)
copy_steady s x = tt

abbrev pub is_steady : Step → Bool
is_steady line = false
is_steady here = false
is_steady enter = false
is_steady leave = false
is_steady p = true

pub steady : (k : Known) (p : Step) (s : State) → is_steady p ≡ true → IsSteady s (run_step k p s)
unfolding run_step
steady k (op o) s e = either s (is_token o s.bytes) _ _ (same s _ refl refl refl refl) tt
steady k (key w) s e = either s (is_key w s.bytes) _ _ (same s _ refl refl refl refl) tt
steady k ends s e = either s (is_token End s.bytes && none_owed s.owed) _ _ (same s _ refl refl refl refl) tt
steady k name s e = any s (name_at (gap s.bytes)) _ (λ x. either s (unit_starts in_word x.1) _ _ tt (same s _ refl refl refl refl))
steady k assign_name s e = any s (assign_at s.bytes) _ (λ x. same s _ refl refl refl refl)
steady k descriptor s e = digit_steady s (gap s.bytes)
steady k file_op s e = file_steady s (token s.bytes)
steady k copy s e = copy_steady s (token s.bytes)
steady k to_word s e = any s (word_place s.bytes) _ (λ x. same s _ refl refl refl refl)
steady k tilde s e = any s (tilde_at (clear s.bytes)) _ (λ x. same s _ refl refl refl refl)
steady k (literal c) s e = literal_steady s (literal_run c (clear s.bytes))
steady k (escaped c) s e = any s (behind 92 (clear s.bytes)) _ (λ x. escaped_steady c s x)
steady k exact s e = any s (behind 39 (clear s.bytes)) _ (λ x. any s (quoted_run x) _ (λ y. same s _ refl refl refl refl))
steady k quote s e = any s (behind 34 (clear s.bytes)) _ (λ x. same s _ refl refl refl refl)
steady k dollar s e = any s (dollar_param s.bytes) _ (λ x. same s _ refl refl refl refl)
steady k closed s e = either s (nat_lt s.depth limit) _ _ (any s (dollar_head s.bytes) _ (λ x. closed_steady s x)) tt
steady k open_head s e = any s (dollar_head s.bytes) _ (λ x. head_steady s x)
steady k open_subst s e = any s (behind_two 36 40 s.bytes) _ (λ x. same s _ refl refl refl refl)
steady k close_brace s e = any s (behind 125 (clear s.bytes)) _ (λ x. same s _ refl refl refl refl)
steady k open_sum s e = any s (dollar_sum s.bytes) _ (λ x. same s _ refl refl refl refl)
steady k sum_bytes s e = bytes_steady s (sum_run s.bytes)
steady k operand s e = same s _ refl refl refl refl
steady k sum_open s e = any s (behind 40 s.bytes) _ (λ x. same s _ refl refl refl refl)
steady k sum_close s e = any s (behind 41 s.bytes) _ (λ x. same s _ refl refl refl refl)
steady k close_sum s e = any s (behind_two 41 41 s.bytes) _ (λ x. any s (innermost s.sums) _ (λ y. same s _ refl refl refl refl))
steady k p s e = absurd (false≢true e)

steady_at : (k : Known) (p : Step) (s e : State) (x : Leaf Node) → is_steady p ≡ true → run_step k p s ≡ Some (x, e) → Steady s e
steady_at k p s e x q h = if_some (λ (y : Leaf Node × State). Steady s y.1) (run_step k p s) (x, e) h (steady k p s q)

-- ---- depth

down : (d : ℕ) → d - 1 ≡ above d
down zero = omega arith
down (suc d) = omega arith

steady_depth : (p : Step) (d : ℕ) → is_steady p ≡ true → step_depth p d ≡ d
steady_depth enter d e = absurd (false≢true e)
steady_depth leave d e = absurd (false≢true e)
steady_depth p d e = refl

abbrev DepthIs : ℕ → Read → Type 0
DepthIs d o = If (λ (x : Leaf Node × State). x.1.depth ≡ d) o

depth_any : {A : Type 0} (d : ℕ) (o : Option A) (f : A → Read) → ((x : A) → DepthIs d (f x)) → DepthIs d (o >>= f)
depth_any d None f h = tt
depth_any d (Some x) f h = h x

here_depth : (k : Known) (s : State) (x : Op × Text) → DepthIs s.depth (here_read k s x)
here_depth k s (DLess, rest) = depth_any s.depth (word_place rest) _ (λ p. depth_any s.depth (delimiter_for false p) _ (λ d. depth_any s.depth (here_node k s d.0.1) _ (λ y. refl)))
here_depth k s (DLessDash, rest) = depth_any s.depth (word_place rest) _ (λ p. depth_any s.depth (delimiter_for true p) _ (λ d. depth_any s.depth (here_node k s d.0.1) _ (λ y. refl)))
here_depth k s x = tt

weaker : (s : State) (d : ℕ) (o : Read) → s.depth ≡ d → IsSteady s o → DepthIs d o
weaker s d None e h = tt
weaker s d (Some x) e h = h.depth ∙ e

line_deep : (k : Known) (s : State) → DepthIs s.depth (run_step k line s)
unfolding run_step
line_deep k s = chosen (DepthIs s.depth) (is_token Newline s.bytes) _ _ (depth_any s.depth (bodies_at s.owed (token s.bytes).1) _ (λ x. refl)) tt

here_deep : (k : Known) (s : State) → DepthIs s.depth (run_step k here s)
unfolding run_step
here_deep k s = here_depth k s (token s.bytes)

enter_deep : (k : Known) (s : State) → DepthIs (suc s.depth) (run_step k enter s)
unfolding run_step
enter_deep k s = chosen (DepthIs (suc s.depth)) (nat_lt s.depth limit) _ _ refl tt

leave_deep : (k : Known) (s : State) → DepthIs (above s.depth) (run_step k leave s)
unfolding run_step
leave_deep k s = down s.depth

step_deep : (k : Known) (p : Step) (s : State) → DepthIs (step_depth p s.depth) (run_step k p s)
step_deep k line s = line_deep k s
step_deep k here s = here_deep k s
step_deep k enter s = enter_deep k s
step_deep k leave s = leave_deep k s
step_deep k p s = weaker s (step_depth p s.depth) (run_step k p s) refl (steady k p s refl)

pub deep : (k : Known) (p : Step) (s e : State) (x : Leaf Node) → run_step k p s ≡ Some (x, e) → e.depth ≡ step_depth p s.depth
deep k p s e x h = if_some (λ (y : Leaf Node × State). y.1.depth ≡ step_depth p s.depth) (run_step k p s) (x, e) h (step_deep k p s)

-- each rule ends the levels that it begins
pub even : (r : Rule) → (is_even (body r) ≡ true) × ((d : ℕ) → after (body r) d ≡ d)
even piece = (refl, λ d. refl)
even line_piece = (refl, λ d. refl)
even complete = (refl, λ d. refl)
even complete_more = (refl, λ d. refl)
even list = (refl, λ d. refl)
even maybe_list = (refl, λ d. refl)
even list_more = (refl, λ d. refl)
even lines = (refl, λ d. refl)
even chain = (refl, λ d. refl)
even link = (refl, λ d. refl)
even and_link = (refl, λ d. refl)
even or_link = (refl, λ d. refl)
even pipeline = (refl, λ d. refl)
even bang = (refl, λ d. refl)
even stage = (refl, λ d. refl)
even command = (refl, λ d. refl)
even compound_command = (refl, λ d. refl)
even compound = (refl, λ d. refl)
even other_compound = (refl, λ d. refl)
even group = (refl, λ d. refl)
even subshell = (refl, λ d. refl)
even if_command = (refl, λ d. refl)
even if_branch = (refl, λ d. refl)
even elif_branch = (refl, λ d. refl)
even else_part = (refl, λ d. refl)
even while_loop = (refl, λ d. refl)
even until_loop = (refl, λ d. refl)
even do_body = (refl, λ d. refl)
even for_loop = (refl, λ d. refl)
even for_words = (refl, λ d. refl)
even for_in = (refl, λ d. refl)
even case_command = (refl, λ d. refl)
even case_in = (refl, λ d. refl)
even case_item = (refl, λ d. refl)
even pattern_more = (refl, λ d. refl)
even item_end = (refl, λ d. refl)
even function_command = (refl, λ d. refl)
even simple_command = (refl, λ d. refl)
even prefixed = (refl, λ d. refl)
even called = (refl, λ d. refl)
even suffix = (refl, λ d. refl)
even prefix_item = (refl, λ d. refl)
even suffix_item = (refl, λ d. refl)
even assign = (refl, λ d. refl)
even redirect = (refl, λ d. refl)
even target = (refl, λ d. refl)
even file = (refl, λ d. refl)
even word = (refl, λ d. refl)
even value = (refl, λ d. refl)
even word_parts = (refl, λ d. refl)
even more_parts = (refl, λ d. refl)
even pattern = (refl, λ d. refl)
even (part c) = (refl, λ d. refl)
even double_quotes = (refl, λ d. refl)
even (expansion c) = (refl, λ d. refl)
even (braces c) = (refl, λ d. refl)
even (fill c) = (refl, λ d. refl)
even (trim c) = (refl, λ d. refl)
even substitution = (refl, λ d. refl)
even sum = (refl, λ d. refl)
even sum_part = (refl, λ d. refl)
even sum_group = (refl, λ d. refl)
even body_parts = (refl, λ d. refl)

-- ---- from left to right

any_of : {A : Type 0} (o : Option A) → If (λ (z : A). Unit {0}) o
any_of None = tt
any_of (Some x) = tt

length_both : {A : Type 0} (xs ys : List A) → length (xs ++ ys) ≡ length xs + length ys
length_both [] ys = omega arith
length_both (x ∷ xs) ys = let i = length_both xs ys in omega (arith, i)

abbrev Counted : State → Type 0
Counted s = s.named ≡ length s.found + length s.owed

steady_counted : (s m : State) → Steady s m → Counted s → Counted m
steady_counted s m h c = h.named ∙ (c ∙ (ap (λ (z : List Text). length z + length s.owed) (sym h.found) ∙ ap (λ (z : List Owed). length m.found + length z) (sym h.owed)))

abbrev CountedIn : Read → Type 0
CountedIn o = If (λ (x : Leaf Node × State). Counted x.1) o

line_counted : (k : Known) (s : State) → Counted s → CountedIn (run_step k line s)
unfolding run_step
line_counted k s c =
    chosen CountedIn (is_token Newline s.bytes) _ _
    (then (Bodies false s.owed) (λ (x : Leaf Node × State). Counted x.1) (bodies_at s.owed (token s.bytes).1) _ (bodies_fit false s.owed (token s.bytes).1 (λ e. absurd (false≢true e)))
    (λ x h. let a = length_both s.found x.0 in let m = h.many in let c2 = c in omega (arith, a, m, c2))) tt

node_counted : (m : State) (o : Option Node) → Counted m → CountedIn (o >>= λ x. Some (said x, m))
node_counted m None h = tt
node_counted m (Some x) h = h

after_counted : (k : Known) (s : State) (strips : Bool) (t : Text) → Counted s → CountedIn (here_after k s strips t)
after_counted k s strips t c =
    then (λ (z : Text). Unit {0}) (λ (x : Leaf Node × State). Counted x.1) (word_place t) _ (any_of (word_place t))
    (λ place i. then (λ (z : (Text × Bool) × Text). Unit {0}) (λ (x : Leaf Node × State). Counted x.1) (delimiter_for strips place) _ (any_of (delimiter_for strips place))
    (λ d j. node_counted (record s { bytes = d.1; owed = s.owed ++ record { delimiter = d.0.0; literal = d.0.1; strips = strips } ∷ []; named = suc s.named }) (here_node k s d.0.1)
    (let a = length_both s.owed (record { delimiter = d.0.0; literal = d.0.1; strips = strips } ∷ []) in let c2 = c in omega (arith, a, c2))))

here_counted_at : (k : Known) (s : State) (x : Op × Text) → Counted s → CountedIn (here_read k s x)
here_counted_at k s (DLess, rest) c = after_counted k s false rest c
here_counted_at k s (DLessDash, rest) c = after_counted k s true rest c
here_counted_at k s x c = tt

here_counted : (k : Known) (s : State) → Counted s → CountedIn (run_step k here s)
unfolding run_step
here_counted k s c = here_counted_at k s (token s.bytes) c

enter_counted : (k : Known) (s : State) → Counted s → CountedIn (run_step k enter s)
unfolding run_step
enter_counted k s c = chosen CountedIn (nat_lt s.depth limit) _ _ c tt

leave_counted : (k : Known) (s : State) → Counted s → CountedIn (run_step k leave s)
unfolding run_step
leave_counted k s c = c

steady_counts : (s : State) (o : Read) → Counted s → IsSteady s o → CountedIn o
steady_counts s None c h = tt
steady_counts s (Some x) c h = steady_counted s x.1 h c

step_counted : (k : Known) (p : Step) (s : State) → Counted s → CountedIn (run_step k p s)
step_counted k line s c = line_counted k s c
step_counted k here s c = here_counted k s c
step_counted k enter s c = enter_counted k s c
step_counted k leave s c = leave_counted k s c
step_counted k p s c = steady_counts s (run_step k p s) c (steady k p s refl)

pub forth : (k : Known) (i : Bool) (p : Step) (s e : State) (x : Leaf Node) → run_step k p s ≡ Some (x, e) → Forth i s → Forth i e
forth k i p s e x h f = record {
  clean = if_some (λ (y : Leaf Node × State). Clean i y.1.bytes) (run_step k p s) (x, e) h (step_leaves (Clean i) (clean_tails i) k p s f.clean);
  counted = if_some (λ (y : Leaf Node × State). Counted y.1) (run_step k p s) (x, e) h (step_counted k p s f.counted);
}

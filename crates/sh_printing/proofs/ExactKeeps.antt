-- What steps keep: depth, the ends of texts, and the here-documents that are owed and found.
use Rattle.std.proofs.Common.{ℕ, suc, Bool, true, false, List, [], ◌∷◌, ◌++◌, Option, Some, None}
use Rattle.std.specs.Prelude.{◌&&◌, not, ◌==◌, nat_lt}
use Rattle.text_grammar.specs.Grammar.{Leaf, said}
use Rattle.sh_grammar.specs.Shape.{Param, RedirectOp, copy_in, copy_out}
use Rattle.sh_grammar.specs.Bytes.{Text, Context, clear, gap, in_word, literal_run, unit_starts, is_escaped}
use Rattle.sh_grammar.specs.Tokens.{Op, End, Newline, Word, Less, Great, DGreat, DLess, DLessDash, LessAnd, GreatAnd, token, is_token, is_key, name_at, assign_at, tilde_at}
use Rattle.sh_grammar.specs.Expansions.{◌>>=◌, Head, closed as closed_head, filling, trimming, dollar_param, dollar_head, dollar_sum, behind_two}
use Rattle.sh_grammar.specs.Bodies.{delimiter_for, bodies_at}
use Rattle.sh_grammar.specs.State.{State, Node, expr_node}
use Rattle.span_text.specs.declared.expr.Expr.{Expr}
use Rattle.sh_grammar.specs.Sums.{is_sum_byte, sum_run, innermost, without_innermost}
use Rattle.sh_grammar.specs.Table.{Step, op, key, line, ends, name, assign_name, descriptor, file_op, here, copy, to_word, tilde, literal, escaped, exact, quote, dollar, closed, open_head, open_subst, close_brace, open_sum, sum_bytes, operand, sum_open, sum_close, close_sum, enter, leave}
use Rattle.sh_grammar.specs.Steps.{Known, limit, Read, behind, word_place, here_node, here_after, here_read, op_read, is_copied, copied_read, copy_read, digit_read, literal_read, escaped_read, quoted_run, closed_read, head_read, bytes_read, none_owed, run_step}
use Rattle.sh_grammar.proofs.Tools.{If, then, chosen, chosen_some}
use Rattle.sh_printing.proofs.ExactTails.{Tails, Rest, clear_ends, gap_ends, literal_ends, token_ends, name_at_ends, assign_ends, tilde_ends, two_ends, dollar_param_ends, dollar_head_ends, dollar_sum_ends}
use Rattle.sh_printing.proofs.ExactBodies.{delimiter_ends, nothing_of}
use Rattle.sh_printing.proofs.ExactLines.{bodies_end}

-- ---- ends of texts

abbrev Leaves : (Text → Type 0) → Read → Type 0
Leaves P o = If (λ (x : Leaf Node × State). P x.1.bytes) o

on : {A : Type 0} (P : Text → Type 0) (Q : A → Type 0) (o : Option A) (f : A → Read) → If Q o → ((x : A) → Q x → Leaves P (f x)) → Leaves P (o >>= f)
on P Q o f h k = then Q (λ (x : Leaf Node × State). P x.1.bytes) o f h k

byte_behind : (P : Text → Type 0) → Tails P → (n : ℕ) (t : Text) → P t → If P (behind n t)
byte_behind P k n [] h = tt
byte_behind P k n (b ∷ bs) h = chosen_some P (b == n) _ _ (k b bs h) tt

literal_leaves : (P : Text → Type 0) (s : State) (x : Text × Text) → P x.1 → Leaves P (literal_read s x)
literal_leaves P s ([], rest) h = tt
literal_leaves P s (b ∷ bs, rest) h = h

escaped_leaves : (P : Text → Type 0) → Tails P → (c : Context) (s : State) (t : Text) → P t → Leaves P (escaped_read c s t)
escaped_leaves P k c s [] h = tt
escaped_leaves P k c s (b ∷ bs) h = chosen (Leaves P) (is_escaped c b) _ _ (k b bs h) tt

quoted_leaves : (P : Text → Type 0) → Tails P → (t : Text) → P t → If (Rest {A = Text} P) (quoted_run t)
unfolding quoted_run
quoted_leaves P k [] h = tt
quoted_leaves P k (b ∷ bs) h =
    chosen_some (Rest {A = Text} P) (b == 39) _ _ (k b bs h)
    (chosen_some (Rest {A = Text} P) (b == 0) _ _ tt (then (Rest {A = Text} P) (Rest {A = Text} P) (quoted_run bs) _ (quoted_leaves P k bs (k b bs h)) (λ x i. i)))

closed_leaves : (P : Text → Type 0) (s : State) (x : Head × Text) → P x.1 → Leaves P (closed_read s x)
closed_leaves P s (closed_head p o, rest) h = h
closed_leaves P s (filling p t c, rest) h = tt
closed_leaves P s (trimming p x l, rest) h = tt

head_leaves : (P : Text → Type 0) (s : State) (x : Head × Text) → P x.1 → Leaves P (head_read s x)
head_leaves P s (closed_head p o, rest) h = tt
head_leaves P s (filling p t c, rest) h = h
head_leaves P s (trimming p x l, rest) h = h

digit_leaves : (P : Text → Type 0) → Tails P → (s : State) (t : Text) → P t → Leaves P (digit_read s t)
digit_leaves P k s [] h = tt
digit_leaves P k s (b ∷ bs) h = k b bs h

sum_leaves : (P : Text → Type 0) → Tails P → (t : Text) → P t → P (sum_run t).1
unfolding sum_run
sum_leaves P k [] h = h
sum_leaves P k (b ∷ bs) h = chosen (Rest {A = Text} P) (is_sum_byte b bs) (b ∷ (sum_run bs).0, (sum_run bs).1) ([], b ∷ bs) (sum_leaves P k bs (k b bs h)) h

bytes_leaves : (P : Text → Type 0) (s : State) (x : Text × Text) → P x.1 → Leaves P (bytes_read s x)
bytes_leaves P s ([], rest) h = tt
bytes_leaves P s (b ∷ bs, rest) h = h

place_leaves : (P : Text → Type 0) → Tails P → (t : Text) → P t → If P (word_place t)
place_leaves P k t h = chosen_some P (is_token Word t) _ _ (gap_ends P k t h) tt

file_leaves : (P : Text → Type 0) (s : State) (x : Op × Text) → P x.1 → Leaves P (op_read s x)
file_leaves P s (Less, rest) h = h
file_leaves P s (Great, rest) h = h
file_leaves P s (DGreat, rest) h = h
file_leaves P s x h = tt

copied_leaves : (P : Text → Type 0) → Tails P → (s : State) (o : RedirectOp) (t : Text) → P t → Leaves P (copied_read s o t)
copied_leaves P k s o [] h = tt
copied_leaves P k s o (b ∷ bs) h = chosen (Leaves P) (is_copied b && not (unit_starts in_word (clear bs))) _ _ (k b bs h) tt

copy_leaves : (P : Text → Type 0) → Tails P → (s : State) (x : Op × Text) → P x.1 → Leaves P (copy_read s x)
copy_leaves P k s (LessAnd, rest) h = on P P (word_place rest) _ (place_leaves P k rest h) (λ place i. copied_leaves P k s copy_in place i)
copy_leaves P k s (GreatAnd, rest) h = on P P (word_place rest) _ (place_leaves P k rest h) (λ place i. copied_leaves P k s copy_out place i)
copy_leaves P k s x h = tt

node_leaves : (P : Text → Type 0) (m : State) (o : Option Node) → P m.bytes → Leaves P (o >>= λ x. Some (said x, m))
node_leaves P m None h = tt
node_leaves P m (Some x) h = h

after_leaves : (P : Text → Type 0) → Tails P → (k : Known) (s : State) (strips : Bool) (t : Text) → P t → Leaves P (here_after k s strips t)
after_leaves P n k s strips t h =
    on P P (word_place t) _ (place_leaves P n t h)
    (λ place i. on P (Rest {A = Text × Bool} P) (delimiter_for strips place) _ (delimiter_ends P n strips place i)
    (λ d j. node_leaves P (record s { bytes = d.1; owed = s.owed ++ record { delimiter = d.0.0; literal = d.0.1; strips = strips } ∷ []; named = suc s.named }) (here_node k s d.0.1) j))

here_leaves : (P : Text → Type 0) → Tails P → (k : Known) (s : State) (x : Op × Text) → P x.1 → Leaves P (here_read k s x)
here_leaves P n k s (DLess, rest) h = after_leaves P n k s false rest h
here_leaves P n k s (DLessDash, rest) h = after_leaves P n k s true rest h
here_leaves P n k s x h = tt

expr_leaves : (P : Text → Type 0) (s : State) (rest : Text) (o : Option Expr) → P rest → Leaves P (o >>= λ e. Some (said (expr_node e), record s { bytes = rest; sums = without_innermost s.sums }))
expr_leaves P s rest None h = tt
expr_leaves P s rest (Some e) h = h

-- what holds of each end of the text holds behind a step
pub step_leaves : (P : Text → Type 0) → Tails P → (k : Known) (p : Step) (s : State) → P s.bytes → If (λ (x : Leaf Node × State). P x.1.bytes) (run_step k p s)
unfolding run_step
step_leaves P n k (op o) s h = chosen (Leaves P) (is_token o s.bytes) _ _ (token_ends P n s.bytes h) tt
step_leaves P n k (key w) s h = chosen (Leaves P) (is_key w s.bytes) _ _ (literal_ends P n in_word (gap s.bytes) (gap_ends P n s.bytes h)) tt
step_leaves P n k line s h =
    chosen (Leaves P) (is_token Newline s.bytes) _ _
    (on P (Rest {A = List Text} P) (bodies_at s.owed (token s.bytes).1) _ (bodies_end P n s.owed (token s.bytes).1 (token_ends P n s.bytes h)) (λ x i. i)) tt
step_leaves P n k ends s h = chosen (Leaves P) (is_token End s.bytes && none_owed s.owed) _ _ (nothing_of P n s.bytes h) tt
step_leaves P n k name s h = on P (Rest {A = Text} P) (name_at (gap s.bytes)) _ (name_at_ends P n (gap s.bytes) (gap_ends P n s.bytes h)) (λ x i. chosen (Leaves P) (unit_starts in_word x.1) _ _ tt i)
step_leaves P n k assign_name s h = on P (Rest {A = Text} P) (assign_at s.bytes) _ (assign_ends P n s.bytes h) (λ x i. i)
step_leaves P n k descriptor s h = digit_leaves P n s (gap s.bytes) (gap_ends P n s.bytes h)
step_leaves P n k file_op s h = file_leaves P s (token s.bytes) (token_ends P n s.bytes h)
step_leaves P n k here s h = here_leaves P n k s (token s.bytes) (token_ends P n s.bytes h)
step_leaves P n k copy s h = copy_leaves P n s (token s.bytes) (token_ends P n s.bytes h)
step_leaves P n k to_word s h = on P P (word_place s.bytes) _ (place_leaves P n s.bytes h) (λ place i. i)
step_leaves P n k tilde s h = on P P (tilde_at (clear s.bytes)) _ (tilde_ends P n (clear s.bytes) (clear_ends P n s.bytes h)) (λ rest i. i)
step_leaves P n k (literal c) s h = literal_leaves P s (literal_run c (clear s.bytes)) (literal_ends P n c (clear s.bytes) (clear_ends P n s.bytes h))
step_leaves P n k (escaped c) s h = on P P (behind 92 (clear s.bytes)) _ (byte_behind P n 92 (clear s.bytes) (clear_ends P n s.bytes h)) (λ rest i. escaped_leaves P n c s rest i)
step_leaves P n k exact s h = on P P (behind 39 (clear s.bytes)) _ (byte_behind P n 39 (clear s.bytes) (clear_ends P n s.bytes h)) (λ rest i. on P (Rest {A = Text} P) (quoted_run rest) _ (quoted_leaves P n rest i) (λ x j. j))
step_leaves P n k quote s h = on P P (behind 34 (clear s.bytes)) _ (byte_behind P n 34 (clear s.bytes) (clear_ends P n s.bytes h)) (λ rest i. i)
step_leaves P n k dollar s h = on P (Rest {A = Param} P) (dollar_param s.bytes) _ (dollar_param_ends P n s.bytes h) (λ x i. i)
step_leaves P n k closed s h = chosen (Leaves P) (nat_lt s.depth limit) _ _ (on P (Rest {A = Head} P) (dollar_head s.bytes) _ (dollar_head_ends P n s.bytes h) (λ x i. closed_leaves P s x i)) tt
step_leaves P n k open_head s h = on P (Rest {A = Head} P) (dollar_head s.bytes) _ (dollar_head_ends P n s.bytes h) (λ x i. head_leaves P s x i)
step_leaves P n k open_subst s h = on P P (behind_two 36 40 s.bytes) _ (two_ends P n 36 40 s.bytes h) (λ rest i. i)
step_leaves P n k close_brace s h = on P P (behind 125 (clear s.bytes)) _ (byte_behind P n 125 (clear s.bytes) (clear_ends P n s.bytes h)) (λ rest i. i)
step_leaves P n k open_sum s h = on P P (dollar_sum s.bytes) _ (dollar_sum_ends P n s.bytes h) (λ rest i. i)
step_leaves P n k sum_bytes s h = bytes_leaves P s (sum_run s.bytes) (sum_leaves P n s.bytes h)
step_leaves P n k operand s h = h
step_leaves P n k sum_open s h = on P P (behind 40 s.bytes) _ (byte_behind P n 40 s.bytes h) (λ rest i. i)
step_leaves P n k sum_close s h = on P P (behind 41 s.bytes) _ (byte_behind P n 41 s.bytes h) (λ rest i. i)
step_leaves P n k close_sum s h = on P P (behind_two 41 41 s.bytes) _ (two_ends P n 41 41 s.bytes h) (λ rest i. expr_leaves P s rest (innermost s.sums) i)
step_leaves P n k enter s h = chosen (Leaves P) (nat_lt s.depth limit) _ _ h tt
step_leaves P n k leave s h = h

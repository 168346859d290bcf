-- A step leaves no more bytes than there were, and fewer where it is said to take one.
use Rattle.std.proofs.Common.{◌≡◌, ℕ, suc, ◌+◌, ◌≤◌, Bool, true, false, List, [], ◌∷◌, ◌++◌, length, Option, Some, None, arith}
use Rattle.std.specs.Prelude.{◌&&◌, not, ◌==◌, nat_lt}
use Rattle.text_grammar.specs.Grammar.{Leaf, quiet, said}
use Rattle.text_grammar.specs.Language.{one_if}
use Rattle.sh_grammar.specs.Shape.{Parts, Param, RedirectOp}
use Rattle.sh_grammar.specs.Bytes.{Text, Context, clear, gap, in_word, literal_run, unit_starts, is_escaped}
use Rattle.sh_grammar.specs.Tokens.{Op, End, Newline, Less, Great, DGreat, DLess, DLessDash, LessAnd, GreatAnd, Word, Key, If, Then, Elif, Else, Fi, For, In, Until, While, Do, Done, Case, Esac, OpenBrace, CloseBrace, Bang, token, is_token, key_text, bare, is_whole, is_key, name_at, assign_at, tilde_at}
use Rattle.sh_grammar.specs.Expansions.{◌>>=◌, Head, closed as closed_head, filling, trimming, dollar_param, dollar_head, dollar_sum, behind_two}
use Rattle.sh_grammar.specs.Bodies.{Owed, delimiter_for, bodies_at}
use Rattle.sh_grammar.specs.State.{State, move, Node, text_node, expr_node}
use Rattle.span_text.specs.declared.expr.Expr.{Expr}
use Rattle.sh_grammar.specs.Sums.{is_sum_byte, sum_run, innermost, without_innermost}
use Rattle.sh_grammar.specs.Table.{Step, op, key, line, ends, name, assign_name, descriptor, file_op, here, copy, to_word, tilde, literal, escaped, exact, quote, dollar, closed, open_head, open_subst, close_brace, open_sum, sum_bytes, operand, sum_open, sum_close, close_sum, enter, leave}
use Rattle.sh_grammar.specs.Steps.{Known, limit, Read, silent, behind, word_place, here_node, here_after, here_read, op_read, is_copied, copied_read, copy_read, digit_read, literal_read, escaped_read, quoted_run, closed_read, head_read, bytes_read, line_read, none_owed, run_step}
use Rattle.sh_grammar.specs.Depths.{op_takes, step_takes}
use Rattle.span_text.specs.KnownNames.{same_text}
use Rattle.sh_grammar.proofs.Tools as tools
use Rattle.sh_grammar.proofs.Tools.{chosen, chosen_by, then, if_some}
use Rattle.sh_grammar.proofs.Lengths.{clear_fits, gap_fits, literal_fits}
use Rattle.sh_grammar.proofs.Fronts.{TokenFits, token_fits, found_fits}
use Rattle.sh_grammar.proofs.Heads.{Rest, Left, RestLeft, behind_two_fits, dollar_param_fits, dollar_head_fits, dollar_sum_fits}
use Rattle.sh_grammar.proofs.Names.{name_fits, assign_fits, tilde_fits}
use Rattle.sh_grammar.proofs.Lines.{delimiter_for_fits, bodies_fit}

-- with k bytes more than these there are at most n
abbrev Behind : ℕ → ℕ → Read → Type 0
Behind n k o = tools.If (λ (x : Leaf Node × State). length x.1.bytes + k ≤ n) o

-- what a step gives behind what was read
on : {A : Type 0} (n : ℕ) (P : A → Type 0) (o : Option A) (f : A → Read) → tools.If P o → ((x : A) → P x → Behind n 1 (f x)) → Behind n 1 (o >>= f)
on n P o f h k = then P (λ (x : Leaf Node × State). length x.1.bytes + 1 ≤ n) o f h k

some_fits : (n k : ℕ) (x : Leaf Node) (s : State) → length s.bytes + k ≤ n → Behind n k (Some (x, s))
some_fits n k x s le = le

-- ---- reserved words

no_empty_key : (w : Key) → same_text [] (key_text w) ≡ true → ⊥
unfolding key_text
no_empty_key If e = absurd cc
no_empty_key Then e = absurd cc
no_empty_key Elif e = absurd cc
no_empty_key Else e = absurd cc
no_empty_key Fi e = absurd cc
no_empty_key For e = absurd cc
no_empty_key In e = absurd cc
no_empty_key Until e = absurd cc
no_empty_key While e = absurd cc
no_empty_key Do e = absurd cc
no_empty_key Done e = absurd cc
no_empty_key Case e = absurd cc
no_empty_key Esac e = absurd cc
no_empty_key OpenBrace e = absurd cc
no_empty_key CloseBrace e = absurd cc
no_empty_key Bang e = absurd cc

and_right : (a b : Bool) → (a && b) ≡ true → b ≡ true
and_right true b e = e
and_right false b e = absurd cc

word_left : (w : Key) (n : ℕ) (run : Text × Text) → length run.0 + length run.1 ≤ n → (is_whole run && same_text run.0 (key_text w)) ≡ true → length run.1 + 1 ≤ n
word_left w n (b ∷ bs, rest) le e = omega arith
word_left w n ([], rest) le e = absurd (no_empty_key w (and_right (is_whole ([], rest)) (same_text [] (key_text w)) e))

pub key_fits : (w : Key) (bytes : Text) → is_key w bytes ≡ true → length (bare bytes).1 + 1 ≤ length bytes
unfolding is_key
key_fits w bytes e = let g = gap_fits bytes in let l = literal_fits in_word (gap bytes) in word_left w (length bytes) (bare bytes) (omega arith) e

-- ---- words

behind_fits : (k : ℕ) (bytes : Text) → tools.If (Left (length bytes)) (behind k bytes)
behind_fits k [] = tt
behind_fits k (b ∷ bs) = let P = tools.If (Left (suc (length bs))) in let i : length bs + 1 ≤ suc (length bs) = omega arith in chosen P (b == k) _ _ i tt

behind_clear_at : (n : ℕ) (o : Option Text) (m : ℕ) → m ≤ n → tools.If (Left m) o → tools.If (Left n) o
behind_clear_at n None m le h = tt
behind_clear_at n (Some x) m le h = omega arith

-- joins before the byte
behind_clear : (k : ℕ) (bytes : Text) → tools.If (Left (length bytes)) (behind k (clear bytes))
behind_clear k bytes = behind_clear_at (length bytes) (behind k (clear bytes)) (length (clear bytes)) (clear_fits bytes) (behind_fits k (clear bytes))

literal_left : (s : State) (n : ℕ) (run : Text × Text) → length run.0 + length run.1 ≤ n → Behind n 1 (literal_read s run)
literal_left s n ([], rest) le = tt
literal_left s n (b ∷ bs, rest) le = omega arith

escaped_fits : (c : Context) (s : State) (n : ℕ) (bytes : Text) → length bytes ≤ n → Behind n 1 (escaped_read c s bytes)
escaped_fits c s n [] le = tt
escaped_fits c s n (b ∷ bs) le = let i : length bs + 1 ≤ n = omega arith in chosen (Behind n 1) (is_escaped c b) _ _ i tt

quoted_fits : (bytes : Text) → tools.If (Rest {A = Text} (length bytes)) (quoted_run bytes)
unfolding quoted_run
quoted_fits [] = tt
quoted_fits (b ∷ bs) =
    let n = length bs in let P = tools.If (Rest {A = Text} (suc n)) in let i : n ≤ suc n = omega arith in
    chosen P (b == 39) _ _ i
    (chosen P (b == 0) _ _ tt
    (then (Rest {A = Text} n) (Rest {A = Text} (suc n)) (quoted_run bs) (λ x. Some (b ∷ x.0, x.1)) (quoted_fits bs) (λ x h. omega arith)))

closed_fits : (s : State) (n : ℕ) (x : Head × Text) → length x.1 + 1 ≤ n → Behind n 1 (closed_read s x)
closed_fits s n (closed_head p o, rest) le = le
closed_fits s n (filling p t c, rest) le = tt
closed_fits s n (trimming p x l, rest) le = tt

open_fits : (s : State) (n : ℕ) (x : Head × Text) → length x.1 + 1 ≤ n → Behind n 1 (head_read s x)
open_fits s n (closed_head p o, rest) le = tt
open_fits s n (filling p t c, rest) le = le
open_fits s n (trimming p x l, rest) le = le

digit_fits : (s : State) (n : ℕ) (bytes : Text) → length bytes ≤ n → Behind n 1 (digit_read s bytes)
digit_fits s n [] le = tt
digit_fits s n (b ∷ bs) le = omega arith

-- ---- arithmetic expansions

sum_run_fits : (bs : Text) → length (sum_run bs).0 + length (sum_run bs).1 ≤ length bs
unfolding sum_run
sum_run_fits [] = omega arith
sum_run_fits (b ∷ bs) =
    let i = sum_run_fits bs in
    let p : length (b ∷ (sum_run bs).0) + length (sum_run bs).1 ≤ suc (length bs) = omega arith in
    let q : length {A = ℕ} [] + length (b ∷ bs) ≤ suc (length bs) = omega arith in
    chosen (λ (x : Text × Text). length x.0 + length x.1 ≤ suc (length bs)) (is_sum_byte b bs) (b ∷ (sum_run bs).0, (sum_run bs).1) ([], b ∷ bs) p q

bytes_fit : (s : State) (n : ℕ) (run : Text × Text) → length run.0 + length run.1 ≤ n → Behind n 1 (bytes_read s run)
bytes_fit s n ([], rest) le = tt
bytes_fit s n (b ∷ bs, rest) le = omega arith

expr_fits : (s : State) (n : ℕ) (rest : Text) (o : Option Expr) → length rest + 1 ≤ n → Behind n 1 (o >>= λ e. Some (said (expr_node e), record s { bytes = rest; sums = without_innermost s.sums }))
expr_fits s n rest None le = tt
expr_fits s n rest (Some e) le = le

-- ---- redirections

-- at most n bytes are left
abbrev Within : ℕ → Text → Type 0
Within n bytes = length bytes ≤ n

place_fits : (bytes : Text) → tools.If (Within (length bytes)) (word_place bytes)
place_fits bytes = let g = gap_fits bytes in chosen (tools.If (Within (length bytes))) (is_token Word bytes) _ _ g tt

op_fits : (s : State) (n : ℕ) (x : Op × Text) → TokenFits n x → Behind n 1 (op_read s x)
op_fits s n (Less, rest) h = h
op_fits s n (Great, rest) h = h
op_fits s n (DGreat, rest) h = h
op_fits s n x h = tt

copied_fits : (s : State) (o : RedirectOp) (n : ℕ) (bytes : Text) → length bytes + 1 ≤ n → Behind n 1 (copied_read s o bytes)
copied_fits s o n [] le = tt
copied_fits s o n (b ∷ bs) le = let i : length bs + 1 ≤ n = omega arith in chosen (Behind n 1) (is_copied b && not (unit_starts in_word (clear bs))) _ _ i tt

copy_fits : (s : State) (n : ℕ) (x : Op × Text) → TokenFits n x → Behind n 1 (copy_read s x)
copy_fits s n (LessAnd, rest) h = on n (Within (length rest)) (word_place rest) _ (place_fits rest) (λ place i. copied_fits s Rattle.sh_grammar.specs.Shape.copy_in n place (omega arith))
copy_fits s n (GreatAnd, rest) h = on n (Within (length rest)) (word_place rest) _ (place_fits rest) (λ place i. copied_fits s Rattle.sh_grammar.specs.Shape.copy_out n place (omega arith))
copy_fits s n x h = tt

node_fits : (s : State) (n : ℕ) (rest : Text) (owed : List Owed) (o : Option Node) → length rest + 1 ≤ n →
    Behind n 1 (o >>= λ x. Some (said x, record s { bytes = rest; owed = owed; named = suc s.named }))
node_fits s n rest owed None le = tt
node_fits s n rest owed (Some x) le = le

here_after_fits : (k : Known) (s : State) (strips : Bool) (n : ℕ) (bytes : Text) → length bytes + 1 ≤ n → Behind n 1 (here_after k s strips bytes)
here_after_fits k s strips n bytes le =
    on n (Within (length bytes)) (word_place bytes) _ (place_fits bytes)
    (λ place i. on n (Rest {A = Text × Bool} (length place)) (delimiter_for strips place) _ (delimiter_for_fits strips place)
    (λ d h. node_fits s n d.1 (s.owed ++ record { delimiter = d.0.0; literal = d.0.1; strips = strips } ∷ []) (here_node k s d.0.1) (omega arith)))

here_fits : (k : Known) (s : State) (n : ℕ) (x : Op × Text) → TokenFits n x → Behind n 1 (here_read k s x)
here_fits k s n (DLess, rest) h = here_after_fits k s false n rest h
here_fits k s n (DLessDash, rest) h = here_after_fits k s true n rest h
here_fits k s n x h = tt

line_fits : (s : State) (n : ℕ) (rest : Text) → length rest + 1 ≤ n → Behind n 1 (line_read s rest)
line_fits s n rest le =
    then (Rest {A = List Text} (length rest)) (λ (x : Leaf Node × State). length x.1.bytes + 1 ≤ n) (bodies_at s.owed rest)
    (λ x. Some (quiet, record s { bytes = x.1; owed = []; found = s.found ++ x.0 })) (bodies_fit s.owed rest) (λ x h. omega arith)

-- ---- steps

abbrev StepFits : Known → Step → State → Type 0
StepFits k p s = Behind (length s.bytes) (one_if (step_takes p)) (run_step k p s)

fits : (k : Known) (p : Step) (s : State) → StepFits k p s
unfolding run_step
fits k (op o) s = chosen_by (Behind (length s.bytes) (one_if (op_takes o))) (is_token o s.bytes) _ _ (λ e. found_fits o s.bytes e) (λ e. tt)
fits k (key w) s = chosen_by (Behind (length s.bytes) 1) (is_key w s.bytes) _ _ (λ e. key_fits w s.bytes e) (λ e. tt)
fits k line s = chosen_by (Behind (length s.bytes) 1) (is_token Newline s.bytes) _ _ (λ e. line_fits s (length s.bytes) (token s.bytes).1 (found_fits Newline s.bytes e)) (λ e. tt)
fits k ends s = chosen (Behind (length s.bytes) 0) (is_token End s.bytes && none_owed s.owed) _ _ (omega arith) tt
fits k name s = let g = gap_fits s.bytes in let n = length s.bytes in
    on n (RestLeft {A = Text} (length (gap s.bytes))) (name_at (gap s.bytes)) _ (name_fits (gap s.bytes)) (λ x h. chosen (Behind n 1) (unit_starts in_word x.1) _ _ tt (some_fits n 1 (said (text_node x.0)) (move s x.1) (omega arith)))
fits k assign_name s = on (length s.bytes) (RestLeft {A = Text} (length s.bytes)) (assign_at s.bytes) _ (assign_fits s.bytes) (λ x h. h)
fits k descriptor s = digit_fits s (length s.bytes) (gap s.bytes) (gap_fits s.bytes)
fits k file_op s = op_fits s (length s.bytes) (token s.bytes) (token_fits s.bytes)
fits k here s = here_fits k s (length s.bytes) (token s.bytes) (token_fits s.bytes)
fits k copy s = copy_fits s (length s.bytes) (token s.bytes) (token_fits s.bytes)
fits k to_word s = then (Within (length s.bytes)) (λ (x : Leaf Node × State). length x.1.bytes + 0 ≤ length s.bytes) (word_place s.bytes) (λ place. silent s place) (place_fits s.bytes) (λ place h. omega arith)
fits k tilde s = let c = clear_fits s.bytes in on (length s.bytes) (Left (length (clear s.bytes))) (tilde_at (clear s.bytes)) _ (tilde_fits (clear s.bytes)) (λ rest h. omega arith)
fits k (literal c) s = let g = clear_fits s.bytes in let l = literal_fits c (clear s.bytes) in literal_left s (length s.bytes) (literal_run c (clear s.bytes)) (omega arith)
fits k (escaped c) s = on (length s.bytes) (Left (length s.bytes)) (behind 92 (clear s.bytes)) _ (behind_clear 92 s.bytes) (λ rest h. escaped_fits c s (length s.bytes) rest (omega arith))
fits k exact s =
    on (length s.bytes) (Left (length s.bytes)) (behind 39 (clear s.bytes)) _ (behind_clear 39 s.bytes)
    (λ rest h. on (length s.bytes) (Rest {A = Text} (length rest)) (quoted_run rest) _ (quoted_fits rest) (λ x j. omega arith))
fits k quote s = on (length s.bytes) (Left (length s.bytes)) (behind 34 (clear s.bytes)) _ (behind_clear 34 s.bytes) (λ rest h. h)
fits k dollar s = on (length s.bytes) (RestLeft {A = Param} (length s.bytes)) (dollar_param s.bytes) _ (dollar_param_fits s.bytes) (λ x h. h)
fits k closed s =
    chosen (Behind (length s.bytes) 1) (nat_lt s.depth limit) _ _
    (on (length s.bytes) (RestLeft {A = Head} (length s.bytes)) (dollar_head s.bytes) (λ x. closed_read s x) (dollar_head_fits s.bytes) (λ x h. closed_fits s (length s.bytes) x h)) tt
fits k open_head s = on (length s.bytes) (RestLeft {A = Head} (length s.bytes)) (dollar_head s.bytes) (λ x. head_read s x) (dollar_head_fits s.bytes) (λ x h. open_fits s (length s.bytes) x h)
fits k open_subst s = on (length s.bytes) (Left (length s.bytes)) (behind_two 36 40 s.bytes) _ (behind_two_fits 36 40 s.bytes) (λ rest h. h)
fits k close_brace s = on (length s.bytes) (Left (length s.bytes)) (behind 125 (clear s.bytes)) _ (behind_clear 125 s.bytes) (λ rest h. h)
fits k open_sum s = on (length s.bytes) (Left (length s.bytes)) (dollar_sum s.bytes) _ (dollar_sum_fits s.bytes) (λ rest h. h)
fits k sum_bytes s = bytes_fit s (length s.bytes) (sum_run s.bytes) (sum_run_fits s.bytes)
fits k operand s = omega arith
fits k sum_open s = on (length s.bytes) (Left (length s.bytes)) (behind 40 s.bytes) _ (behind_fits 40 s.bytes) (λ rest h. h)
fits k sum_close s = on (length s.bytes) (Left (length s.bytes)) (behind 41 s.bytes) _ (behind_fits 41 s.bytes) (λ rest h. h)
fits k close_sum s = on (length s.bytes) (Left (length s.bytes)) (behind_two 41 41 s.bytes) _ (behind_two_fits 41 41 s.bytes) (λ rest h. expr_fits s (length s.bytes) rest (innermost s.sums) h)
fits k enter s = chosen (Behind (length s.bytes) 0) (nat_lt s.depth limit) _ _ (omega arith) tt
fits k leave s = omega arith

pub step_fits : (k : Known) (p : Step) (s m : State) (x : Leaf Node) → run_step k p s ≡ Some (x, m) → length m.bytes + one_if (step_takes p) ≤ length s.bytes
step_fits k p s m x e = if_some (λ (y : Leaf Node × State). length y.1.bytes + one_if (step_takes p) ≤ length s.bytes) (run_step k p s) (x, m) e (fits k p s)

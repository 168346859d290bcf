-- Steps leave an end of what was ahead: what holds of each end of a text holds of what they leave.
use Rattle.std.proofs.Common.{ℕ, Bool, true, false, cond, [], ◌∷◌, length, Option, Some, None}
use Rattle.std.specs.Prelude.{◌||◌, not, ◌==◌}
use Rattle.span_text.specs.Names.{begins_name, continues_name, is_digit}
use Rattle.sh_grammar.specs.Shape.{Param, FillTest, count}
use Rattle.sh_grammar.specs.Bytes.{Text, Context, is_join, clear_from, clear, comment_end, is_blank, gap_from, gap, with_byte, run_from, is_literal, in_word, literal_run, name_run, digit_run, starts, unit_starts}
use Rattle.sh_grammar.specs.Tokens.{Op, Other, Io, Word, Newline, Semi, SemiSemi, AndIf, OrIf, Pipe, Less, Great, DGreat, DLess, DLessDash, LessAnd, GreatAnd, after_byte, goes_on_with, semi_at, and_at, pipe_at, here_at, less_at, great_at, is_angle, digits_word, word_at, front, token, name_at, assign_at, tilde_at}
use Rattle.sh_grammar.specs.Tokens as tokens
use Rattle.sh_grammar.specs.Expansions.{◌>>=◌, Head, special, param_at, long_param_at, fill_test, filling, fills, trims, operator_at, is_close, tail, length_head, or_else, is_dash, hash_head, is_hash, head_at, behind, behind_two, dollar_param, dollar_head, dollar_sum}
use Rattle.sh_grammar.proofs.Tools.{If, then, chosen, chosen_some}

-- it holds of an end of what it holds of
abbrev pub Tails : (Text → Type 0) → Type 0
Tails P = (b : ℕ) (bs : Text) → P (b ∷ bs) → P bs

-- of what is left behind what was read
abbrev pub Rest : {A : Type 0} → (Text → Type 0) → A × Text → Type 0
Rest P x = P x.1

-- ---- joins, gaps, runs

clear_from_ends : (P : Text → Type 0) → Tails P → (q : Bool) (t : Text) → P t → P (clear_from q t)
clear_from_ends P k true [] h = h
clear_from_ends P k false [] h = h
clear_from_ends P k true (b ∷ bs) h = clear_from_ends P k false bs (k b bs h)
clear_from_ends P k false (b ∷ bs) h = chosen P (is_join b bs) (clear_from true bs) (b ∷ bs) (clear_from_ends P k true bs (k b bs h)) h

pub clear_ends : (P : Text → Type 0) → Tails P → (t : Text) → P t → P (clear t)
unfolding clear
clear_ends P k t h = clear_from_ends P k false t h

comment_ends : (P : Text → Type 0) → Tails P → (t : Text) → P t → P (comment_end t)
unfolding comment_end
comment_ends P k [] h = h
comment_ends P k (b ∷ bs) h = chosen P (b == 10) (b ∷ bs) (comment_end bs) h (comment_ends P k bs (k b bs h))

gap_from_ends : (P : Text → Type 0) → Tails P → (q : Bool) (t : Text) → P t → P (gap_from q t)
gap_from_ends P k true [] h = h
gap_from_ends P k false [] h = h
gap_from_ends P k true (b ∷ bs) h = gap_from_ends P k false bs (k b bs h)
gap_from_ends P k false (b ∷ bs) h =
    let hash = cond (b == 35) (comment_end bs) (b ∷ bs) in
    let i = k b bs h in
    chosen P (is_blank b) (gap_from false bs) (cond (is_join b bs) (gap_from true bs) hash) (gap_from_ends P k false bs i)
    (chosen P (is_join b bs) (gap_from true bs) hash (gap_from_ends P k true bs i)
    (chosen P (b == 35) (comment_end bs) (b ∷ bs) (comment_ends P k bs i) h))

pub gap_ends : (P : Text → Type 0) → Tails P → (t : Text) → P t → P (gap t)
unfolding gap
gap_ends P k t h = gap_from_ends P k false t h

pub run_ends : (P : Text → Type 0) → Tails P → (g : ℕ → Text → Bool) (q : Bool) (t : Text) → P t → P (run_from g q t).1
run_ends P k g true [] h = h
run_ends P k g false [] h = h
run_ends P k g true (b ∷ bs) h = run_ends P k g false bs (k b bs h)
run_ends P k g false (b ∷ bs) h =
    let i = k b bs h in
    chosen (Rest P) (is_join b bs) (run_from g true bs) (cond (g b bs) (with_byte b (run_from g false bs)) ([], b ∷ bs)) (run_ends P k g true bs i)
    (chosen (Rest P) (g b bs) (with_byte b (run_from g false bs)) ([], b ∷ bs) (run_ends P k g false bs i) h)

pub literal_ends : (P : Text → Type 0) → Tails P → (c : Context) (t : Text) → P t → P (literal_run c t).1
unfolding literal_run
literal_ends P k c t h = run_ends P k (is_literal c) false t h

pub name_ends : (P : Text → Type 0) → Tails P → (t : Text) → P t → P (name_run t).1
unfolding name_run
name_ends P k t h = run_ends P k (λ b bs. continues_name b) false t h

pub digit_ends : (P : Text → Type 0) → Tails P → (t : Text) → P t → P (digit_run t).1
unfolding digit_run
digit_ends P k t h = run_ends P k (λ b bs. is_digit b) false t h

-- ---- tokens

after_ends : (P : Text → Type 0) → Tails P → (n : ℕ) (t : Text) (longer : Text → Op × Text) (shorter : Op × Text) → P t → ((u : Text) → P u → P (longer u).1) → P shorter.1 → P (after_byte n t longer shorter).1
after_ends P k n [] longer shorter h f g = g
after_ends P k n (b ∷ bs) longer shorter h f g = chosen (Rest {A = Op} P) (b == n) (longer bs) shorter (f bs (k b bs h)) g

on_ends : (P : Text → Type 0) → Tails P → (n : ℕ) (t : Text) (longer : Text → Op × Text) (shorter : Op × Text) → P t → ((u : Text) → P u → P (longer u).1) → P shorter.1 → P (goes_on_with n t longer shorter).1
on_ends P k n t longer shorter h f g = after_ends P k n (clear t) longer shorter (clear_ends P k t h) f g

semi_ends : (P : Text → Type 0) → Tails P → (t : Text) → P t → P (semi_at t).1
unfolding semi_at
semi_ends P k t h = on_ends P k 59 t _ _ h (λ u i. on_ends P k 38 u _ _ i (λ v j. j) i) (on_ends P k 38 t _ _ h (λ u i. i) h)

and_ends : (P : Text → Type 0) → Tails P → (t : Text) → P t → P (and_at t).1
unfolding and_at
and_ends P k t h = on_ends P k 38 t _ _ h (λ u i. i) h

pipe_ends : (P : Text → Type 0) → Tails P → (t : Text) → P t → P (pipe_at t).1
unfolding pipe_at
pipe_ends P k t h = on_ends P k 124 t _ _ h (λ u i. i) (on_ends P k 38 t _ _ h (λ u i. i) h)

here_ends : (P : Text → Type 0) → Tails P → (t : Text) → P t → P (here_at t).1
unfolding here_at
here_ends P k t h = on_ends P k 45 t _ _ h (λ u i. i) (on_ends P k 60 t _ _ h (λ u i. i) h)

less_ends : (P : Text → Type 0) → Tails P → (t : Text) → P t → P (less_at t).1
unfolding less_at
less_ends P k t h = on_ends P k 60 t here_at _ h (λ u i. here_ends P k u i) (on_ends P k 38 t _ _ h (λ u i. i) (on_ends P k 62 t _ _ h (λ u i. i) h))

great_ends : (P : Text → Type 0) → Tails P → (t : Text) → P t → P (great_at t).1
unfolding great_at
great_ends P k t h = on_ends P k 62 t _ _ h (λ u i. i) (on_ends P k 38 t _ _ h (λ u i. i) (on_ends P k 124 t _ _ h (λ u i. i) h))

word_ends : (P : Text → Type 0) → Tails P → (t : Text) → P t → P (word_at t).1
word_ends P k t h =
    chosen (Rest {A = Op} P) (starts is_digit t) (digits_word t (digit_run t)) (Word, t)
    (chosen (Rest {A = Op} P) (starts is_angle (digit_run t).1) (cond (length (digit_run t).0 == 1) (Io, (digit_run t).1) (Other, t)) (Word, t)
    (chosen (Rest {A = Op} P) (length (digit_run t).0 == 1) (Io, (digit_run t).1) (Other, t) (digit_ends P k t h) h) h) h

front_ends : (P : Text → Type 0) → Tails P → (t : Text) → P t → P (front t).1
unfolding front
front_ends P k [] h = h
front_ends P k (b ∷ bs) h =
    let R = Rest {A = Op} P in
    let i = k b bs h in
    chosen R (b == 10) _ _ i
    (chosen R (b == 59) _ _ (semi_ends P k bs i)
    (chosen R (b == 38) _ _ (and_ends P k bs i)
    (chosen R (b == 124) _ _ (pipe_ends P k bs i)
    (chosen R (b == 40) _ _ i
    (chosen R (b == 41) _ _ i
    (chosen R (b == 60) _ _ (less_ends P k bs i)
    (chosen R (b == 62) _ _ (great_ends P k bs i)
    (chosen R (unit_starts in_word (b ∷ bs)) _ _ (word_ends P k (b ∷ bs) h) h))))))))

pub token_ends : (P : Text → Type 0) → Tails P → (t : Text) → P t → P (token t).1
unfolding token
token_ends P k t h = front_ends P k (gap t) (gap_ends P k t h)

-- ---- names

pub name_at_ends : (P : Text → Type 0) → Tails P → (t : Text) → P t → If (Rest {A = Text} P) (name_at t)
unfolding name_at
name_at_ends P k t h = chosen_some (Rest {A = Text} P) (starts begins_name t) _ _ (name_ends P k t h) tt

behind_ends_of : (P : Text → Type 0) → Tails P → (n : ℕ) (t : Text) → P t → If P (tokens.behind n t)
behind_ends_of P k n [] h = tt
behind_ends_of P k n (b ∷ bs) h = chosen_some P (b == n) _ _ (k b bs h) tt

then_of : {A B : Type 0} (P : A → Type 0) (Q : B → Type 0) (o : Option A) (f : A → Option B) → If P o → ((x : A) → P x → If Q (f x)) → If Q (tokens.◌>>=◌ o f)
then_of P Q None f h g = tt
then_of P Q (Some x) f h g = g x h

pub assign_ends : (P : Text → Type 0) → Tails P → (t : Text) → P t → If (Rest {A = Text} P) (assign_at t)
unfolding assign_at
assign_ends P k t h =
    then_of (Rest {A = Text} P) (Rest {A = Text} P) (name_at (gap t)) _ (name_at_ends P k (gap t) (gap_ends P k t h))
    (λ x i. then_of P (Rest {A = Text} P) (tokens.behind 61 (clear x.1)) _ (behind_ends_of P k 61 (clear x.1) (clear_ends P k x.1 i)) (λ rest j. j))

pub tilde_ends : (P : Text → Type 0) → Tails P → (t : Text) → P t → If P (tilde_at t)
unfolding tilde_at
tilde_ends P k t h = then_of P P (tokens.behind 126 t) _ (behind_ends_of P k 126 t h) (λ rest i. chosen_some P (starts (λ b. b == 47) (clear rest) || not (unit_starts in_word (clear rest))) _ _ i tt)

-- ---- what stands behind a `$`

special_ends : (P : Text → Type 0) (b : ℕ) (bs : Text) → P bs → If (Rest {A = Param} P) (special b bs)
special_ends P b bs h =
    let R = Rest {A = Param} P in
    chosen_some R (b == 35) _ _ h (chosen_some R (b == 63) _ _ h (chosen_some R (b == 64) _ _ h (chosen_some R (b == 42) _ _ h tt)))

param_ends : (P : Text → Type 0) → Tails P → (t : Text) → P t → If (Rest {A = Param} P) (param_at t)
unfolding param_at
param_ends P k [] h = tt
param_ends P k (b ∷ bs) h =
    let R = Rest {A = Param} P in
    chosen_some R (begins_name b) _ _ (name_ends P k (b ∷ bs) h) (chosen_some R (is_digit b) _ _ (k b bs h) (special_ends P b bs (k b bs h)))

pub long_ends : (P : Text → Type 0) → Tails P → (t : Text) → P t → If (Rest {A = Param} P) (long_param_at t)
unfolding long_param_at
long_ends P k [] h = tt
long_ends P k (b ∷ bs) h =
    let R = Rest {A = Param} P in
    chosen_some R (begins_name b) _ _ (name_ends P k (b ∷ bs) h) (chosen_some R (is_digit b) _ _ (digit_ends P k (b ∷ bs) h) (special_ends P b bs (k b bs h)))

fill_ends : (P : Text → Type 0) (p : Param) (colon : Bool) (bs : Text) (o : Option FillTest) → P bs → If (Rest {A = Head} P) (o >>= λ t. Some (filling p t colon, bs))
fill_ends P p colon bs None h = tt
fill_ends P p colon bs (Some t) h = h

fills_ends : (P : Text → Type 0) → Tails P → (p : Param) (colon : Bool) (t : Text) → P t → If (Rest {A = Head} P) (fills p colon t)
fills_ends P k p colon [] h = tt
fills_ends P k p colon (b ∷ bs) h = fill_ends P p colon bs (fill_test b) (k b bs h)

trims_ends : (P : Text → Type 0) → Tails P → (p : Param) (suffix : Bool) (n : ℕ) (t : Text) → P t → If (Rest {A = Head} P) (trims p suffix n t)
trims_ends P k p suffix n [] h = h
trims_ends P k p suffix n (b ∷ bs) h = chosen_some (Rest {A = Head} P) (b == n) _ _ (k b bs h) h

operator_ends : (P : Text → Type 0) → Tails P → (p : Param) (t : Text) → P t → If (Rest {A = Head} P) (operator_at p t)
operator_ends P k p [] h = tt
operator_ends P k p (b ∷ bs) h =
    let R = Rest {A = Head} P in
    let i = k b bs h in let j = clear_ends P k bs i in
    chosen_some R (b == 125) _ _ i
    (chosen_some R (b == 58) _ _ (fills_ends P k p true (clear bs) j)
    (chosen_some R (b == 35) _ _ (trims_ends P k p false 35 (clear bs) j)
    (chosen_some R (b == 37) _ _ (trims_ends P k p true 37 (clear bs) j) (fills_ends P k p false (b ∷ bs) h))))

pub tail_ends : (P : Text → Type 0) → Tails P → (t : Text) → P t → P (tail t)
tail_ends P k [] h = h
tail_ends P k (b ∷ bs) h = k b bs h

length_ends : (P : Text → Type 0) → Tails P → (o : Option (Param × Text)) → If (Rest {A = Param} P) o → If (Rest {A = Head} P) (length_head o)
length_ends P k None h = tt
length_ends P k (Some x) h = chosen_some (Rest {A = Head} P) (is_close (clear x.1)) _ _ (tail_ends P k (clear x.1) (clear_ends P k x.1 h)) tt

else_ends : {A : Type 0} (P : A → Type 0) (o p : Option A) → If P o → If P p → If P (or_else o p)
else_ends P None p h i = i
else_ends P (Some x) p h i = h

hash_ends : (P : Text → Type 0) → Tails P → (t : Text) → P t → If (Rest {A = Head} P) (hash_head t)
hash_ends P k t h =
    let R = Rest {A = Head} P in
    let o = operator_ends P k count t h in
    chosen_some R (is_close t || is_dash t) _ _ (chosen_some R (is_dash t) _ _ tt o) (else_ends R (length_head (long_param_at t)) (operator_at count t) (length_ends P k (long_param_at t) (long_ends P k t h)) o)

head_ends : (P : Text → Type 0) → Tails P → (t : Text) → P t → If (Rest {A = Head} P) (head_at t)
unfolding head_at
head_ends P k t h =
    chosen_some (Rest {A = Head} P) (is_hash t) _ _ (hash_ends P k (clear (tail t)) (clear_ends P k (tail t) (tail_ends P k t h)))
    (then (Rest {A = Param} P) (Rest {A = Head} P) (long_param_at t) _ (long_ends P k t h) (λ x i. operator_ends P k x.0 (clear x.1) (clear_ends P k x.1 i)))

pub byte_ends : (P : Text → Type 0) → Tails P → (n : ℕ) (t : Text) → P t → If P (behind n t)
byte_ends P k n [] h = tt
byte_ends P k n (b ∷ bs) h = chosen_some P (b == n) _ _ (k b bs h) tt

pub two_ends : (P : Text → Type 0) → Tails P → (m n : ℕ) (t : Text) → P t → If P (behind_two m n t)
unfolding behind_two
two_ends P k m n t h = then P P (behind m (clear t)) _ (byte_ends P k m (clear t) (clear_ends P k t h)) (λ rest i. byte_ends P k n (clear rest) (clear_ends P k rest i))

pub dollar_param_ends : (P : Text → Type 0) → Tails P → (t : Text) → P t → If (Rest {A = Param} P) (dollar_param t)
unfolding dollar_param
dollar_param_ends P k t h = then P (Rest {A = Param} P) (behind 36 (clear t)) _ (byte_ends P k 36 (clear t) (clear_ends P k t h)) (λ rest i. param_ends P k (clear rest) (clear_ends P k rest i))

pub dollar_head_ends : (P : Text → Type 0) → Tails P → (t : Text) → P t → If (Rest {A = Head} P) (dollar_head t)
unfolding dollar_head
dollar_head_ends P k t h = then P (Rest {A = Head} P) (behind_two 36 123 t) _ (two_ends P k 36 123 t h) (λ rest i. head_ends P k (clear rest) (clear_ends P k rest i))

pub dollar_sum_ends : (P : Text → Type 0) → Tails P → (t : Text) → P t → If P (dollar_sum t)
unfolding dollar_sum
dollar_sum_ends P k t h = then P P (behind_two 36 40 t) _ (two_ends P k 36 40 t h) (λ rest i. byte_ends P k 40 (clear rest) (clear_ends P k rest i))

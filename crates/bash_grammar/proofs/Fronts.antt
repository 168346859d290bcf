-- What a token leaves: an operator that the table reads takes a byte.
use Rattle.std.proofs.Common.{◌≡◌, ℕ, suc, ◌+◌, ◌≤◌, Bool, true, cond, [], ◌∷◌, length, Option, Some, None, refl, sym, ap, subst, ◌∙◌, eqb-true, arith}
use Rattle.std.specs.Prelude.{◌&&◌, not, ◌==◌, nat_lt}
use Rattle.text_grammar.specs.Language.{one_if}
use Rattle.span_text.specs.Names.{begins_name}
use Rattle.bash_grammar.specs.Bytes.{Text, clear, gap, starts, byte_next, is_angle, name_run, digit_run}
use Rattle.bash_grammar.specs.Tokens.{Op, End, Newline, Semi, SemiSemi, SemiAnd, SemiSemiAnd, Amp, AndIf, OrIf, Pipe, PipeAnd, Open, Close, Less, Great, Clobber, DGreat, DLess, DLessDash, TLess, LessAnd, GreatAnd, LessGreat, AndGreat, AndDGreat, Io, Far, Word, code, after_byte, goes_on_with, semi_at, and_at, pipe_at, here_at, less_at, great_at, angle_at, is_redirecting, behind, braced_at, digits_word, braces_word, word_at, front, token, is_token}
use Rattle.bash_grammar.specs.Depths.{op_takes}
use Rattle.bash_grammar.proofs.Tools.{chosen, If, then}
use Rattle.bash_grammar.proofs.Lengths.{clear_fits, gap_fits, name_run_fits, digit_run_fits}

-- a token of at most n bytes, fewer where the operator takes one
abbrev pub TokenFits : ℕ → Op × Text → Type 0
TokenFits n x = length x.1 + one_if (op_takes x.0) ≤ n

takes_one : (o : Op) → one_if (op_takes o) ≤ 1
takes_one End = omega arith
takes_one Newline = omega arith
takes_one Semi = omega arith
takes_one SemiSemi = omega arith
takes_one SemiAnd = omega arith
takes_one SemiSemiAnd = omega arith
takes_one Amp = omega arith
takes_one AndIf = omega arith
takes_one OrIf = omega arith
takes_one Pipe = omega arith
takes_one PipeAnd = omega arith
takes_one Open = omega arith
takes_one Close = omega arith
takes_one Less = omega arith
takes_one Great = omega arith
takes_one Clobber = omega arith
takes_one DGreat = omega arith
takes_one DLess = omega arith
takes_one DLessDash = omega arith
takes_one TLess = omega arith
takes_one LessAnd = omega arith
takes_one GreatAnd = omega arith
takes_one LessGreat = omega arith
takes_one AndGreat = omega arith
takes_one AndDGreat = omega arith
takes_one Io = omega arith
takes_one Far = omega arith
takes_one Word = omega arith

-- behind a byte of an operator
behind_fits : (o : Op) (n : ℕ) (bs : Text) → length bs ≤ n → TokenFits (suc n) (o, bs)
behind_fits o n bs le = let i = takes_one o in omega arith

after_fits : (n k : ℕ) (bs : Text) (longer : Text → Op × Text) (shorter : Op × Text) → length bs ≤ n → ((cs : Text) → length cs ≤ n → TokenFits (suc n) (longer cs)) → TokenFits (suc n) shorter →
    TokenFits (suc n) (after_byte k bs longer shorter)
after_fits n k [] longer shorter le h i = i
after_fits n k (b ∷ bs) longer shorter le h i = chosen (TokenFits (suc n)) (b == k) (longer bs) shorter (h bs (omega arith)) i

on_fits : (n k : ℕ) (bs : Text) (longer : Text → Op × Text) (shorter : Op × Text) → length bs ≤ n → ((cs : Text) → length cs ≤ n → TokenFits (suc n) (longer cs)) → TokenFits (suc n) shorter →
    TokenFits (suc n) (goes_on_with k bs longer shorter)
on_fits n k bs longer shorter le h i = let c = clear_fits bs in after_fits n k (clear bs) longer shorter (omega arith) h i

semi_fits : (n : ℕ) (bs : Text) → length bs ≤ n → TokenFits (suc n) (semi_at bs)
unfolding semi_at
semi_fits n bs le =
    on_fits n 59 bs _ _ le
    (λ cs i. on_fits n 38 cs _ _ i (λ ds j. behind_fits SemiSemiAnd n ds j) (behind_fits SemiSemi n cs i))
    (on_fits n 38 bs _ _ le (λ cs i. behind_fits SemiAnd n cs i) (behind_fits Semi n bs le))

and_fits : (n : ℕ) (bs : Text) → length bs ≤ n → TokenFits (suc n) (and_at bs)
unfolding and_at
and_fits n bs le =
    on_fits n 38 bs _ _ le (λ cs i. behind_fits AndIf n cs i)
    (on_fits n 62 bs _ _ le (λ cs i. on_fits n 62 cs _ _ i (λ ds j. behind_fits AndDGreat n ds j) (behind_fits AndGreat n cs i)) (behind_fits Amp n bs le))

pipe_fits : (n : ℕ) (bs : Text) → length bs ≤ n → TokenFits (suc n) (pipe_at bs)
unfolding pipe_at
pipe_fits n bs le = on_fits n 124 bs _ _ le (λ cs i. behind_fits OrIf n cs i) (on_fits n 38 bs _ _ le (λ cs i. behind_fits PipeAnd n cs i) (behind_fits Pipe n bs le))

here_fits : (n : ℕ) (bs : Text) → length bs ≤ n → TokenFits (suc n) (here_at bs)
unfolding here_at
here_fits n bs le = on_fits n 45 bs _ _ le (λ cs i. behind_fits DLessDash n cs i) (on_fits n 60 bs _ _ le (λ cs i. behind_fits TLess n cs i) (behind_fits DLess n bs le))

less_fits : (n : ℕ) (bs : Text) → length bs ≤ n → TokenFits (suc n) (less_at bs)
unfolding less_at
less_fits n bs le =
    on_fits n 60 bs here_at _ le (λ cs i. here_fits n cs i)
    (on_fits n 38 bs _ _ le (λ cs i. behind_fits LessAnd n cs i) (on_fits n 62 bs _ _ le (λ cs i. behind_fits LessGreat n cs i) (behind_fits Less n bs le)))

great_fits : (n : ℕ) (bs : Text) → length bs ≤ n → TokenFits (suc n) (great_at bs)
unfolding great_at
great_fits n bs le =
    on_fits n 62 bs _ _ le (λ cs i. behind_fits DGreat n cs i)
    (on_fits n 38 bs _ _ le (λ cs i. behind_fits GreatAnd n cs i) (on_fits n 124 bs _ _ le (λ cs i. behind_fits Clobber n cs i) (behind_fits Great n bs le)))

angle_fits : (b : ℕ) (bs : Text) → TokenFits (suc (length bs)) (angle_at b bs)
angle_fits b bs =
    let n = length bs in let P = TokenFits (suc n) in
    let le : length bs ≤ n = omega arith in let all : TokenFits (suc n) (Word, b ∷ bs) = omega arith in
    chosen P (byte_next 40 bs) _ _ all (chosen P (b == 60) _ _ (less_fits n bs le) (great_fits n bs le))

digits_fit : (bytes : Text) → TokenFits (length bytes) (digits_word bytes (digit_run bytes))
digits_fit bytes =
    let i = digit_run_fits bytes in
    chosen (TokenFits (length bytes)) (is_redirecting (clear (digit_run bytes).1)) (cond (length (digit_run bytes).0 == 1) (Io, (digit_run bytes).1) (Far, (digit_run bytes).1)) (Word, bytes)
    (chosen (TokenFits (length bytes)) (length (digit_run bytes).0 == 1) (Io, (digit_run bytes).1) (Far, (digit_run bytes).1) (omega arith) (omega arith)) (omega arith)

abbrev Within : ℕ → Text → Type 0
Within n bytes = length bytes ≤ n

one_behind : (k n : ℕ) (bytes : Text) → length bytes ≤ n → If (Within n) (behind k bytes)
one_behind k n [] le = tt
one_behind k n (b ∷ bs) le = let i : length bs ≤ n = omega arith in chosen (If (Within n)) (b == k) (Some bs) None i tt

braced_fits : (bytes : Text) → If (Within (length bytes)) (braced_at bytes)
braced_fits bytes =
    let n = length bytes in
    then (Within n) (Within n) (behind 123 bytes) (λ x. cond (starts begins_name (clear x)) (behind 125 (clear (name_run x).1)) None) (one_behind 123 n bytes (omega arith))
    (λ x h. let r = name_run_fits x in let c = clear_fits (name_run x).1 in
    chosen (If (Within n)) (starts begins_name (clear x)) (behind 125 (clear (name_run x).1)) None (one_behind 125 n (clear (name_run x).1) (omega arith)) tt)

braces_fit : (bytes : Text) (o : Option Text) → If (Within (length bytes)) o → TokenFits (length bytes) (braces_word bytes o)
braces_fit bytes None h = omega arith
braces_fit bytes (Some rest) h = chosen (TokenFits (length bytes)) (is_redirecting (clear rest)) (Far, rest) (Word, bytes) (omega arith) (omega arith)

word_fits : (bytes : Text) → TokenFits (length bytes) (word_at bytes)
word_fits bytes = chosen (TokenFits (length bytes)) (starts Rattle.span_text.specs.Names.is_digit bytes) (digits_word bytes (digit_run bytes)) (braces_word bytes (braced_at bytes)) (digits_fit bytes) (braces_fit bytes (braced_at bytes) (braced_fits bytes))

pub front_fits : (bytes : Text) → TokenFits (length bytes) (front bytes)
unfolding front
front_fits [] = omega arith
front_fits (b ∷ bs) =
    let n = length bs in
    let P = TokenFits (suc n) in
    let le : length bs ≤ n = omega arith in
    chosen P (b == 10) _ _ (behind_fits Newline n bs le)
    (chosen P (b == 59) _ _ (semi_fits n bs le)
    (chosen P (b == 38) _ _ (and_fits n bs le)
    (chosen P (b == 124) _ _ (pipe_fits n bs le)
    (chosen P (b == 40) _ _ (behind_fits Open n bs le)
    (chosen P (b == 41) _ _ (behind_fits Close n bs le)
    (chosen P (is_angle b) _ _ (angle_fits b bs) (word_fits (b ∷ bs))))))))

pub token_fits : (bytes : Text) → TokenFits (length bytes) (token bytes)
unfolding token
token_fits bytes = let i = gap_fits bytes in let j = front_fits (gap bytes) in omega arith

-- ---- which operator it is

-- by its number
abbrev takes_code : ℕ → Bool
takes_code n = not (n == 0) && nat_lt n 25

by_code : (o : Op) → op_takes o ≡ takes_code (code o)
unfolding code
by_code End = refl
by_code Newline = refl
by_code Semi = refl
by_code SemiSemi = refl
by_code SemiAnd = refl
by_code SemiSemiAnd = refl
by_code Amp = refl
by_code AndIf = refl
by_code OrIf = refl
by_code Pipe = refl
by_code PipeAnd = refl
by_code Open = refl
by_code Close = refl
by_code Less = refl
by_code Great = refl
by_code Clobber = refl
by_code DGreat = refl
by_code DLess = refl
by_code DLessDash = refl
by_code TLess = refl
by_code LessAnd = refl
by_code GreatAnd = refl
by_code LessGreat = refl
by_code AndGreat = refl
by_code AndDGreat = refl
by_code Io = refl
by_code Far = refl
by_code Word = refl

same_takes : (a b : Op) → (code a == code b) ≡ true → op_takes a ≡ op_takes b
same_takes a b e = by_code a ∙ ap takes_code (eqb-true (code a) (code b) e) ∙ sym (by_code b)

-- behind a token that is this one
pub found_fits : (o : Op) (bytes : Text) → is_token o bytes ≡ true → length (token bytes).1 + one_if (op_takes o) ≤ length bytes
unfolding is_token
found_fits o bytes e = subst (λ (z : Bool). length (token bytes).1 + one_if z ≤ length bytes) (same_takes (token bytes).0 o e) (token_fits bytes)

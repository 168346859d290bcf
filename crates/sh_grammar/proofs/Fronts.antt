-- What a token leaves: an operator that the table reads takes a byte.
use Rattle.std.proofs.Common.{◌≡◌, ℕ, suc, ◌+◌, ◌≤◌, Bool, true, cond, [], ◌∷◌, length, refl, sym, ap, subst, ◌∙◌, eqb-true, arith}
use Rattle.std.specs.Prelude.{◌&&◌, not, ◌==◌, nat_lt}
use Rattle.text_grammar.specs.Language.{one_if}
use Rattle.sh_grammar.specs.Bytes.{Text, clear, gap, starts, in_word, unit_starts, digit_run}
use Rattle.sh_grammar.specs.Tokens.{Op, End, Newline, Semi, SemiSemi, AndIf, OrIf, Pipe, Open, Close, Less, Great, DGreat, DLess, DLessDash, LessAnd, GreatAnd, Io, Word, Other, code, after_byte, goes_on_with, semi_at, and_at, pipe_at, here_at, less_at, great_at, is_angle, digits_word, word_at, front, token, is_token}
use Rattle.sh_grammar.specs.Depths.{op_takes}
use Rattle.sh_grammar.proofs.Tools.{chosen}
use Rattle.sh_grammar.proofs.Lengths.{clear_fits, gap_fits, digit_run_fits}

-- a token of at most n bytes, fewer where the operator takes one
abbrev pub TokenFits : ℕ → Op × Text → Type 0
TokenFits n x = length x.1 + one_if (op_takes x.0) ≤ n

takes_one : (o : Op) → one_if (op_takes o) ≤ 1
takes_one End = omega arith
takes_one Newline = omega arith
takes_one Semi = omega arith
takes_one SemiSemi = omega arith
takes_one AndIf = omega arith
takes_one OrIf = omega arith
takes_one Pipe = omega arith
takes_one Open = omega arith
takes_one Close = omega arith
takes_one Less = omega arith
takes_one Great = omega arith
takes_one DGreat = omega arith
takes_one DLess = omega arith
takes_one DLessDash = omega arith
takes_one LessAnd = omega arith
takes_one GreatAnd = omega arith
takes_one Io = omega arith
takes_one Word = omega arith
takes_one Other = omega arith

-- behind a byte of an operator
behind_fits : (o : Op) (n : ℕ) (bs : Text) → length bs ≤ n → TokenFits (suc n) (o, bs)
behind_fits o n bs le = let i = takes_one o in omega arith

after_fits : (n k : ℕ) (bs : Text) (longer : Text → Op × Text) (shorter : Op × Text) → length bs ≤ n → ((cs : Text) → length cs ≤ n → TokenFits (suc n) (longer cs)) → TokenFits (suc n) shorter →
    TokenFits (suc n) (after_byte k bs longer shorter)
after_fits n k [] longer shorter le h i = i
after_fits n k (b ∷ bs) longer shorter le h i = chosen (TokenFits (suc n)) (b == k) (longer bs) shorter (h bs (omega arith)) i

on_fits : (n k : ℕ) (bs : Text) (longer : Text → Op × Text) (shorter : Op × Text) → length bs ≤ n → ((cs : Text) → length cs ≤ n → TokenFits (suc n) (longer cs)) → TokenFits (suc n) shorter →
    TokenFits (suc n) (goes_on_with k bs longer shorter)
on_fits n k bs longer shorter le h i = let c = clear_fits bs in after_fits n k (clear bs) longer shorter (omega arith) h i

semi_fits : (n : ℕ) (bs : Text) → length bs ≤ n → TokenFits (suc n) (semi_at bs)
unfolding semi_at
semi_fits n bs le =
    on_fits n 59 bs _ _ le
    (λ cs i. on_fits n 38 cs _ _ i (λ ds j. behind_fits Other n ds j) (behind_fits SemiSemi n cs i))
    (on_fits n 38 bs _ _ le (λ cs i. behind_fits Other n cs i) (behind_fits Semi n bs le))

and_fits : (n : ℕ) (bs : Text) → length bs ≤ n → TokenFits (suc n) (and_at bs)
unfolding and_at
and_fits n bs le = on_fits n 38 bs _ _ le (λ cs i. behind_fits AndIf n cs i) (behind_fits Other n bs le)

pipe_fits : (n : ℕ) (bs : Text) → length bs ≤ n → TokenFits (suc n) (pipe_at bs)
unfolding pipe_at
pipe_fits n bs le = on_fits n 124 bs _ _ le (λ cs i. behind_fits OrIf n cs i) (on_fits n 38 bs _ _ le (λ cs i. behind_fits Other n cs i) (behind_fits Pipe n bs le))

here_fits : (n : ℕ) (bs : Text) → length bs ≤ n → TokenFits (suc n) (here_at bs)
unfolding here_at
here_fits n bs le = on_fits n 45 bs _ _ le (λ cs i. behind_fits DLessDash n cs i) (on_fits n 60 bs _ _ le (λ cs i. behind_fits Other n cs i) (behind_fits DLess n bs le))

less_fits : (n : ℕ) (bs : Text) → length bs ≤ n → TokenFits (suc n) (less_at bs)
unfolding less_at
less_fits n bs le =
    on_fits n 60 bs here_at _ le (λ cs i. here_fits n cs i)
    (on_fits n 38 bs _ _ le (λ cs i. behind_fits LessAnd n cs i) (on_fits n 62 bs _ _ le (λ cs i. behind_fits Other n cs i) (behind_fits Less n bs le)))

great_fits : (n : ℕ) (bs : Text) → length bs ≤ n → TokenFits (suc n) (great_at bs)
unfolding great_at
great_fits n bs le =
    on_fits n 62 bs _ _ le (λ cs i. behind_fits DGreat n cs i)
    (on_fits n 38 bs _ _ le (λ cs i. behind_fits GreatAnd n cs i) (on_fits n 124 bs _ _ le (λ cs i. behind_fits Other n cs i) (behind_fits Great n bs le)))

digits_fit : (bytes : Text) → TokenFits (length bytes) (digits_word bytes (digit_run bytes))
digits_fit bytes =
    let i = digit_run_fits bytes in
    chosen (TokenFits (length bytes)) (starts is_angle (digit_run bytes).1) (cond (length (digit_run bytes).0 == 1) (Io, (digit_run bytes).1) (Other, bytes)) (Word, bytes)
    (chosen (TokenFits (length bytes)) (length (digit_run bytes).0 == 1) (Io, (digit_run bytes).1) (Other, bytes) (omega arith) (omega arith)) (omega arith)

word_fits : (bytes : Text) → TokenFits (length bytes) (word_at bytes)
word_fits bytes = chosen (TokenFits (length bytes)) (starts Rattle.span_text.specs.Names.is_digit bytes) (digits_word bytes (digit_run bytes)) (Word, bytes) (digits_fit bytes) (omega arith)

pub front_fits : (bytes : Text) → TokenFits (length bytes) (front bytes)
unfolding front
front_fits [] = omega arith
front_fits (b ∷ bs) =
    let n = length bs in
    let P = TokenFits (suc n) in
    let le : length bs ≤ n = omega arith in
    let word = word_fits (b ∷ bs) in
    let other : TokenFits (suc n) (Other, b ∷ bs) = omega arith in
    chosen P (b == 10) _ _ (behind_fits Newline n bs le)
    (chosen P (b == 59) _ _ (semi_fits n bs le)
    (chosen P (b == 38) _ _ (and_fits n bs le)
    (chosen P (b == 124) _ _ (pipe_fits n bs le)
    (chosen P (b == 40) _ _ (behind_fits Open n bs le)
    (chosen P (b == 41) _ _ (behind_fits Close n bs le)
    (chosen P (b == 60) _ _ (less_fits n bs le)
    (chosen P (b == 62) _ _ (great_fits n bs le)
    (chosen P (unit_starts in_word (b ∷ bs)) _ _ word other))))))))

pub token_fits : (bytes : Text) → TokenFits (length bytes) (token bytes)
unfolding token
token_fits bytes = let i = gap_fits bytes in let j = front_fits (gap bytes) in omega arith

-- ---- which operator it is

-- by its number
abbrev takes_code : ℕ → Bool
takes_code n = not (n == 0) && nat_lt n 16

by_code : (o : Op) → op_takes o ≡ takes_code (code o)
unfolding code
by_code End = refl
by_code Newline = refl
by_code Semi = refl
by_code SemiSemi = refl
by_code AndIf = refl
by_code OrIf = refl
by_code Pipe = refl
by_code Open = refl
by_code Close = refl
by_code Less = refl
by_code Great = refl
by_code DGreat = refl
by_code DLess = refl
by_code DLessDash = refl
by_code LessAnd = refl
by_code GreatAnd = refl
by_code Io = refl
by_code Word = refl
by_code Other = refl

same_takes : (a b : Op) → (code a == code b) ≡ true → op_takes a ≡ op_takes b
same_takes a b e = by_code a ∙ ap takes_code (eqb-true (code a) (code b) e) ∙ sym (by_code b)

-- behind a token that is this one
pub found_fits : (o : Op) (bytes : Text) → is_token o bytes ≡ true → length (token bytes).1 + one_if (op_takes o) ≤ length bytes
unfolding is_token
found_fits o bytes e = subst (λ (z : Bool). length (token bytes).1 + one_if z ≤ length bytes) (same_takes (token bytes).0 o e) (token_fits bytes)

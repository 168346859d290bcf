-- What is left behind `'..'` and `$'..'`.
use Rattle.std.proofs.Common.{ℕ, suc, ◌+◌, ◌≤◌, cond, [], ◌∷◌, length, Option, Some, None, arith}
use Rattle.std.specs.Prelude.{◌-◌, ◌*◌, ◌&&◌, ◌==◌, nat_le}
use Rattle.bash_grammar.specs.Bytes.{Text, clear}
use Rattle.bash_grammar.specs.Quotes.{quoted_run, Ansi, Escape, outside, kept, octal, hexadecimal, says, is_bad, says_value, letter, is_octal, digit_of, cased, ordinary, ansi_from}
use Rattle.bash_grammar.specs.Tokens.{◌>>=◌, behind}
use Rattle.bash_grammar.specs.Heads.{behind_two}
use Rattle.bash_grammar.proofs.Tools.{chosen, If, weaker, then}
use Rattle.bash_grammar.proofs.Heads.{Left, Rest, RestLeft, behind_clear, behind_two_fits}

quoted_within : (n : ℕ) (bytes : Text) → length bytes ≤ n → If (Rest {A = Text} n) (quoted_run bytes)
unfolding quoted_run
quoted_within n [] le = tt
quoted_within n (b ∷ bs) le =
    let i : length bs ≤ n = omega arith in
    chosen (If (Rest {A = Text} n)) (b == 39) (Some ([], bs)) _ i
    (then (Rest {A = Text} n) (Rest {A = Text} n) (quoted_run bs) (λ x. Some (b ∷ x.0, x.1)) (quoted_within n bs i) (λ x h. h))

pub quoted_left : (bytes : Text) → If (RestLeft {A = Text} (length bytes)) (behind 39 (clear bytes) >>= quoted_run)
quoted_left bytes =
    let n = length bytes in
    then (Left n) (RestLeft {A = Text} n) (behind 39 (clear bytes)) quoted_run (behind_clear 39 n bytes (omega arith))
    (λ rest h. weaker (Rest {A = Text} (length rest)) (RestLeft {A = Text} n) (quoted_run rest) (λ x i. omega arith) (quoted_within (length rest) rest (omega arith)))

-- ---- `$'..'`

abbrev AnsiRest : ℕ → Ansi → Type 0
AnsiRest n a = length a.rest ≤ n

abbrev pub AnsiWithin : ℕ → Ansi → Type 0
AnsiWithin n a = length a.rest + 1 ≤ n

abbrev Behind : ℕ → Option Ansi → Type 0
Behind n o = If (AnsiRest n) o

says_fits : (n b : ℕ) (o : Option Ansi) → Behind n o → Behind n (says b o)
says_fits n b None h = tt
says_fits n b (Some a) h = h

bad_fits : (n at : ℕ) (o : Option Ansi) → Behind n o → Behind n (is_bad at o)
bad_fits n at None h = tt
bad_fits n at (Some a) h = h

value_fits : (n at value : ℕ) (o : Option Ansi) → Behind n o → Behind n (says_value at value o)
value_fits n at value o h = chosen (Behind n) (nat_le 1 value && nat_le value 255) (says value o) (is_bad at o) (says_fits n value o h) (bad_fits n at o h)

ordinary_fits : (n b ahead : ℕ) (bs : Text) (further : Escape → Option Ansi) → length bs ≤ n → ((e : Escape) → Behind n (further e)) → Behind n (ordinary b ahead bs further)
ordinary_fits n b ahead bs further le h =
    chosen (Behind n) (b == 39) _ _ le (chosen (Behind n) (b == 92) _ _ (h (kept ahead)) (says_fits n b (further outside) (h outside)))

cased_fits : {A : Type 0} (n : ℕ) (o : Option A) (f : A → Option Ansi) (other : Option Ansi) → ((x : A) → Behind n (f x)) → Behind n other → Behind n (cased o f other)
cased_fits n None f other h i = i
cased_fits n (Some x) f other h i = h x

ansi_from_fits : (n : ℕ) (e : Escape) (bytes : Text) → length bytes ≤ n → Behind n (ansi_from e bytes)
unfolding ansi_from
ansi_from_fits n outside [] le = tt
ansi_from_fits n (kept at) [] le = tt
ansi_from_fits n (octal at c v) [] le = tt
ansi_from_fits n (hexadecimal at c v) [] le = tt
ansi_from_fits n outside (b ∷ bs) le = let i : length bs ≤ n = omega arith in ordinary_fits n b (suc (length bs)) bs (λ e. ansi_from e bs) i (λ e. ansi_from_fits n e bs i)
ansi_from_fits n (kept at) (b ∷ bs) le =
    let i : length bs ≤ n = omega arith in
    cased_fits n (letter b) (λ v. says v (ansi_from outside bs)) _ (λ v. says_fits n v (ansi_from outside bs) (ansi_from_fits n outside bs i))
    (chosen (Behind n) (is_octal b) _ _ (ansi_from_fits n (octal at 1 (b - 48)) bs i)
    (chosen (Behind n) (b == 120) _ _ (ansi_from_fits n (hexadecimal at 0 0) bs i) (bad_fits n at (ansi_from outside bs) (ansi_from_fits n outside bs i))))
ansi_from_fits n (octal at c v) (b ∷ bs) le =
    let i : length bs ≤ n = omega arith in
    chosen (Behind n) (is_octal b && nat_le c 2) _ _ (ansi_from_fits n (octal at (suc c) (8 * v + (b - 48))) bs i)
    (value_fits n at v (ordinary b (suc (length bs)) bs (λ e. ansi_from e bs)) (ordinary_fits n b (suc (length bs)) bs (λ e. ansi_from e bs) i (λ e. ansi_from_fits n e bs i)))
ansi_from_fits n (hexadecimal at c v) (b ∷ bs) le =
    let i : length bs ≤ n = omega arith in
    cased_fits n (cond (nat_le c 1) (digit_of b) None) (λ d. ansi_from (hexadecimal at (suc c) (16 * v + d)) bs) _ (λ d. ansi_from_fits n (hexadecimal at (suc c) (16 * v + d)) bs i)
    (value_fits n at v (ordinary b (suc (length bs)) bs (λ e. ansi_from e bs)) (ordinary_fits n b (suc (length bs)) bs (λ e. ansi_from e bs) i (λ e. ansi_from_fits n e bs i)))

pub ansi_left : (bytes : Text) → If (AnsiWithin (length bytes)) (behind_two 36 39 bytes >>= ansi_from outside)
ansi_left bytes =
    let n = length bytes in
    then (Left n) (AnsiWithin n) (behind_two 36 39 bytes) (ansi_from outside) (behind_two_fits 36 39 bytes)
    (λ rest h. weaker (AnsiRest (length rest)) (AnsiWithin n) (ansi_from outside rest) (λ x i. omega arith) (ansi_from_fits (length rest) outside rest (omega arith)))

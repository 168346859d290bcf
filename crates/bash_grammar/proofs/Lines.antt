-- What is left behind delimiters of here-documents and behind their bodies.
use Rattle.std.proofs.Common.{ℕ, suc, ◌≤◌, Bool, true, false, cond, List, [], ◌∷◌, length, Option, Some, None, arith}
use Rattle.std.specs.Prelude.{◌||◌, ◌&&◌, not, ◌==◌}
use Rattle.bash_grammar.specs.Bytes.{Text, starts, is_join, in_word, in_double, is_plain, is_escaped, unit_starts}
use Rattle.bash_grammar.specs.Tokens.{◌>>=◌}
use Rattle.bash_grammar.specs.Bodies.{Owed, Mode, unquoted, single, doubled, kept, kept_doubled, joined, joined_doubled, Read, with_quote, with, opens_other, delimiter_from, delimiter_at, may_end, delimiter_for, line_from, Place, line_start, within, join_at_start, join_within, kept_byte, Lines, last_line, or_further, with_byte, is_start, join_of, behind_byte, body_from, body_at}
use Rattle.bash_grammar.specs.State.{State, Found}
use Rattle.bash_grammar.specs.Steps.{found_of, bodies_at}
use Rattle.bash_grammar.proofs.Tools.{chosen, If, then}
use Rattle.bash_grammar.proofs.Heads.{Rest}

-- ---- delimiters

abbrev Behind : ℕ → Read → Type 0
Behind n o = If (Rest {A = Text × Bool} n) o

quote_fits : (n : ℕ) (o : Read) → Behind n o → Behind n (with_quote o)
quote_fits n None h = tt
quote_fits n (Some x) h = h

with_fits : (n b : ℕ) (o : Read) → Behind n o → Behind n (with b o)
with_fits n b None h = tt
with_fits n b (Some x) h = h

delimiter_from_fits : (n : ℕ) (m : Mode) (rest bytes : Text) → length rest ≤ n → length bytes ≤ n → Behind n (delimiter_from m rest bytes)
unfolding delimiter_from
delimiter_from_fits n unquoted rest [] i j = i
delimiter_from_fits n unquoted rest (b ∷ bs) i j =
    let P = Behind n in let k : length bs ≤ n = omega arith in
    chosen P (is_join b bs) _ _ (delimiter_from_fits n joined rest bs i k)
    (chosen P (b == 39) _ _ (quote_fits n (delimiter_from single bs bs) (delimiter_from_fits n single bs bs k k))
    (chosen P (b == 34) _ _ (quote_fits n (delimiter_from doubled bs bs) (delimiter_from_fits n doubled bs bs k k))
    (chosen P (b == 92) _ _ (quote_fits n (delimiter_from kept bs bs) (delimiter_from_fits n kept bs bs k k))
    (chosen P (opens_other b bs) _ _ tt
    (chosen P (is_plain in_word b || b == 36) _ _ (with_fits n b (delimiter_from unquoted bs bs) (delimiter_from_fits n unquoted bs bs k k)) i)))))
delimiter_from_fits n single rest [] i j = tt
delimiter_from_fits n single rest (b ∷ bs) i j =
    let P = Behind n in let k : length bs ≤ n = omega arith in
    chosen P (b == 39) _ _ (delimiter_from_fits n unquoted bs bs k k)
    (chosen P (b == 10) _ _ tt (with_fits n b (delimiter_from single bs bs) (delimiter_from_fits n single bs bs k k)))
delimiter_from_fits n doubled rest [] i j = tt
delimiter_from_fits n doubled rest (b ∷ bs) i j =
    let P = Behind n in let k : length bs ≤ n = omega arith in
    chosen P (is_join b bs) _ _ (delimiter_from_fits n joined_doubled rest bs i k)
    (chosen P (b == 34) _ _ (delimiter_from_fits n unquoted bs bs k k)
    (chosen P (b == 92) _ _ (delimiter_from_fits n kept_doubled bs bs k k)
    (chosen P (b == 96 || b == 10) _ _ tt (with_fits n b (delimiter_from doubled bs bs) (delimiter_from_fits n doubled bs bs k k)))))
delimiter_from_fits n kept rest [] i j = tt
delimiter_from_fits n kept rest (b ∷ bs) i j = let k : length bs ≤ n = omega arith in with_fits n b (delimiter_from unquoted bs bs) (delimiter_from_fits n unquoted bs bs k k)
delimiter_from_fits n kept_doubled rest [] i j = tt
delimiter_from_fits n kept_doubled rest (b ∷ bs) i j =
    let k : length bs ≤ n = omega arith in let d = delimiter_from doubled bs bs in
    let l = with_fits n b d (delimiter_from_fits n doubled bs bs k k) in
    chosen (Behind n) (is_escaped in_double b) _ _ l (with_fits n 92 (with b d) l)
delimiter_from_fits n joined rest [] i j = tt
delimiter_from_fits n joined rest (b ∷ bs) i j = delimiter_from_fits n unquoted rest bs i (omega arith)
delimiter_from_fits n joined_doubled rest [] i j = tt
delimiter_from_fits n joined_doubled rest (b ∷ bs) i j = delimiter_from_fits n doubled rest bs i (omega arith)

delimiter_fits : (n : ℕ) (bytes : Text) → length bytes ≤ n → Behind n (delimiter_at bytes)
unfolding delimiter_at
delimiter_fits n bytes le = chosen (Behind n) (unit_starts in_word bytes) _ _ (delimiter_from_fits n unquoted bytes bytes le le) tt

pub delimiter_for_fits : (n : ℕ) (strips : Bool) (bytes : Text) → length bytes ≤ n → Behind n (delimiter_for strips bytes)
unfolding delimiter_for
delimiter_for_fits n strips bytes le =
    then (Rest {A = Text × Bool} n) (Rest {A = Text × Bool} n) (delimiter_at bytes) (may_end strips) (delimiter_fits n bytes le)
    (λ d h. chosen (Behind n) (strips && starts (λ b. b == 9) d.0.0) None (Some d) tt h)

-- ---- the last line

abbrev Line : ℕ → Option Text → Type 0
Line n o = If (λ (rest : Text). length rest ≤ n) o

line_fits : (n : ℕ) (literal taken : Bool) (name bytes : Text) → length bytes ≤ n → Line n (line_from literal taken name bytes)
line_fits n literal true [] [] le = le
line_fits n literal false [] [] le = le
line_fits n literal true (d ∷ ds) [] le = tt
line_fits n literal false (d ∷ ds) [] le = tt
line_fits n literal true [] (b ∷ bs) le = line_fits n literal false [] bs (omega arith)
line_fits n literal true (d ∷ ds) (b ∷ bs) le = line_fits n literal false (d ∷ ds) bs (omega arith)
line_fits n literal false [] (b ∷ bs) le =
    let P = Line n in let i : length bs ≤ n = omega arith in
    chosen P (not literal && is_join b bs) _ _ (line_fits n literal true [] bs i) (chosen P (b == 10) (Some bs) None i tt)
line_fits n literal false (d ∷ ds) (b ∷ bs) le =
    let P = Line n in let i : length bs ≤ n = omega arith in
    chosen P (not literal && is_join b bs) _ _ (line_fits n literal true (d ∷ ds) bs i) (chosen P (d == b) _ _ (line_fits n literal false ds bs i) tt)

last_fits : (n : ℕ) (o : Owed) (p : Place) (bytes : Text) → length bytes ≤ n → Line n (last_line o p bytes)
last_fits n o line_start bytes le = line_fits n o.literal false o.delimiter bytes le
last_fits n o within bytes le = tt
last_fits n o join_at_start bytes le = tt
last_fits n o join_within bytes le = tt
last_fits n o kept_byte bytes le = tt

-- ---- bodies

abbrev pub Body : ℕ → Option Lines → Type 0
Body n o = If (λ (x : Lines). length x.rest ≤ n) o

further_fits : (n ahead : ℕ) (o : Option Text) (p : Option Lines) → Line n o → Body n p → Body n (or_further ahead o p)
further_fits n ahead None p h i = i
further_fits n ahead (Some x) p h i = h

byte_fits : (n b ahead : ℕ) (o : Option Lines) → Body n o → Body n (with_byte b ahead o)
byte_fits n b ahead None h = tt
byte_fits n b ahead (Some x) h = h

-- what is read behind a byte, which is no last line
bytes_fit : (n : ℕ) (o : Owed) (p : Place) (b : ℕ) (bs : Text) → ((q : Place) → Body n (body_from o q bs)) →
    Body n (cond (not o.literal && is_join b bs) (body_from o (join_of p) bs) (cond (o.strips && is_start p && b == 9) (body_from o p bs) (with_byte b (suc (length bs)) (body_from o (behind_byte o.literal b) bs))))
bytes_fit n o p b bs further =
    let P = Body n in let q = body_from o (behind_byte o.literal b) bs in
    chosen P (not o.literal && is_join b bs) _ _ (further (join_of p))
    (chosen P (o.strips && is_start p && b == 9) _ _ (further p) (byte_fits n b (suc (length bs)) q (further (behind_byte o.literal b))))

body_from_fits : (n : ℕ) (o : Owed) (p : Place) (bytes : Text) → length bytes ≤ n → Body n (body_from o p bytes)
unfolding body_from
body_from_fits n o line_start [] le = tt
body_from_fits n o within [] le = tt
body_from_fits n o join_at_start [] le = tt
body_from_fits n o join_within [] le = tt
body_from_fits n o kept_byte [] le = tt
body_from_fits n o join_at_start (b ∷ bs) le = body_from_fits n o line_start bs (omega arith)
body_from_fits n o join_within (b ∷ bs) le = body_from_fits n o within bs (omega arith)
body_from_fits n o kept_byte (b ∷ bs) le = byte_fits n b (suc (length bs)) (body_from o within bs) (body_from_fits n o within bs (omega arith))
body_from_fits n o line_start (b ∷ bs) le =
    let i : length bs ≤ n = omega arith in
    further_fits n (suc (length bs)) (last_line o line_start (b ∷ bs)) _ (last_fits n o line_start (b ∷ bs) le) (bytes_fit n o line_start b bs (λ q. body_from_fits n o q bs i))
body_from_fits n o within (b ∷ bs) le =
    let i : length bs ≤ n = omega arith in
    further_fits n (suc (length bs)) (last_line o within (b ∷ bs)) _ (last_fits n o within (b ∷ bs) le) (bytes_fit n o within b bs (λ q. body_from_fits n o q bs i))

body_fits : (n : ℕ) (o : Owed) (bytes : Text) → length bytes ≤ n → Body n (body_at o bytes)
unfolding body_at
body_fits n o bytes le = body_from_fits n o line_start bytes le

pub bodies_fit : (n : ℕ) (s : State) (os : List Owed) (bytes : Text) → length bytes ≤ n → If (Rest {A = List Found} n) (bodies_at s os bytes)
unfolding bodies_at
bodies_fit n s [] bytes le = le
bodies_fit n s (o ∷ os) bytes le =
    then (λ (x : Lines). length x.rest ≤ n) (Rest {A = List Found} n) (body_at o bytes) (λ x. bodies_at s os x.rest >>= λ y. Some (found_of s o x ∷ y.0, y.1)) (body_fits n o bytes le)
    (λ x h. then (Rest {A = List Found} n) (Rest {A = List Found} n) (bodies_at s os x.rest) (λ y. Some (found_of s o x ∷ y.0, y.1)) (bodies_fit n s os x.rest h) (λ y j. j))

-- What is left behind delimiters of here-documents and behind their bodies.
use Rattle.std.proofs.Common.{ℕ, suc, ◌≤◌, Bool, true, false, cond, List, [], ◌∷◌, length, Option, Some, None, arith}
use Rattle.std.specs.Prelude.{◌||◌, ◌&&◌, not, ◌==◌}
use Rattle.sh_grammar.specs.Bytes.{Text, starts, is_join, in_word, in_double, is_plain, is_escaped, unit_starts}
use Rattle.sh_grammar.specs.Expansions.{◌>>=◌}
use Rattle.sh_grammar.specs.Bodies.{Owed, Mode, bare, single, doubled, kept, kept_doubled, joined, joined_doubled, Read, quoted, with, opens_expansion, delimiter_from, delimiter_at, may_end, delimiter_for, line_from, Place, line_start, within, join_at_start, join_within, kept_byte, last_line, or_further, with_byte, is_start, join_of, behind_byte, body_from, body_at, bodies_at}
use Rattle.sh_grammar.proofs.Tools.{chosen, If, then}
use Rattle.sh_grammar.proofs.Heads.{Rest, weaker}

-- ---- delimiters

abbrev Behind : ℕ → Read → Type 0
Behind n o = If (Rest {A = Text × Bool} n) o

quoted_fits : (n : ℕ) (o : Read) → Behind n o → Behind n (quoted o)
quoted_fits n None h = tt
quoted_fits n (Some x) h = h

with_fits : (n b : ℕ) (o : Read) → Behind n o → Behind n (with b o)
with_fits n b None h = tt
with_fits n b (Some x) h = h

-- behind one byte more
less : (n : ℕ) (o : Read) → Behind n o → Behind (suc n) o
less n o h = weaker n (suc n) o (omega arith) h

delimiter_from_fits : (m : Mode) (bytes : Text) → Behind (length bytes) (delimiter_from m bytes)
unfolding delimiter_from
delimiter_from_fits bare [] = omega arith
delimiter_from_fits bare (b ∷ bs) =
    let n = length bs in let P = Behind (suc n) in
    let whole : suc n ≤ suc n = omega arith in
    chosen P (is_join b bs) _ _ (less n (delimiter_from joined bs) (delimiter_from_fits joined bs))
    (chosen P (b == 39) _ _ (quoted_fits (suc n) (delimiter_from single bs) (less n (delimiter_from single bs) (delimiter_from_fits single bs)))
    (chosen P (b == 34) _ _ (quoted_fits (suc n) (delimiter_from doubled bs) (less n (delimiter_from doubled bs) (delimiter_from_fits doubled bs)))
    (chosen P (b == 92) _ _ (quoted_fits (suc n) (delimiter_from kept bs) (less n (delimiter_from kept bs) (delimiter_from_fits kept bs)))
    (chosen P (b == 36 && opens_expansion bs) _ _ tt
    (chosen P (is_plain in_word b || b == 36) _ _ (with_fits (suc n) b (delimiter_from bare bs) (less n (delimiter_from bare bs) (delimiter_from_fits bare bs))) whole)))))
delimiter_from_fits single [] = tt
delimiter_from_fits single (b ∷ bs) =
    let n = length bs in let P = Behind (suc n) in
    chosen P (b == 39) _ _ (less n (delimiter_from bare bs) (delimiter_from_fits bare bs))
    (chosen P (b == 10 || b == 0) _ _ tt (with_fits (suc n) b (delimiter_from single bs) (less n (delimiter_from single bs) (delimiter_from_fits single bs))))
delimiter_from_fits doubled [] = tt
delimiter_from_fits doubled (b ∷ bs) =
    let n = length bs in let P = Behind (suc n) in
    chosen P (is_join b bs) _ _ (less n (delimiter_from joined_doubled bs) (delimiter_from_fits joined_doubled bs))
    (chosen P (b == 34) _ _ (less n (delimiter_from bare bs) (delimiter_from_fits bare bs))
    (chosen P (b == 92) _ _ (less n (delimiter_from kept_doubled bs) (delimiter_from_fits kept_doubled bs))
    (chosen P (b == 96 || b == 10 || b == 0) _ _ tt (with_fits (suc n) b (delimiter_from doubled bs) (less n (delimiter_from doubled bs) (delimiter_from_fits doubled bs))))))
delimiter_from_fits kept [] = tt
delimiter_from_fits kept (b ∷ bs) =
    let n = length bs in let P = Behind (suc n) in
    chosen P (b == 0) _ _ tt (with_fits (suc n) b (delimiter_from bare bs) (less n (delimiter_from bare bs) (delimiter_from_fits bare bs)))
delimiter_from_fits kept_doubled [] = tt
delimiter_from_fits kept_doubled (b ∷ bs) =
    let n = length bs in let P = Behind (suc n) in
    let d = delimiter_from doubled bs in
    let i = with_fits (suc n) b d (less n d (delimiter_from_fits doubled bs)) in
    chosen P (b == 0) _ _ tt (chosen P (is_escaped in_double b) _ _ i (with_fits (suc n) 92 (with b d) i))
delimiter_from_fits joined [] = tt
delimiter_from_fits joined (b ∷ bs) = less (length bs) (delimiter_from bare bs) (delimiter_from_fits bare bs)
delimiter_from_fits joined_doubled [] = tt
delimiter_from_fits joined_doubled (b ∷ bs) = less (length bs) (delimiter_from doubled bs) (delimiter_from_fits doubled bs)

pub delimiter_fits : (bytes : Text) → If (Rest {A = Text × Bool} (length bytes)) (delimiter_at bytes)
unfolding delimiter_at
delimiter_fits bytes = chosen (Behind (length bytes)) (unit_starts in_word bytes) _ _ (delimiter_from_fits bare bytes) tt

pub delimiter_for_fits : (strips : Bool) (bytes : Text) → Behind (length bytes) (delimiter_for strips bytes)
unfolding delimiter_for
delimiter_for_fits strips bytes =
    then (Rest {A = Text × Bool} (length bytes)) (Rest {A = Text × Bool} (length bytes)) (delimiter_at bytes) (may_end strips) (delimiter_fits bytes)
    (λ d h. chosen (Behind (length bytes)) (strips && starts (λ b. b == 9) d.0.0) None (Some d) tt h)

-- ---- the last line

abbrev Line : ℕ → Option Text → Type 0
Line n o = If (λ (rest : Text). length rest ≤ n) o

line_less : (n : ℕ) (o : Option Text) → Line n o → Line (suc n) o
line_less n None h = tt
line_less n (Some x) h = omega arith

line_fits : (literal taken : Bool) (name bytes : Text) → Line (length bytes) (line_from literal taken name bytes)
line_fits literal true [] [] = omega arith
line_fits literal false [] [] = omega arith
line_fits literal true (d ∷ ds) [] = tt
line_fits literal false (d ∷ ds) [] = tt
line_fits literal true [] (b ∷ bs) = line_less (length bs) (line_from literal false [] bs) (line_fits literal false [] bs)
line_fits literal true (d ∷ ds) (b ∷ bs) = line_less (length bs) (line_from literal false (d ∷ ds) bs) (line_fits literal false (d ∷ ds) bs)
line_fits literal false [] (b ∷ bs) =
    let n = length bs in let P = Line (suc n) in let i : n ≤ suc n = omega arith in
    chosen P (not literal && is_join b bs) _ _ (line_less n (line_from literal true [] bs) (line_fits literal true [] bs)) (chosen P (b == 10) _ _ i tt)
line_fits literal false (d ∷ ds) (b ∷ bs) =
    let n = length bs in let P = Line (suc n) in
    chosen P (not literal && is_join b bs) _ _ (line_less n (line_from literal true (d ∷ ds) bs) (line_fits literal true (d ∷ ds) bs))
    (chosen P (d == b) _ _ (line_less n (line_from literal false ds bs) (line_fits literal false ds bs)) tt)

last_fits : (o : Owed) (p : Place) (bytes : Text) → Line (length bytes) (last_line o p bytes)
last_fits o line_start bytes = line_fits o.literal false o.delimiter bytes
last_fits o within bytes = tt
last_fits o join_at_start bytes = tt
last_fits o join_within bytes = tt
last_fits o kept_byte bytes = tt

-- ---- bodies

abbrev Body : ℕ → Option (Text × Text) → Type 0
Body n o = If (Rest {A = Text} n) o

further_fits : (n : ℕ) (o : Option Text) (p : Option (Text × Text)) → Line n o → Body n p → Body n (or_further o p)
further_fits n None p h i = i
further_fits n (Some x) p h i = h

byte_fits : (n b : ℕ) (o : Option (Text × Text)) → Body n o → Body n (with_byte b o)
byte_fits n b None h = tt
byte_fits n b (Some x) h = h

body_less : (n : ℕ) (o : Option (Text × Text)) → Body n o → Body (suc n) o
body_less n o h = weaker n (suc n) o (omega arith) h

-- what is read behind a byte, which is no last line
bytes_fit : (o : Owed) (p : Place) (b : ℕ) (bs : Text) → ((q : Place) → Body (length bs) (body_from o q bs)) →
    Body (suc (length bs)) (cond (b == 0) None (cond (not o.literal && is_join b bs) (body_from o (join_of p) bs) (cond (o.strips && is_start p && b == 9) (body_from o p bs) (with_byte b (body_from o (behind_byte o.literal b) bs)))))
bytes_fit o p b bs further =
    let n = length bs in let P = Body (suc n) in
    let j = body_from o (join_of p) bs in let k = body_from o p bs in let q = body_from o (behind_byte o.literal b) bs in
    chosen P (b == 0) _ _ tt
    (chosen P (not o.literal && is_join b bs) _ _ (body_less n j (further (join_of p)))
    (chosen P (o.strips && is_start p && b == 9) _ _ (body_less n k (further p))
    (byte_fits (suc n) b q (body_less n q (further (behind_byte o.literal b))))))

body_from_fits : (o : Owed) (p : Place) (bytes : Text) → Body (length bytes) (body_from o p bytes)
unfolding body_from
body_from_fits o line_start [] = tt
body_from_fits o within [] = tt
body_from_fits o join_at_start [] = tt
body_from_fits o join_within [] = tt
body_from_fits o kept_byte [] = tt
body_from_fits o join_at_start (b ∷ bs) = body_less (length bs) (body_from o line_start bs) (body_from_fits o line_start bs)
body_from_fits o join_within (b ∷ bs) = body_less (length bs) (body_from o within bs) (body_from_fits o within bs)
body_from_fits o kept_byte (b ∷ bs) =
    let n = length bs in let q = body_from o within bs in
    chosen (Body (suc n)) (b == 0) _ _ tt (byte_fits (suc n) b q (body_less n q (body_from_fits o within bs)))
body_from_fits o line_start (b ∷ bs) =
    further_fits (suc (length bs)) (last_line o line_start (b ∷ bs)) _ (last_fits o line_start (b ∷ bs)) (bytes_fit o line_start b bs (λ q. body_from_fits o q bs))
body_from_fits o within (b ∷ bs) =
    further_fits (suc (length bs)) (last_line o within (b ∷ bs)) _ (last_fits o within (b ∷ bs)) (bytes_fit o within b bs (λ q. body_from_fits o q bs))

pub body_fits : (o : Owed) (bytes : Text) → If (Rest {A = Text} (length bytes)) (body_at o bytes)
unfolding body_at
body_fits o bytes = body_from_fits o line_start bytes

pub bodies_fit : (os : List Owed) (bytes : Text) → If (Rest {A = List Text} (length bytes)) (bodies_at os bytes)
unfolding bodies_at
bodies_fit [] bytes = omega arith
bodies_fit (o ∷ os) bytes =
    let n = length bytes in
    then (Rest {A = Text} n) (Rest {A = List Text} n) (body_at o bytes) (λ x. bodies_at os x.1 >>= λ y. Some (x.0 ∷ y.0, y.1)) (body_fits o bytes)
    (λ x h. then (Rest {A = List Text} (length x.1)) (Rest {A = List Text} n) (bodies_at os x.1) (λ y. Some (x.0 ∷ y.0, y.1)) (bodies_fit os x.1) (λ y j. omega arith))

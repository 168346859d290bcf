-- What is left behind names, parameters, and what stands behind a `$`.
use Rattle.std.proofs.Common.{◌≡◌, ℕ, ◌+◌, ◌≤◌, Bool, true, false, cond, [], ◌∷◌, length, Option, Some, None, refl, subst, eqb-true, arith}
use Rattle.std.specs.Prelude.{◌||◌, ◌&&◌, not, ◌==◌}
use Rattle.span_text.specs.Names.{is_letter, begins_name, continues_name, is_digit}
use Rattle.bash_grammar.specs.Shape.{indirect, special_parameter, FillTest, ReplaceAt, digits, count}
use Rattle.bash_grammar.specs.Bytes.{Text, is_join, clear, starts, byte_next, is_special_param, name_run, digit_run, in_word, unit_starts}
use Rattle.bash_grammar.specs.Tokens.{◌>>=◌, behind, is_something, name_at, tilde_at}
use Rattle.bash_grammar.specs.Heads.{Subject, known, refused, special, short_param_at, closes, Special, of_length, of_value, is_lone_special, head_of, tail, hash_special, bang_special, special_at, behind_two, opens_name, dollar_name, dollar_short, if_name, brace_name, length_name, pointed_name, brace_special, dollar_sum, members_at, names_at, fill_test, fill_in, fill_at, doubled, trim_in, trim_at, case_in, case_at, replace_in, replace_at, is_transform, transform_in, transform_at, slice_at}
use Rattle.bash_grammar.specs.Steps.{equals_at}
use Rattle.bash_grammar.proofs.Tools.{chosen, chosen_by, If, weaker, then}
use Rattle.bash_grammar.proofs.Lengths.{clear_fits, run_fits, digit_run_fits}

-- what is left has at most n bytes, or fewer
abbrev pub Within : ℕ → Text → Type 0
Within n bytes = length bytes ≤ n

abbrev pub Left : ℕ → Text → Type 0
Left n bytes = length bytes + 1 ≤ n

-- what is behind what was read
abbrev pub Rest : {A : Type 0} → ℕ → A × Text → Type 0
Rest n x = length x.1 ≤ n

abbrev pub RestLeft : {A : Type 0} → ℕ → A × Text → Type 0
RestLeft n x = length x.1 + 1 ≤ n

-- ---- one byte

pub behind_fits : (k n : ℕ) (bytes : Text) → length bytes ≤ n → If (Left n) (behind k bytes)
behind_fits k n [] le = tt
behind_fits k n (b ∷ bs) le = let i : length bs + 1 ≤ n = omega arith in chosen (If (Left n)) (b == k) (Some bs) None i tt

-- joins before the byte
pub behind_clear : (k n : ℕ) (bytes : Text) → length bytes ≤ n → If (Left n) (behind k (clear bytes))
behind_clear k n bytes le = let c = clear_fits bytes in behind_fits k n (clear bytes) (omega arith)

pub tail_fits : (bs : Text) → length (tail bs) ≤ length bs
tail_fits [] = omega arith
tail_fits (b ∷ bs) = omega arith

-- a byte that comes next is there
tail_clear : (k : ℕ) (bs : Text) → starts (λ b. b == k) bs ≡ true → length (tail bs) + 1 ≤ length bs
tail_clear k [] e = absurd cc
tail_clear k (b ∷ bs) e = omega arith

pub tail_left : (k : ℕ) (bytes : Text) → byte_next k bytes ≡ true → length (tail (clear bytes)) + 1 ≤ length bytes
tail_left k bytes e = let c = clear_fits bytes in let t = tail_clear k (clear bytes) e in omega arith

pub behind_two_fits : (j k : ℕ) (bytes : Text) → If (Left (length bytes)) (behind_two j k bytes)
unfolding behind_two
behind_two_fits j k bytes =
    then (Left (length bytes)) (Left (length bytes)) (behind j (clear bytes)) (λ rest. behind k (clear rest)) (behind_clear j (length bytes) bytes (omega arith))
    (λ rest h. behind_clear k (length bytes) rest (omega arith))

-- ---- names

no_letter : is_letter 92 ≡ true → ⊥
no_letter e = absurd cc

no_join_at : (b : ℕ) (c d : Bool) → is_letter b ≡ true → (b == 92) ≡ d → (d && c) ≡ false
no_join_at b c false e same = refl
no_join_at b c true e same = let is : b ≡ 92 = eqb-true b 92 same in absurd (no_letter (subst (λ (z : ℕ). is_letter z ≡ true) is e))

-- a byte that begins a name is in no join
no_join : (b : ℕ) (bs : Text) → begins_name b ≡ true → is_join b bs ≡ false
unfolding begins_name
no_join b [] e = refl
no_join b (c ∷ bs) e = no_join_at b (c == 10) (b == 92) e refl

-- a name takes a byte
name_run_left : (bytes : Text) → starts begins_name bytes ≡ true → length (name_run bytes).1 + 1 ≤ length bytes
unfolding name_run begins_name continues_name
name_run_left [] e = absurd cc
name_run_left (b ∷ bs) e =
    let i = run_fits (length bs) (λ b bs. continues_name b) bs false bs (omega arith) (omega arith) in
    let j = no_join b bs e in
    let g : (is_letter b || is_digit b) ≡ true = rw (e) refl in
    rw (j, g) (omega arith)

pub name_fits : (n : ℕ) (bytes : Text) → length bytes ≤ n → If (RestLeft {A = Text} n) (name_at bytes)
unfolding name_at
name_fits n bytes le = let P = If (RestLeft {A = Text} n) in chosen_by P (starts begins_name bytes) (Some (name_run bytes)) None (λ e. let r = name_run_left bytes e in omega arith) (λ e. tt)

pub tilde_fits : (n : ℕ) (bytes : Text) → length bytes ≤ n → If (Left n) (tilde_at bytes)
unfolding tilde_at
tilde_fits n bytes le =
    then (Left n) (Left n) (behind 126 bytes) (λ rest. cond (byte_next 47 rest || not (unit_starts in_word rest)) (Some rest) None) (behind_fits 126 n bytes le)
    (λ rest h. chosen (If (Left n)) (byte_next 47 rest || not (unit_starts in_word rest)) (Some rest) None h tt)

pub equals_fits : (n : ℕ) (bytes : Text) → length bytes ≤ n → If (RestLeft {A = Bool} n) (equals_at bytes)
unfolding equals_at
equals_fits n bytes le =
    let c = clear_fits bytes in let t = tail_fits (clear bytes) in
    chosen (If (RestLeft {A = Bool} n)) (byte_next 43 bytes) _ _
    (then (Left n) (RestLeft {A = Bool} n) (behind 61 (clear (tail (clear bytes)))) (λ rest. Some (true, rest)) (behind_clear 61 n (tail (clear bytes)) (omega arith)) (λ rest h. h))
    (then (Left n) (RestLeft {A = Bool} n) (behind 61 (clear bytes)) (λ rest. Some (false, rest)) (behind_clear 61 n bytes le) (λ rest h. h))

-- ---- parameters

pub short_param_fits : (n : ℕ) (bytes : Text) → length bytes ≤ n → If (RestLeft {A = Subject} n) (short_param_at bytes)
unfolding short_param_at
short_param_fits n [] le = tt
short_param_fits n (b ∷ bs) le =
    let P = If (RestLeft {A = Subject} n) in let i : length bs + 1 ≤ n = omega arith in
    chosen P (is_digit b) (Some (known (digits (b ∷ [])), bs)) _ i (chosen P (is_special_param b) (Some (special b, bs)) None i tt)

hash_fits : (n : ℕ) (bs cs : Text) → length bs ≤ n → length cs ≤ n → If (Rest {A = Special} n) (hash_special bs cs)
hash_fits n bs cs le lf =
    let P = If (Rest {A = Special} n) in let d = digit_run_fits cs in let t = tail_fits cs in
    let i : length (digit_run cs).1 ≤ n = omega arith in let j : length (tail cs) ≤ n = omega arith in
    chosen P (starts is_digit cs) _ _ (chosen P (closes (digit_run cs).1) (of_length (known (digits (digit_run cs).0)) (digit_run cs).1) None i tt)
    (chosen P (is_lone_special cs) (of_length (special (head_of cs)) (tail cs)) (of_value (known count) bs) j le)

bang_fits : (n : ℕ) (bs cs : Text) → length bs ≤ n → length cs ≤ n → If (Rest {A = Special} n) (bang_special bs cs)
bang_fits n bs cs le lf =
    let P = If (Rest {A = Special} n) in let d = digit_run_fits cs in let t = tail_fits cs in
    let i : length (digit_run cs).1 ≤ n = omega arith in let j : length (tail cs) ≤ n = omega arith in
    chosen P (starts is_digit cs) (of_value (refused indirect) (digit_run cs).1) _ i
    (chosen P (is_lone_special cs) (of_value (refused special_parameter) (tail cs)) (of_value (refused special_parameter) bs) j le)

special_fits : (n : ℕ) (bytes : Text) → length bytes ≤ n → If (Rest {A = Special} n) (special_at bytes)
unfolding special_at
special_fits n [] le = tt
special_fits n (b ∷ bs) le =
    let P = If (Rest {A = Special} n) in let c = clear_fits bs in let d = digit_run_fits (b ∷ bs) in
    let i : length bs ≤ n = omega arith in let j : length (digit_run (b ∷ bs)).1 ≤ n = omega arith in
    chosen P (b == 35) _ _ (hash_fits n bs (clear bs) i (omega arith))
    (chosen P (b == 33) _ _ (bang_fits n bs (clear bs) i (omega arith))
    (chosen P (is_digit b) (of_value (known (digits (digit_run (b ∷ bs)).0)) (digit_run (b ∷ bs)).1) _ j
    (chosen P (is_special_param b) (of_value (special b) bs) None i tt)))

-- ---- at the `$`

pub dollar_name_fits : (bytes : Text) → If (Left (length bytes)) (dollar_name bytes)
unfolding dollar_name
dollar_name_fits bytes =
    let n = length bytes in
    then (Left n) (Left n) (behind 36 (clear bytes)) (λ rest. cond (opens_name rest) (Some (clear rest)) None) (behind_clear 36 n bytes (omega arith))
    (λ rest h. let c = clear_fits rest in let i : length (clear rest) + 1 ≤ n = omega arith in chosen (If (Left n)) (opens_name rest) (Some (clear rest)) None i tt)

pub dollar_short_fits : (bytes : Text) → If (RestLeft {A = Subject} (length bytes)) (dollar_short bytes)
unfolding dollar_short
dollar_short_fits bytes =
    let n = length bytes in
    then (Left n) (RestLeft {A = Subject} n) (behind 36 (clear bytes)) (λ rest. short_param_at (clear rest)) (behind_clear 36 n bytes (omega arith))
    (λ rest h. let c = clear_fits rest in short_param_fits n (clear rest) (omega arith))

if_name_fits : (n : ℕ) (o : Option Text) → If (Left n) o → If (Left n) (if_name o)
if_name_fits n o h =
    then (Left n) (Left n) o (λ rest. cond (opens_name rest) (Some (clear rest)) None) h
    (λ rest h. let c = clear_fits rest in let i : length (clear rest) + 1 ≤ n = omega arith in chosen (If (Left n)) (opens_name rest) (Some (clear rest)) None i tt)

pub brace_name_fits : (bytes : Text) → If (Left (length bytes)) (brace_name bytes)
unfolding brace_name
brace_name_fits bytes = if_name_fits (length bytes) (behind_two 36 123 bytes) (behind_two_fits 36 123 bytes)

-- behind `${` and one byte
behind_brace : (k : ℕ) (bytes : Text) → If (Left (length bytes)) (behind_two 36 123 bytes >>= λ rest. behind k (clear rest))
behind_brace k bytes =
    then (Left (length bytes)) (Left (length bytes)) (behind_two 36 123 bytes) (λ rest. behind k (clear rest)) (behind_two_fits 36 123 bytes) (λ rest h. behind_clear k (length bytes) rest (omega arith))

pub length_name_fits : (bytes : Text) → If (Left (length bytes)) (length_name bytes)
unfolding length_name
length_name_fits bytes = if_name_fits (length bytes) (behind_two 36 123 bytes >>= λ rest. behind 35 (clear rest)) (behind_brace 35 bytes)

pub pointed_name_fits : (bytes : Text) → If (Left (length bytes)) (pointed_name bytes)
unfolding pointed_name
pointed_name_fits bytes = if_name_fits (length bytes) (behind_two 36 123 bytes >>= λ rest. behind 33 (clear rest)) (behind_brace 33 bytes)

pub brace_special_fits : (bytes : Text) → If (RestLeft {A = Special} (length bytes)) (brace_special bytes)
unfolding brace_special
brace_special_fits bytes =
    let n = length bytes in
    then (Left n) (RestLeft {A = Special} n) (behind_two 36 123 bytes) (λ rest. special_at (clear rest)) (behind_two_fits 36 123 bytes)
    (λ rest h. let c = clear_fits rest in weaker (Rest {A = Special} (length rest)) (RestLeft {A = Special} n) (special_at (clear rest)) (λ x i. omega arith) (special_fits (length rest) (clear rest) (omega arith)))

pub dollar_sum_fits : (bytes : Text) → If (Left (length bytes)) (dollar_sum bytes)
unfolding dollar_sum
dollar_sum_fits bytes =
    then (Left (length bytes)) (Left (length bytes)) (behind_two 36 40 bytes) (λ rest. behind 40 (clear rest)) (behind_two_fits 36 40 bytes) (λ rest h. behind_clear 40 (length bytes) rest (omega arith))

-- ---- behind the parameter

pub members_fits : (bytes : Text) → If (RestLeft {A = Bool} (length bytes)) (members_at bytes)
unfolding members_at
members_fits bytes =
    let n = length bytes in let P = If (RestLeft {A = Bool} n) in
    then (Left n) (RestLeft {A = Bool} n) (behind 91 (clear bytes)) _ (behind_clear 91 n bytes (omega arith))
    (λ a h. let c = clear_fits a in let t = tail_fits (clear a) in
    chosen P (byte_next 64 a) _ _
    (then (Left n) (RestLeft {A = Bool} n) (behind 93 (clear (tail (clear a)))) (λ rest. Some (true, rest)) (behind_clear 93 n (tail (clear a)) (omega arith)) (λ rest i. i))
    (chosen P (byte_next 42 a) _ _ (then (Left n) (RestLeft {A = Bool} n) (behind 93 (clear (tail (clear a)))) (λ rest. Some (false, rest)) (behind_clear 93 n (tail (clear a)) (omega arith)) (λ rest i. i)) tt))

or_left : (a b c : Bool) → ((a || b) && c) ≡ true → (a || b) ≡ true
or_left true b c e = refl
or_left false true c e = refl
or_left false false c e = absurd cc

tail_either : (j k : ℕ) (bytes : Text) (a b : Bool) → byte_next j bytes ≡ a → byte_next k bytes ≡ b → (a || b) ≡ true → length (tail (clear bytes)) + 1 ≤ length bytes
tail_either j k bytes true b e f g = tail_left j bytes e
tail_either j k bytes false true e f g = tail_left k bytes f
tail_either j k bytes false false e f g = absurd cc

pub names_fits : (bytes : Text) → If (Left (length bytes)) (names_at bytes)
unfolding names_at
names_fits bytes =
    chosen_by (If (Left (length bytes))) ((byte_next 42 bytes || byte_next 64 bytes) && closes (tail (clear bytes))) (Some (tail (clear bytes))) None
    (λ e. tail_either 42 64 bytes (byte_next 42 bytes) (byte_next 64 bytes) refl refl (or_left (byte_next 42 bytes) (byte_next 64 bytes) (closes (tail (clear bytes))) e)) (λ e. tt)

abbrev Fill : Type 0
Fill = Option FillTest × Bool

fill_rest : (n : ℕ) (colon : Bool) (bs : Text) (o : Option (Option FillTest)) → length bs + 1 ≤ n → If (RestLeft {A = Fill} n) (o >>= λ t. Some ((t, colon), bs))
fill_rest n colon bs None le = tt
fill_rest n colon bs (Some t) le = le

fill_in_fits : (n : ℕ) (colon : Bool) (bytes : Text) → length bytes ≤ n → If (RestLeft {A = Fill} n) (fill_in colon bytes)
fill_in_fits n colon [] le = tt
fill_in_fits n colon (b ∷ bs) le = fill_rest n colon bs (fill_test b) (omega arith)

pub fill_fits : (bytes : Text) → If (RestLeft {A = Fill} (length bytes)) (fill_at bytes)
unfolding fill_at
fill_fits bytes =
    let n = length bytes in let c = clear_fits bytes in let t = tail_fits (clear bytes) in let d = clear_fits (tail (clear bytes)) in
    chosen (If (RestLeft {A = Fill} n)) (byte_next 58 bytes) (fill_in true (clear (tail (clear bytes)))) (fill_in false (clear bytes))
    (fill_in_fits n true (clear (tail (clear bytes))) (omega arith)) (fill_in_fits n false (clear bytes) (omega arith))

doubled_fits : (n k : ℕ) (bytes : Text) → length bytes ≤ n → length (doubled k bytes).1 ≤ n
doubled_fits n k bytes le = let c = clear_fits bytes in let t = tail_fits (clear bytes) in chosen (λ (x : Bool × Text). length x.1 ≤ n) (byte_next k bytes) (true, tail (clear bytes)) (false, bytes) (omega arith) le

trim_in_fits : (n : ℕ) (bytes : Text) → length bytes ≤ n → If (RestLeft {A = Bool × Bool} n) (trim_in bytes)
trim_in_fits n [] le = tt
trim_in_fits n (b ∷ bs) le =
    let d = doubled_fits (length bs) b bs (omega arith) in let i : length (doubled b bs).1 + 1 ≤ n = omega arith in
    chosen (If (RestLeft {A = Bool × Bool} n)) (b == 35 || b == 37) (Some ((b == 37, (doubled b bs).0), (doubled b bs).1)) None i tt

pub trim_fits : (bytes : Text) → If (RestLeft {A = Bool × Bool} (length bytes)) (trim_at bytes)
unfolding trim_at
trim_fits bytes = trim_in_fits (length bytes) (clear bytes) (clear_fits bytes)

case_in_fits : (n : ℕ) (bytes : Text) → length bytes ≤ n → If (RestLeft {A = Bool × Bool} n) (case_in bytes)
case_in_fits n [] le = tt
case_in_fits n (b ∷ bs) le =
    let d = doubled_fits (length bs) b bs (omega arith) in let i : length (doubled b bs).1 + 1 ≤ n = omega arith in
    chosen (If (RestLeft {A = Bool × Bool} n)) (b == 94 || b == 44) (Some ((b == 94, (doubled b bs).0), (doubled b bs).1)) None i tt

pub case_fits : (bytes : Text) → If (RestLeft {A = Bool × Bool} (length bytes)) (case_at bytes)
unfolding case_at
case_fits bytes = case_in_fits (length bytes) (clear bytes) (clear_fits bytes)

replace_in_fits : (n : ℕ) (bs : Text) → length bs + 1 ≤ n → length (replace_in bs).1 + 1 ≤ n
replace_in_fits n bs le =
    let c = clear_fits bs in let t = tail_fits (clear bs) in let P = λ (x : ReplaceAt × Text). length x.1 + 1 ≤ n in
    let i : length (tail (clear bs)) + 1 ≤ n = omega arith in
    chosen P (byte_next 47 bs) _ _ i (chosen P (byte_next 35 bs) _ _ i (chosen P (byte_next 37 bs) _ _ i le))

pub replace_fits : (bytes : Text) → If (RestLeft {A = ReplaceAt} (length bytes)) (replace_at bytes)
unfolding replace_at
replace_fits bytes =
    let n = length bytes in
    then (Left n) (RestLeft {A = ReplaceAt} n) (behind 47 (clear bytes)) (λ rest. Some (replace_in rest)) (behind_clear 47 n bytes (omega arith)) (λ rest h. replace_in_fits n rest h)

transform_in_fits : (n : ℕ) (bytes : Text) → length bytes ≤ n → If (Left n) (transform_in bytes)
transform_in_fits n [] le = tt
transform_in_fits n (b ∷ bs) le = let i : length bs + 1 ≤ n = omega arith in chosen (If (Left n)) (is_transform b && closes bs) (Some bs) None i tt

pub transform_fits : (bytes : Text) → If (Left (length bytes)) (transform_at bytes)
unfolding transform_at
transform_fits bytes =
    let n = length bytes in
    then (Left n) (Left n) (behind 64 (clear bytes)) (λ rest. transform_in (clear rest)) (behind_clear 64 n bytes (omega arith)) (λ rest h. let c = clear_fits rest in transform_in_fits n (clear rest) (omega arith))

pub slice_fits : (bytes : Text) → If (Left (length bytes)) (slice_at bytes)
unfolding slice_at
slice_fits bytes = chosen (If (Left (length bytes))) (is_something (fill_at bytes)) None (behind 58 (clear bytes)) tt (behind_clear 58 (length bytes) bytes (omega arith))

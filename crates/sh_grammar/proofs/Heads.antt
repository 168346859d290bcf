-- What is left behind names, parameters, what `${` begins, delimiters and bodies.
use Rattle.std.proofs.Common.{ℕ, suc, ◌+◌, ◌≤◌, Bool, true, false, [], ◌∷◌, length, Option, Some, None, arith}
use Rattle.std.specs.Prelude.{◌||◌, ◌==◌}
use Rattle.span_text.specs.Names.{begins_name, is_digit}
use Rattle.sh_grammar.specs.Shape.{Param, FillTest, count}
use Rattle.sh_grammar.specs.Bytes.{Text, clear}
use Rattle.sh_grammar.specs.Expansions.{◌>>=◌, Head, filling, special, param_at, long_param_at, fill_test, fills, trims, operator_at, is_close, tail, length_head, or_else, is_dash, hash_head, is_hash, head_at, behind, behind_two, dollar_param, dollar_head, dollar_sum}
use Rattle.sh_grammar.proofs.Tools.{chosen, If, then}
use Rattle.sh_grammar.proofs.Lengths.{clear_fits, name_run_fits, digit_run_fits}

-- what is behind what was read has at most n bytes
abbrev pub Rest : {A : Type 0} → ℕ → A × Text → Type 0
Rest n x = length x.1 ≤ n

pub weaker : {A : Type 0} (n m : ℕ) (o : Option (A × Text)) → n ≤ m → If (Rest n) o → If (Rest m) o
weaker n m None le h = tt
weaker n m (Some x) le h = omega arith

-- ---- parameters

special_fits : (b : ℕ) (bs : Text) → If (Rest (length bs)) (special b bs)
special_fits b bs =
    let P = If (Rest {A = Param} (length bs)) in let le : length bs ≤ length bs = omega arith in
    chosen P (b == 35) _ _ le (chosen P (b == 63) _ _ le (chosen P (b == 64) _ _ le (chosen P (b == 42) _ _ le tt)))

pub param_fits : (bytes : Text) → If (Rest (length bytes)) (param_at bytes)
unfolding param_at
param_fits [] = tt
param_fits (b ∷ bs) =
    let P = If (Rest {A = Param} (suc (length bs))) in
    let i = name_run_fits (b ∷ bs) in
    let j : length bs ≤ suc (length bs) = omega arith in
    chosen P (begins_name b) _ _ i (chosen P (is_digit b) _ _ j (weaker (length bs) (suc (length bs)) (special b bs) j (special_fits b bs)))

pub long_param_fits : (bytes : Text) → If (Rest (length bytes)) (long_param_at bytes)
unfolding long_param_at
long_param_fits [] = tt
long_param_fits (b ∷ bs) =
    let P = If (Rest {A = Param} (suc (length bs))) in
    let i = name_run_fits (b ∷ bs) in
    let k = digit_run_fits (b ∷ bs) in
    let j : length bs ≤ suc (length bs) = omega arith in
    chosen P (begins_name b) _ _ i (chosen P (is_digit b) _ _ k (weaker (length bs) (suc (length bs)) (special b bs) j (special_fits b bs)))

-- ---- `${`

fill_fit_at : (p : Param) (colon : Bool) (bs : Text) (o : Option FillTest) → If (Rest (suc (length bs))) (o >>= λ t. Some (filling p t colon, bs))
fill_fit_at p colon bs None = tt
fill_fit_at p colon bs (Some t) = omega arith

fills_fit : (p : Param) (colon : Bool) (bs : Text) → If (Rest (length bs)) (fills p colon bs)
fills_fit p colon [] = tt
fills_fit p colon (b ∷ bs) = fill_fit_at p colon bs (fill_test b)

trims_fit : (p : Param) (suffix : Bool) (k : ℕ) (bs : Text) → If (Rest (length bs)) (trims p suffix k bs)
trims_fit p suffix k [] = omega arith
trims_fit p suffix k (b ∷ bs) = let P = If (Rest {A = Head} (suc (length bs))) in let i : length bs ≤ suc (length bs) = omega arith in let j : suc (length bs) ≤ suc (length bs) = omega arith in chosen P (b == k) _ _ i j

operator_fits : (p : Param) (bytes : Text) → If (Rest (length bytes)) (operator_at p bytes)
operator_fits p [] = tt
operator_fits p (b ∷ bs) =
    let n = suc (length bs) in let P = If (Rest {A = Head} n) in
    let c = clear_fits bs in
    let i : length bs ≤ n = omega arith in
    let j : length (clear bs) ≤ n = omega arith in
    chosen P (b == 125) _ _ i
    (chosen P (b == 58) _ _ (weaker (length (clear bs)) n (fills p true (clear bs)) j (fills_fit p true (clear bs)))
    (chosen P (b == 35) _ _ (weaker (length (clear bs)) n (trims p false 35 (clear bs)) j (trims_fit p false 35 (clear bs)))
    (chosen P (b == 37) _ _ (weaker (length (clear bs)) n (trims p true 37 (clear bs)) j (trims_fit p true 37 (clear bs)))
    (fills_fit p false (b ∷ bs)))))

tail_fits : (bs : Text) → length (tail bs) ≤ length bs
tail_fits [] = omega arith
tail_fits (b ∷ bs) = omega arith

length_fits : (n : ℕ) (o : Option (Param × Text)) → If (Rest n) o → If (Rest n) (length_head o)
length_fits n None h = tt
length_fits n (Some x) h =
    let P = If (Rest {A = Head} n) in let c = clear_fits x.1 in let t = tail_fits (clear x.1) in
    let i : length (tail (clear x.1)) ≤ n = omega arith in
    chosen P (is_close (clear x.1)) _ _ i tt

else_fits : {A : Type 0} (P : A → Type 0) (o p : Option A) → If P o → If P p → If P (or_else o p)
else_fits P None p h i = i
else_fits P (Some x) p h i = h

hash_fits : (bs : Text) → If (Rest (length bs)) (hash_head bs)
hash_fits bs =
    let P = If (Rest {A = Head} (length bs)) in
    let o = operator_fits count bs in
    let l = length_fits (length bs) (long_param_at bs) (long_param_fits bs) in
    chosen P (is_close bs || is_dash bs) _ _ (chosen P (is_dash bs) _ _ tt o) (else_fits (Rest {A = Head} (length bs)) (length_head (long_param_at bs)) (operator_at count bs) l o)

pub head_fits : (bytes : Text) → If (Rest (length bytes)) (head_at bytes)
unfolding head_at
head_fits bytes =
    let n = length bytes in let P = If (Rest {A = Head} n) in
    let t = tail_fits bytes in let c = clear_fits (tail bytes) in
    chosen P (is_hash bytes) _ _ (weaker (length (clear (tail bytes))) n (hash_head (clear (tail bytes))) (omega arith) (hash_fits (clear (tail bytes))))
    (then (Rest {A = Param} n) (Rest {A = Head} n) (long_param_at bytes) (λ x. operator_at x.0 (clear x.1)) (long_param_fits bytes)
    (λ x h. let d = clear_fits x.1 in weaker (length (clear x.1)) n (operator_at x.0 (clear x.1)) (omega arith) (operator_fits x.0 (clear x.1))))

-- ---- at the `$`

-- what is left is shorter than n
abbrev pub Left : ℕ → Text → Type 0
Left n bytes = length bytes + 1 ≤ n

pub behind_fits : (k : ℕ) (bytes : Text) → If (Left (length bytes)) (behind k bytes)
behind_fits k [] = tt
behind_fits k (b ∷ bs) = let P = If (Left (suc (length bs))) in let i : length bs + 1 ≤ suc (length bs) = omega arith in chosen P (b == k) _ _ i tt

shorter : (n m : ℕ) (o : Option Text) → n ≤ m → If (Left n) o → If (Left m) o
shorter n m None le h = tt
shorter n m (Some x) le h = omega arith

-- joins before the byte
pub behind_clear_fits : (k : ℕ) (bytes : Text) → If (Left (length bytes)) (behind k (clear bytes))
behind_clear_fits k bytes = let c = clear_fits bytes in shorter (length (clear bytes)) (length bytes) (behind k (clear bytes)) c (behind_fits k (clear bytes))

pub behind_two_fits : (j k : ℕ) (bytes : Text) → If (Left (length bytes)) (behind_two j k bytes)
unfolding behind_two
behind_two_fits j k bytes =
    then (Left (length bytes)) (Left (length bytes)) (behind j (clear bytes)) (λ rest. behind k (clear rest)) (behind_clear_fits j bytes)
    (λ rest h. shorter (length rest) (length bytes) (behind k (clear rest)) (omega arith) (behind_clear_fits k rest))

-- what is behind what was read is shorter than n
abbrev pub RestLeft : {A : Type 0} → ℕ → A × Text → Type 0
RestLeft n x = length x.1 + 1 ≤ n

left_rest : {A : Type 0} (n m : ℕ) (o : Option (A × Text)) → n + 1 ≤ m → If (Rest n) o → If (RestLeft m) o
left_rest n m None le h = tt
left_rest n m (Some x) le h = omega arith

pub dollar_param_fits : (bytes : Text) → If (RestLeft (length bytes)) (dollar_param bytes)
unfolding dollar_param
dollar_param_fits bytes =
    then (Left (length bytes)) (RestLeft {A = Param} (length bytes)) (behind 36 (clear bytes)) (λ rest. param_at (clear rest)) (behind_clear_fits 36 bytes)
    (λ rest h. let c = clear_fits rest in left_rest (length (clear rest)) (length bytes) (param_at (clear rest)) (omega arith) (param_fits (clear rest)))

pub dollar_head_fits : (bytes : Text) → If (RestLeft (length bytes)) (dollar_head bytes)
unfolding dollar_head
dollar_head_fits bytes =
    then (Left (length bytes)) (RestLeft {A = Head} (length bytes)) (behind_two 36 123 bytes) (λ rest. head_at (clear rest)) (behind_two_fits 36 123 bytes)
    (λ rest h. let c = clear_fits rest in left_rest (length (clear rest)) (length bytes) (head_at (clear rest)) (omega arith) (head_fits (clear rest)))

pub dollar_sum_fits : (bytes : Text) → If (Left (length bytes)) (dollar_sum bytes)
unfolding dollar_sum
dollar_sum_fits bytes =
    then (Left (length bytes)) (Left (length bytes)) (behind_two 36 40 bytes) (λ rest. behind 40 (clear rest)) (behind_two_fits 36 40 bytes)
    (λ rest h. shorter (length rest) (length bytes) (behind 40 (clear rest)) (omega arith) (behind_clear_fits 40 rest))

-- Reading leaves no more bytes than there were: joins, gaps, runs and names.
use Rattle.std.proofs.Common.{ℕ, suc, ◌+◌, ◌≤◌, Bool, true, false, cond, [], ◌∷◌, length, arith}
use Rattle.std.specs.Prelude.{◌||◌, ◌&&◌, not, ◌==◌}
use Rattle.span_text.specs.Names.{begins_name, continues_name}
use Rattle.bash_grammar.specs.Bytes.{Text, is_join, clear_from, clear, comment_end, is_blank, gap_from, gap, idle_from, idle, with_byte, run_from, level_behind, counted, counted_from, counts, opening, closing, is_literal, literal_run, literal_in, Context, name_run, digit_run}
use Rattle.bash_grammar.proofs.Tools.{chosen}

-- it has at most n bytes
abbrev pub AtMost : ℕ → Text → Type 0
AtMost n bytes = length bytes ≤ n

clear_from_fits : (t : Bool) (bs : Text) → AtMost (length bs) (clear_from t bs)
clear_from_fits true [] = omega arith
clear_from_fits false [] = omega arith
clear_from_fits true (b ∷ bs) = let i = clear_from_fits false bs in omega arith
clear_from_fits false (b ∷ bs) = let i = clear_from_fits true bs in chosen (AtMost (suc (length bs))) (is_join b bs) (clear_from true bs) (b ∷ bs) (omega arith) (omega arith)

pub clear_fits : (bs : Text) → length (clear bs) ≤ length bs
unfolding clear
clear_fits bs = clear_from_fits false bs

comment_fits : (bs : Text) → length (comment_end bs) ≤ length bs
unfolding comment_end
comment_fits [] = omega arith
comment_fits (b ∷ bs) = let i = comment_fits bs in chosen (AtMost (suc (length bs))) (b == 10) (b ∷ bs) (comment_end bs) (omega arith) (omega arith)

gap_from_fits : (t : Bool) (bs : Text) → AtMost (length bs) (gap_from t bs)
gap_from_fits true [] = omega arith
gap_from_fits false [] = omega arith
gap_from_fits true (b ∷ bs) = let i = gap_from_fits false bs in omega arith
gap_from_fits false (b ∷ bs) =
    let i = gap_from_fits false bs in let j = gap_from_fits true bs in let k = comment_fits bs in
    let n = suc (length bs) in
    let hash = cond (b == 35) (comment_end bs) (b ∷ bs) in
    let join = cond (is_join b bs) (gap_from true bs) hash in
    chosen (AtMost n) (is_blank b) (gap_from false bs) join (omega arith)
    (chosen (AtMost n) (is_join b bs) (gap_from true bs) hash (omega arith)
    (chosen (AtMost n) (b == 35) (comment_end bs) (b ∷ bs) (omega arith) (omega arith)))

pub gap_fits : (bs : Text) → length (gap bs) ≤ length bs
unfolding gap
gap_fits bs = gap_from_fits false bs

idle_from_fits : (t c : Bool) (bs : Text) → AtMost (length bs) (idle_from t c bs)
idle_from_fits true true [] = omega arith
idle_from_fits true false [] = omega arith
idle_from_fits false true [] = omega arith
idle_from_fits false false [] = omega arith
idle_from_fits true true (b ∷ bs) = let i = idle_from_fits false true bs in omega arith
idle_from_fits true false (b ∷ bs) = let i = idle_from_fits false false bs in omega arith
idle_from_fits false true (b ∷ bs) = let i = idle_from_fits false (not (b == 10)) bs in omega arith
idle_from_fits false false (b ∷ bs) =
    let i = idle_from_fits false false bs in let j = idle_from_fits true false bs in let k = idle_from_fits false true bs in
    let n = suc (length bs) in
    let hash = cond (b == 35) (idle_from false true bs) (b ∷ bs) in
    let join = cond (is_join b bs) (idle_from true false bs) hash in
    chosen (AtMost n) (is_blank b || b == 10) (idle_from false false bs) join (omega arith)
    (chosen (AtMost n) (is_join b bs) (idle_from true false bs) hash (omega arith)
    (chosen (AtMost n) (b == 35) (idle_from false true bs) (b ∷ bs) (omega arith) (omega arith)))

pub idle_fits : (bs : Text) → length (idle bs) ≤ length bs
unfolding idle
idle_fits bs = idle_from_fits false false bs

-- ---- runs

-- both of these have at most n bytes together
abbrev pub Both : ℕ → Text × Text → Type 0
Both n x = length x.0 + length x.1 ≤ n

pub run_fits : (n : ℕ) (g : ℕ → Text → Bool) (rest : Text) (t : Bool) (bs : Text) → length rest ≤ n → length bs ≤ n → Both n (run_from g rest t bs)
run_fits n g rest true [] i j = omega arith
run_fits n g rest false [] i j = omega arith
run_fits n g rest true (b ∷ bs) i j = run_fits n g rest false bs i (omega arith)
run_fits n g rest false (b ∷ bs) i j =
    let k = run_fits (length bs) g bs false bs (omega arith) (omega arith) in
    let l = run_fits n g rest true bs i (omega arith) in
    let p : Both n (with_byte b (run_from g bs false bs)) = omega arith in
    let q : Both n ([], rest) = omega arith in
    chosen (Both n) (is_join b bs) (run_from g rest true bs) (cond (g b bs) (with_byte b (run_from g bs false bs)) ([], rest)) l
    (chosen (Both n) (g b bs) (with_byte b (run_from g bs false bs)) ([], rest) p q)

abbrev pub BothCounted : ℕ → (Text × Text) × ℕ → Type 0
BothCounted n x = Both n x.0

counted_fits : (n left right : ℕ) (g : ℕ → Text → Bool) (level : ℕ) (rest : Text) (t : Bool) (bs : Text) → length rest ≤ n → length bs ≤ n → BothCounted n (counted_from left right g level rest t bs)
counted_fits n left right g level rest true [] i j = omega arith
counted_fits n left right g level rest false [] i j = omega arith
counted_fits n left right g level rest true (b ∷ bs) i j = counted_fits n left right g level rest false bs i (omega arith)
counted_fits n left right g level rest false (b ∷ bs) i j =
    let m = level_behind left right b level in
    let k = counted_fits (length bs) left right g m bs false bs (omega arith) (omega arith) in
    let l = counted_fits n left right g level rest true bs i (omega arith) in
    let p : BothCounted n (counted b (counted_from left right g m bs false bs)) = omega arith in
    let q : BothCounted n (([], rest), level) = omega arith in
    chosen (BothCounted n) (is_join b bs) (counted_from left right g level rest true bs) (cond (g b bs && not (b == right && level == 0)) (counted b (counted_from left right g m bs false bs)) (([], rest), level)) l
    (chosen (BothCounted n) (g b bs && not (b == right && level == 0)) (counted b (counted_from left right g m bs false bs)) (([], rest), level) p q)

pub literal_fits : (c : Context) (bs : Text) → Both (length bs) (literal_run c bs)
unfolding literal_run
literal_fits c bs = run_fits (length bs) (is_literal c) bs false bs (omega arith) (omega arith)

pub literal_in_fits : (c : Context) (level : ℕ) (bs : Text) → BothCounted (length bs) (literal_in c level bs)
unfolding literal_in
literal_in_fits c level bs =
    chosen (BothCounted (length bs)) (counts c.spot) (counted_from (opening c.spot) (closing c.spot) (is_literal c) level bs false bs) (literal_run c bs, level)
    (counted_fits (length bs) (opening c.spot) (closing c.spot) (is_literal c) level bs false bs (omega arith) (omega arith)) (literal_fits c bs)

pub name_run_fits : (bs : Text) → Both (length bs) (name_run bs)
unfolding name_run
name_run_fits bs = run_fits (length bs) (λ b bs. continues_name b) bs false bs (omega arith) (omega arith)

pub digit_run_fits : (bs : Text) → Both (length bs) (digit_run bs)
unfolding digit_run
digit_run_fits bs = run_fits (length bs) (λ b bs. Rattle.span_text.specs.Names.is_digit b) bs false bs (omega arith) (omega arith)

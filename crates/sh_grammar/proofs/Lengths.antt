-- Reading leaves no more bytes than there were: joins, gaps, runs and names.
use Rattle.std.proofs.Common.{ℕ, suc, ◌+◌, ◌≤◌, Bool, true, false, cond, [], ◌∷◌, length, arith}
use Rattle.std.specs.Prelude.{◌||◌, not, ◌==◌}
use Rattle.span_text.specs.Names.{begins_name, continues_name}
use Rattle.sh_grammar.specs.Bytes.{Text, is_join, clear_from, clear, comment_end, is_blank, gap_from, gap, idle_from, idle, with_byte, run_from, is_literal, literal_run, Context, name_run, digit_run}
use Rattle.sh_grammar.proofs.Tools.{chosen}

-- it has at most n bytes
abbrev pub AtMost : ℕ → Text → Type 0
AtMost n bytes = length bytes ≤ n

clear_from_fits : (t : Bool) (bs : Text) → AtMost (length bs) (clear_from t bs)
clear_from_fits true [] = omega arith
clear_from_fits false [] = omega arith
clear_from_fits true (b ∷ bs) = let i = clear_from_fits false bs in omega arith
clear_from_fits false (b ∷ bs) = let i = clear_from_fits true bs in chosen (AtMost (suc (length bs))) (is_join b bs) (clear_from true bs) (b ∷ bs) (omega arith) (omega arith)

pub clear_fits : (bs : Text) → length (clear bs) ≤ length bs
unfolding clear
clear_fits bs = clear_from_fits false bs

comment_fits : (bs : Text) → length (comment_end bs) ≤ length bs
unfolding comment_end
comment_fits [] = omega arith
comment_fits (b ∷ bs) = let i = comment_fits bs in chosen (AtMost (suc (length bs))) (b == 10) (b ∷ bs) (comment_end bs) (omega arith) (omega arith)

gap_from_fits : (t : Bool) (bs : Text) → AtMost (length bs) (gap_from t bs)
gap_from_fits true [] = omega arith
gap_from_fits false [] = omega arith
gap_from_fits true (b ∷ bs) = let i = gap_from_fits false bs in omega arith
gap_from_fits false (b ∷ bs) =
    let i = gap_from_fits false bs in let j = gap_from_fits true bs in let k = comment_fits bs in
    let n = suc (length bs) in
    let hash = cond (b == 35) (comment_end bs) (b ∷ bs) in
    let join = cond (is_join b bs) (gap_from true bs) hash in
    chosen (AtMost n) (is_blank b) (gap_from false bs) join (omega arith)
    (chosen (AtMost n) (is_join b bs) (gap_from true bs) hash (omega arith)
    (chosen (AtMost n) (b == 35) (comment_end bs) (b ∷ bs) (omega arith) (omega arith)))

pub gap_fits : (bs : Text) → length (gap bs) ≤ length bs
unfolding gap
gap_fits bs = gap_from_fits false bs

idle_from_fits : (t c : Bool) (bs : Text) → AtMost (length bs) (idle_from t c bs)
idle_from_fits true true [] = omega arith
idle_from_fits true false [] = omega arith
idle_from_fits false true [] = omega arith
idle_from_fits false false [] = omega arith
idle_from_fits true true (b ∷ bs) = let i = idle_from_fits false true bs in omega arith
idle_from_fits true false (b ∷ bs) = let i = idle_from_fits false false bs in omega arith
idle_from_fits false true (b ∷ bs) = let i = idle_from_fits false (not (b == 10)) bs in omega arith
idle_from_fits false false (b ∷ bs) =
    let i = idle_from_fits false false bs in let j = idle_from_fits true false bs in let k = idle_from_fits false true bs in
    let n = suc (length bs) in
    let hash = cond (b == 35) (idle_from false true bs) (b ∷ bs) in
    let join = cond (is_join b bs) (idle_from true false bs) hash in
    chosen (AtMost n) (is_blank b || b == 10) (idle_from false false bs) join (omega arith)
    (chosen (AtMost n) (is_join b bs) (idle_from true false bs) hash (omega arith)
    (chosen (AtMost n) (b == 35) (idle_from false true bs) (b ∷ bs) (omega arith) (omega arith)))

pub idle_fits : (bs : Text) → length (idle bs) ≤ length bs
unfolding idle
idle_fits bs = idle_from_fits false false bs

-- ---- runs

-- both of these have at most n bytes together
abbrev pub Both : ℕ → Text × Text → Type 0
Both n x = length x.0 + length x.1 ≤ n

pub run_fits : (g : ℕ → Text → Bool) (t : Bool) (bs : Text) → Both (length bs) (run_from g t bs)
run_fits g true [] = omega arith
run_fits g false [] = omega arith
run_fits g true (b ∷ bs) = let i = run_fits g false bs in omega arith
run_fits g false (b ∷ bs) =
    let i = run_fits g false bs in let j = run_fits g true bs in
    let n = suc (length bs) in
    let p : Both n (with_byte b (run_from g false bs)) = omega arith in
    let q : Both n ([], b ∷ bs) = omega arith in
    chosen (Both n) (is_join b bs) (run_from g true bs) (cond (g b bs) (with_byte b (run_from g false bs)) ([], b ∷ bs)) (omega arith)
    (chosen (Both n) (g b bs) (with_byte b (run_from g false bs)) ([], b ∷ bs) p q)

pub literal_fits : (c : Context) (bs : Text) → Both (length bs) (literal_run c bs)
unfolding literal_run
literal_fits c bs = run_fits (is_literal c) false bs

pub name_run_fits : (bs : Text) → length (name_run bs).1 ≤ length bs
unfolding name_run
name_run_fits bs = let i = run_fits (λ b bs. continues_name b) false bs in omega arith

pub digit_run_fits : (bs : Text) → length (digit_run bs).1 ≤ length bs
unfolding digit_run
digit_run_fits bs = let i = run_fits (λ b bs. Rattle.span_text.specs.Names.is_digit b) false bs in omega arith

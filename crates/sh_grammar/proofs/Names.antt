-- What is left behind names, and behind a tilde.
use Rattle.std.proofs.Common.{◌≡◌, ℕ, suc, ◌+◌, ◌≤◌, Bool, true, false, cond, [], ◌∷◌, length, Option, Some, None, refl, subst, eqb-true, arith}
use Rattle.std.specs.Prelude.{◌||◌, ◌&&◌, not, ◌==◌}
use Rattle.span_text.specs.Names.{is_letter, begins_name, continues_name, is_digit}
use Rattle.sh_grammar.specs.Bytes.{Text, is_join, clear, gap, starts, name_run, in_word, unit_starts}
use Rattle.sh_grammar.specs.Tokens.{◌>>=◌, behind, name_at, assign_at, tilde_at}
use Rattle.sh_grammar.proofs.Tools.{chosen, chosen_by, If}
use Rattle.sh_grammar.proofs.Lengths.{clear_fits, gap_fits, run_fits}
use Rattle.sh_grammar.proofs.Heads.{Left, RestLeft}

no_letter : is_letter 92 ≡ true → ⊥
no_letter e = absurd cc

no_join_at : (b : ℕ) (c d : Bool) → is_letter b ≡ true → (b == 92) ≡ d → (d && c) ≡ false
no_join_at b c false e same = refl
no_join_at b c true e same = let is : b ≡ 92 = eqb-true b 92 same in absurd (no_letter (subst (λ (z : ℕ). is_letter z ≡ true) is e))

-- a byte that begins a name is in no join
no_join : (b : ℕ) (bs : Text) → begins_name b ≡ true → is_join b bs ≡ false
unfolding begins_name
no_join b [] e = refl
no_join b (c ∷ bs) e = no_join_at b (c == 10) (b == 92) e refl

-- a name takes a byte
name_run_left : (bytes : Text) → starts begins_name bytes ≡ true → length (name_run bytes).1 + 1 ≤ length bytes
unfolding name_run begins_name continues_name
name_run_left [] e = absurd cc
name_run_left (b ∷ bs) e =
    let i = run_fits (λ b bs. continues_name b) false bs in
    let j = no_join b bs e in
    let g : (is_letter b || is_digit b) ≡ true = rw (e) refl in
    rw (j, g) (omega arith)

pub name_fits : (bytes : Text) → If (RestLeft {A = Text} (length bytes)) (name_at bytes)
unfolding name_at
name_fits bytes = let P = If (RestLeft {A = Text} (length bytes)) in chosen_by P (starts begins_name bytes) (Some (name_run bytes)) None (λ e. name_run_left bytes e) (λ e. tt)

-- what is read behind a text that was read
then : {A B : Type 0} (P : A → Type 0) (Q : B → Type 0) (o : Option A) (f : A → Option B) → If P o → ((x : A) → P x → If Q (f x)) → If Q (o >>= f)
then P Q None f h k = tt
then P Q (Some x) f h k = k x h

behind_left : (k : ℕ) (bytes : Text) → If (Left (length bytes)) (behind k bytes)
behind_left k [] = tt
behind_left k (b ∷ bs) = let P = If (Left (suc (length bs))) in let i : length bs + 1 ≤ suc (length bs) = omega arith in chosen P (b == k) _ _ i tt

pub assign_fits : (bytes : Text) → If (RestLeft {A = Text} (length bytes)) (assign_at bytes)
unfolding assign_at
assign_fits bytes =
    let n = length bytes in let g = gap_fits bytes in
    then (RestLeft {A = Text} (length (gap bytes))) (RestLeft {A = Text} n) (name_at (gap bytes)) (λ x. behind 61 (clear x.1) >>= λ rest. Some (x.0, rest)) (name_fits (gap bytes))
    (λ x h. let c = clear_fits x.1 in
    then (Left (length (clear x.1))) (RestLeft {A = Text} n) (behind 61 (clear x.1)) (λ rest. Some (x.0, rest)) (behind_left 61 (clear x.1)) (λ rest j. omega arith))

pub tilde_fits : (bytes : Text) → If (Left (length bytes)) (tilde_at bytes)
unfolding tilde_at
tilde_fits bytes =
    let n = length bytes in
    then (Left n) (Left n) (behind 126 bytes) (λ rest. cond (starts (λ b. b == 47) (clear rest) || not (unit_starts in_word (clear rest))) (Some rest) None) (behind_left 126 bytes)
    (λ rest h. chosen (If (Left n)) (starts (λ b. b == 47) (clear rest) || not (unit_starts in_word (clear rest))) (Some rest) None h tt)

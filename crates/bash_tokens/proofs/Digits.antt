-- A run of digits is one byte long where no digit follows the first.
use Rattle.std.proofs.Common.{◌≡◌, ℕ, Bool, true, false, cond, [], ◌∷◌, length, refl, ◌∙◌, arith}
use Rattle.std.proofs.lemmas.Bool.Decides.{nat_tests}
use Rattle.std.specs.Prelude.{◌==◌, not}
use Rattle.span_text.specs.Names.{is_digit}
use Rattle.bash_grammar.specs.Bytes.{Text, is_join, starts, clear_from, clear, run_from, with_byte, digit_run}

abbrev go : Text → Bool → Text → Text × Text
go end taken bs = run_from (λ b cs. is_digit b) end taken bs

empty_at : (end : Text) (b : ℕ) (bs : Text) (j d : Bool) → is_digit b ≡ d → ((taken : Bool) → (length (go end taken bs).0 == 0) ≡ not (starts is_digit (clear_from taken bs))) →
    (length (cond j (go end true bs) (cond d (with_byte b (go bs false bs)) ([], end))).0 == 0) ≡ not (starts is_digit (cond j (clear_from true bs) (b ∷ bs)))
empty_at end b bs true d f h = h true
empty_at end b bs false true f h = rw f (grind (arith, nat_tests))
empty_at end b bs false false f h = rw f refl

empty : (end bs : Text) (taken : Bool) → (length (go end taken bs).0 == 0) ≡ not (starts is_digit (clear_from taken bs))
empty end [] taken = refl
empty end (b ∷ bs) true = empty end bs false
empty end (b ∷ bs) false = empty_at end b bs (is_join b bs) (is_digit b) refl (empty end bs)

no_join : (b : ℕ) (bs : Text) → is_digit b ≡ true → is_join b bs ≡ false
no_join b [] e = refl
no_join b (c ∷ bs) e = grind (arith, nat_tests)

one_at : (b : ℕ) (bs : Text) (j d : Bool) → j ≡ false → d ≡ true →
    (length (cond j (go (b ∷ bs) true bs) (cond d (with_byte b (go bs false bs)) ([], b ∷ bs))).0 == 1) ≡ (length (go bs false bs).0 == 0)
one_at b bs true d e f = absurd cc
one_at b bs false true e f = grind (arith, nat_tests)
one_at b bs false false e f = absurd cc

pub one_digit : (b : ℕ) (bs : Text) → is_digit b ≡ true → (length (digit_run (b ∷ bs)).0 == 1) ≡ not (starts is_digit (clear bs))
unfolding digit_run clear
one_digit b bs e = one_at b bs (is_join b bs) (is_digit b) (no_join b bs e) e ∙ empty bs bs false

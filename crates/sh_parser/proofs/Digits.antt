-- A run of digits is one byte long where no digit follows the first.
use Rattle.std.proofs.Common.{◌≡◌, ℕ, Bool, true, false, cond, [], ◌∷◌, length, refl, ◌∙◌, arith}
use Rattle.std.proofs.lemmas.Bool.Decides.{nat_tests}
use Rattle.std.specs.Prelude.{◌==◌, not}
use Rattle.span_text.specs.Names.{is_digit}
use Rattle.sh_grammar.specs.Bytes.{Text, is_join, starts, clear_from, clear, run_from, with_byte, digit_run}

abbrev go : Bool → Text → Text × Text
go taken bs = run_from (λ b cs. is_digit b) taken bs

empty_at : (b : ℕ) (bs : Text) (j d : Bool) → is_digit b ≡ d → ((taken : Bool) → (length (go taken bs).0 == 0) ≡ not (starts is_digit (clear_from taken bs))) →
    (length (cond j (go true bs) (cond d (with_byte b (go false bs)) ([], b ∷ bs))).0 == 0) ≡ not (starts is_digit (cond j (clear_from true bs) (b ∷ bs)))
empty_at b bs true d f h = h true
empty_at b bs false true f h = rw f (grind (arith, nat_tests))
empty_at b bs false false f h = rw f refl

empty : (bs : Text) (taken : Bool) → (length (go taken bs).0 == 0) ≡ not (starts is_digit (clear_from taken bs))
empty [] taken = refl
empty (b ∷ bs) true = empty bs false
empty (b ∷ bs) false = empty_at b bs (is_join b bs) (is_digit b) refl (empty bs)

no_join : (b : ℕ) (bs : Text) → is_digit b ≡ true → is_join b bs ≡ false
no_join b [] e = refl
no_join b (c ∷ bs) e = grind (arith, nat_tests)

one_at : (b : ℕ) (bs : Text) (j d : Bool) → j ≡ false → d ≡ true →
    (length (cond j (go true bs) (cond d (with_byte b (go false bs)) ([], b ∷ bs))).0 == 1) ≡ (length (go false bs).0 == 0)
one_at b bs true d e f = absurd cc
one_at b bs false true e f = grind (arith, nat_tests)
one_at b bs false false e f = absurd cc

pub one_digit : (b : ℕ) (bs : Text) → is_digit b ≡ true → (length (digit_run (b ∷ bs)).0 == 1) ≡ not (starts is_digit (clear bs))
unfolding digit_run clear
one_digit b bs e = one_at b bs (is_join b bs) (is_digit b) (no_join b bs e) e ∙ empty bs false

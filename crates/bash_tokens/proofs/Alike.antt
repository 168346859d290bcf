-- Texts are the same either way.
use Rattle.std.proofs.Common.{◌≡◌, ℕ, [], ◌∷◌, refl, arith}
use Rattle.std.specs.Prelude.{◌==◌}
use Rattle.std.proofs.lemmas.Bool.Decides.{nat_tests}
use Rattle.span_text.specs.KnownNames.{same_text}
use Rattle.bash_grammar.specs.Bytes.{Text}

same_byte : (x y : ℕ) → (x == y) ≡ (y == x)
same_byte x y = grind (arith, nat_tests)

pub turned : (xs ys : Text) → same_text xs ys ≡ same_text ys xs
turned [] [] = refl
turned [] (y ∷ ys) = refl
turned (x ∷ xs) [] = refl
turned (x ∷ xs) (y ∷ ys) = rw (same_byte x y, turned xs ys) refl

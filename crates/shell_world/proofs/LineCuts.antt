-- Where a line ends, and descriptors that are set.
use Rattle.std.proofs.Common.{◌≡◌, ℕ, zero, suc, ◌+◌, true, false, nat_lt, length, drop, List, [], ◌∷◌, map, refl, sym, ap, ◌∙◌, arith}
use Rattle.std.specs.Prelude.{slice_set}
use Rattle.std.proofs.lemmas.Bool.Decides.{nat_tests}
use Rattle.shell_world.specs.Texts.{Text, with_nth}
use Rattle.shell_world.specs.Lines.{line_len, is_ended, newlines, line_taken}

pub ended_is : (n : ℕ) (text : Text) → is_ended (drop n text) ≡ nat_lt n (length text)
ended_is zero [] = grind (arith, nat_tests)
ended_is (suc n) [] = grind (arith, nat_tests)
ended_is zero (b ∷ bs) = grind (arith, nat_tests)
ended_is (suc n) (b ∷ bs) = ended_is n bs ∙ grind (arith, nat_tests)

pub taken_with : (n : ℕ) (text : Text) → n ≡ line_len text → nat_lt n (length text) ≡ true → n + 1 ≡ line_taken text
taken_with n text is lt = rw (sym is) (ap (λ b. n + newlines b) (sym (ended_is n text ∙ lt)))

pub taken_without : (n : ℕ) (text : Text) → n ≡ line_len text → nat_lt n (length text) ≡ false → n ≡ line_taken text
taken_without n text is lt =
    let none : n ≡ n + 0 = omega arith in
    rw (sym is) (none ∙ ap (λ b. n + newlines b) (sym (ended_is n text ∙ lt)))

pub set_mapped : {X Y : Type 0} (f : X → Y) (xs : List X) (n : ℕ) (y : X) → map f (slice_set xs n y) ≡ with_nth n (f y) (map f xs)
set_mapped f [] n y = refl
set_mapped f (x ∷ xs) zero y = refl
set_mapped f (x ∷ xs) (suc n) y = ap (λ ys. f x ∷ ys) (set_mapped f xs n y)

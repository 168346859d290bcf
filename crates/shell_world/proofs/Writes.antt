-- Bytes that are written over others, and files that are put into a map.
use Rattle.std.proofs.Common.{◌≡◌, ℕ, zero, suc, ◌+◌, ◌≤◌, length, take, [], ◌∷◌, ◌++◌, refl, ap, ◌∙◌, arith, add-one}
use Rattle.shell_world.specs.Texts.{Text}
use Rattle.shell_world.specs.Outside.{padded}

pub padded_within : (n : ℕ) (text : Text) → n ≤ length text → padded n text ≡ take n text
padded_within zero text h = refl
padded_within (suc n) [] h = absurd (omega arith)
padded_within (suc n) (b ∷ bs) h = ap (λ x. b ∷ x) (padded_within n bs (omega arith))

padded_next : (n : ℕ) (text : Text) → length text ≤ n → padded (suc n) text ≡ padded n text ++ 0 ∷ []
padded_next zero [] h = refl
padded_next (suc n) [] h = ap (λ x. 0 ∷ x) (padded_next n [] (omega arith))
padded_next zero (b ∷ bs) h = absurd (omega arith)
padded_next (suc n) (b ∷ bs) h = ap (λ x. b ∷ x) (padded_next n bs (omega arith))

-- one more NUL byte behind the text
pub padded_more : (n : ℕ) (text : Text) → length text ≤ n → padded (n + 1) text ≡ padded n text ++ 0 ∷ []
padded_more n text h = ap (λ m. padded m text) (add-one n) ∙ padded_next n text h

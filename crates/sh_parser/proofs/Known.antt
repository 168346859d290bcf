-- The bodies that are known, by their places.
use Rattle.std.proofs.Common.{◌≡◌, ℕ, zero, suc, ◌<◌, ◌≤◌, List, [], ◌∷◌, length, get_or, refl, arith}
use Rattle.sh_grammar.specs.Bytes.{Text}
use Rattle.sh_grammar.specs.Steps.{nth}

pub nth_beyond : (xs : List Text) (n : ℕ) → length xs ≤ n → [] ≡ nth xs n
nth_beyond [] n le = refl
nth_beyond (x ∷ xs) zero le = absurd (omega arith)
nth_beyond (x ∷ xs) (suc n) le = nth_beyond xs n (omega arith)

pub nth_known : (xs : List Text) (n : ℕ) (d : Text) → n < length xs → get_or xs n d ≡ nth xs n
nth_known [] n d lt = absurd (omega arith)
nth_known (x ∷ xs) zero d lt = refl
nth_known (x ∷ xs) (suc n) d lt = nth_known xs n d (omega arith)

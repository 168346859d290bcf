-- Joins at the front are dropped, wherever they are dropped.
use Rattle.std.proofs.Common.{◌≡◌, ℕ, ◌<◌, ◌≤◌, Bool, true, false, cond, [], ◌∷◌, length, refl, arith}
use Rattle.bash_grammar.specs.Bytes.{Text, is_join, clear_from, clear}

fits_at : (b : ℕ) (bs : Text) (t : Bool) → ((taken : Bool) → length (clear_from taken bs) ≤ length bs) → length (cond t (clear_from true bs) (b ∷ bs)) ≤ length (b ∷ bs)
fits_at b bs true h = let k = h true in omega arith
fits_at b bs false h = omega arith

fits : (bs : Text) (taken : Bool) → length (clear_from taken bs) ≤ length bs
fits [] taken = omega arith
fits (b ∷ bs) true = let k = fits bs false in omega arith
fits (b ∷ bs) false = fits_at b bs (is_join b bs) (fits bs)

pub clear_fits : (bs : Text) → length (clear bs) ≤ length bs
unfolding clear
clear_fits bs = fits bs false

less_at : (b : ℕ) (bs : Text) (t : Bool) → t ≡ true → length (cond t (clear_from true bs) (b ∷ bs)) < length (b ∷ bs)
less_at b bs true e = let k = fits bs true in omega arith
less_at b bs false e = absurd cc

pub clear_less : (b : ℕ) (bs : Text) → is_join b bs ≡ true → length (clear (b ∷ bs)) < length (b ∷ bs)
unfolding clear
clear_less b bs e = less_at b bs (is_join b bs) e

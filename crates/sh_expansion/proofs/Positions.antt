-- The number of a positional parameter, as far as there are parameters.
use Rattle.std.proofs.Common.{◌≡◌, ℕ, zero, suc, ◌+◌, ◌*◌, ◌<◌, min, List, [], ◌∷◌, length, drop, get_or, refl, sym, ap, ◌∙◌, arith}
use Rattle.std.specs.Char.{digit_value}
use Rattle.std.specs.Str.Parse.{digits_value_after}
use Rattle.std.proofs.lemmas.List.{drop_more}
use Rattle.shell_world.specs.Texts.{nth}

pub capped : (n most : ℕ) (ds : List ℕ) → min (digits_value_after 10 (min n most) ds) most ≡ min (digits_value_after 10 n ds) most
capped n most [] = omega arith
capped n most (d ∷ ds) =
    let e : min (min n most * 10 + digit_value d) most ≡ min (n * 10 + digit_value d) most = omega arith in
    sym (capped (min n most * 10 + digit_value d) most ds) ∙ ap (λ k. min (digits_value_after 10 k ds) most) e ∙ capped (n * 10 + digit_value d) most ds

pub digits_more : (most number next : ℕ) (ds : List ℕ) (i whole : ℕ) → i < length ds → next ≡ min (number * 10 + digit_value (get_or ds i 0)) most → min (digits_value_after 10 number (drop i ds)) most ≡ whole → min (digits_value_after 10 next (drop (i + 1) ds)) most ≡ whole
digits_more most number next ds i whole lt is inv =
    let one : min (digits_value_after 10 next (drop (i + 1) ds)) most ≡ min (digits_value_after 10 (number * 10 + digit_value (get_or ds i 0)) (drop (i + 1) ds)) most = rw is (capped (number * 10 + digit_value (get_or ds i 0)) most (drop (i + 1) ds)) in
    let two : min (digits_value_after 10 (number * 10 + digit_value (get_or ds i 0)) (drop (i + 1) ds)) most ≡ whole = rw (drop_more ds i 0 lt) at inv in
    one ∙ two

pub nth_within : {X : Type 0} (k : ℕ) (xs : List X) → nth (min k (length xs)) xs ≡ nth k xs
nth_within k [] = refl
nth_within zero (x ∷ xs) =
    let e : min zero (suc (length xs)) ≡ zero = omega arith in
    rw e refl
nth_within (suc k) (x ∷ xs) =
    let e : min (suc k) (suc (length xs)) ≡ suc (min k (length xs)) = omega arith in
    rw e (nth_within k xs)

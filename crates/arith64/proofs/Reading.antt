-- A number that is read digit by digit.
use Rattle.std.proofs.Common.{◌≡◌, ℕ, ◌*◌, ◌+◌, ◌<◌, ◌≤◌, List, [], ◌∷◌, length, Bool, true, false, ◌&&◌, nat_le, Option, Some, None, refl, sym, ap, arith}
use Rattle.std.specs.Prelude.{if◌then◌else◌}
use Rattle.std.proofs.Math.Nat.{le-mul_of_pos_right}
use Rattle.std.proofs.lemmas.Bool.Decides.{nat_tests}
use Rattle.std.specs.Char.{is_digit, digit_value}
use Rattle.std.specs.Str.Parse.{digits_value_after}
use Rattle.std.specs.List.{list_all}
use Rattle.span_text.specs.Constant.{number_of}
use Rattle.arith64.specs.Digits.{number_after}

pub after_ge : (radix n : ℕ) (ds : List ℕ) → 1 ≤ radix → n ≤ digits_value_after radix n ds
after_ge radix n [] le = omega arith
after_ge radix n (d ∷ ds) le = omega (arith, after_ge radix (n * radix + digit_value d) ds le, le-mul_of_pos_right n le)

too_much : (most n m : ℕ) → n ≤ m → nat_le n most ≡ false → nat_le m most ≡ false
too_much most n m le e = grind (arith, nat_tests)

stops : (all : Bool) (n : ℕ) (b : Bool) → b ≡ false → None ≡ (if all && b then Some n else None)
stops true n b e = sym (ap (λ (x : Bool). if x then Some n else None) e)
stops false n b e = refl

fits : (n most : ℕ) → n ≤ most → Some n ≡ (if nat_le n most then Some n else None)
fits n most le = grind (arith, nat_tests)

below : (n most : ℕ) → nat_le n most ≡ true → n ≤ most
below n most e = grind (arith, nat_tests)

abbrev read : ℕ → ℕ → ℕ → List ℕ → Option ℕ
read most radix n ds = if list_all (λ d. is_digit d radix) ds && nat_le (digits_value_after radix n ds) most then Some (digits_value_after radix n ds) else None

-- the digits ds go on from the number m, if it isn't too much
one_more : (most radix m : ℕ) (ds : List ℕ) (b : Bool) → 1 ≤ radix → nat_le m most ≡ b → (m ≤ most → number_after most radix (Some m) ds ≡ read most radix m ds) → number_after most radix (if b then Some m else None) ds ≡ read most radix m ds
one_more most radix m ds true r e more = more (below _ _ e)
one_more most radix m ds false r e more = stops (list_all (λ d. is_digit d radix) ds) _ _ (too_much most _ _ (after_ge radix m ds r) e)

-- the digits go on from n
from_digits : (most radix n : ℕ) (ds : List ℕ) → 1 ≤ radix → n ≤ most → number_after most radix (Some n) ds ≡ read most radix n ds
from_digits most radix n [] r le = fits n most le
from_digits most radix n (d ∷ ds) r le =
    elim (is_digit d radix) as (λ b. number_after most radix (if b && nat_le (n * radix + digit_value d) most then Some (n * radix + digit_value d) else None) ds
    ≡ (if b && list_all (λ d. is_digit d radix) ds && nat_le (digits_value_after radix (n * radix + digit_value d) ds) most then Some (digits_value_after radix (n * radix + digit_value d) ds) else None)) [
      | false ↦ refl
      | true ↦ one_more most radix (n * radix + digit_value d) ds _ r refl (λ le. from_digits most radix (n * radix + digit_value d) ds r le)
    ]

some_digits : (most radix : ℕ) (ds : List ℕ) (r : Option ℕ) → 0 < length ds → r ≡ (if list_all (λ d. is_digit d radix) ds && nat_le (digits_value_after radix 0 ds) most then Some (digits_value_after radix 0 ds) else None) → r ≡ number_of most radix ds
unfolding number_of
some_digits most radix [] r some e = absurd (omega arith)
some_digits most radix (d ∷ ds) r some e = e

pub numbers_are : (most radix : ℕ) (ds : List ℕ) → 0 < length ds → 1 ≤ radix → number_after most radix (Some 0) ds ≡ number_of most radix ds
numbers_are most radix ds some r = some_digits most radix ds _ some (from_digits most radix 0 ds r (omega arith))

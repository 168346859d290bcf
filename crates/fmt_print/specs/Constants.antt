-- Constants of the shell's arithmetic, which `printf` takes as numbers (the manual's "Shell Arithmetic"):
-- a sign or none, then decimal digits without a leading zero, `0` and octal digits, or `0x` and hexadecimal
-- ones, of a number in the range of 64 signed bits.
use Rattle.std.specs.Prelude.{ℕ, ◌+◌, ◌-◌, ◌*◌, ◌^◌, Bool, true, false, ◌&&◌, ◌||◌, ◌==◌, nat_le, nat_lt, if◌then◌else◌, List, [], ◌∷◌, Option, None, Some}
use Rattle.std.specs.Option.{option_and_then}
use Rattle.fmt_print.specs.declared.constants.Number.{Number}

abbrev pub is_digit : ℕ → Bool
is_digit b = nat_le 48 b && nat_le b 57

-- the value of a digit, 16 for what is none
abbrev pub digit_of : ℕ → ℕ
digit_of c =
    if is_digit c then c - 48
    else if nat_le 97 c && nat_le c 102 then c - 87
    else if nat_le 65 c && nat_le c 70 then c - 55
    else 16

-- one more digit of a number of 64 bits
abbrev pub with_digit : ℕ → ℕ → ℕ → Option ℕ
with_digit radix value digit = if nat_lt digit radix && nat_lt (radix * value + digit) (2 ^ 64) then Some (radix * value + digit) else None

abbrev pub number_from : ℕ → ℕ → List ℕ → Option ℕ
number_from radix value [] = Some value
number_from radix value (c ∷ cs) = option_and_then (λ more. number_from radix more cs) (with_digit radix value (digit_of c))

abbrev pub hex_number : List ℕ → Option ℕ
hex_number [] = None
hex_number (c ∷ cs) = number_from 16 0 (c ∷ cs)

-- behind a leading zero
abbrev pub zero_led : List ℕ → Option ℕ
zero_led [] = Some 0
zero_led (c ∷ cs) = if c == 120 || c == 88 then hex_number cs else number_from 8 0 (c ∷ cs)

abbrev pub natural : List ℕ → Option ℕ
natural [] = None
natural (c ∷ cs) = if c == 48 then zero_led cs else number_from 10 0 (c ∷ cs)

-- the greatest size of a number with this sign
abbrev pub greatest : Bool → ℕ
greatest negative = if negative then 2 ^ 63 else 2 ^ 63 - 1

abbrev pub in_range : Bool → ℕ → Option Number
in_range negative size = if nat_le size (greatest negative) then Some (record { negative = negative; size = size }) else None

abbrev pub constant : List ℕ → Option Number
constant [] = None
constant (c ∷ cs) =
    if c == 45 then option_and_then (in_range true) (natural cs)
    else if c == 43 then option_and_then (in_range false) (natural cs)
    else option_and_then (in_range false) (natural (c ∷ cs))

-- Constants of arithmetic (Bash manual, section 6.5), of 64 bits.
use Rattle.std.specs.Prelude.{ℕ, ◌-◌, ◌^◌, Bool, ◌&&◌, ◌||◌, ◌==◌, nat_le, List, [], ◌∷◌, drop, slice_index, Option, Some, None, ℤ, pos, neg_ℤ, if◌then◌else◌}
use Rattle.std.specs.Char.{is_digit}
use Rattle.std.specs.Str.Parse.{digits_value}
use Rattle.std.specs.List.{list_all}

-- 0x or 0X stands first
abbrev pub is_hexadecimal : List ℕ → Bool
is_hexadecimal text = slice_index text 0 == 48 && (slice_index text 1 == 120 || slice_index text 1 == 88)

-- 16 behind 0x or 0X, 8 where a 0 stands first, else 10
abbrev pub radix_of : List ℕ → ℕ
radix_of text = if is_hexadecimal text then 16 else (if slice_index text 0 == 48 then 8 else 10)

abbrev pub digits_of : List ℕ → List ℕ
digits_of text = if is_hexadecimal text then drop 2 text else text

-- the number that one digit or more write in this base, if it is at most so much
unfoldable pub number_of : ℕ → ℕ → List ℕ → Option ℕ
number_of most radix [] = None
number_of most radix (d ∷ ds) = if list_all (λ b. is_digit b radix) (d ∷ ds) && nat_le (digits_value radix (d ∷ ds)) most then Some (digits_value radix (d ∷ ds)) else None

-- the value of a constant without a sign, if it is at most so much
abbrev pub unsigned_constant : ℕ → List ℕ → Option ℕ
unsigned_constant most text = number_of most (radix_of text) (digits_of text)

abbrev pub signed : (ℕ → ℤ) → Option ℕ → Option ℤ
signed f None = None
signed f (Some n) = Some (f n)

abbrev pub minus : ℕ → ℤ
minus n = neg_ℤ (pos n)

-- the value of a constant with or without a sign, if it is from -2^63 to 2^63 - 1
abbrev pub constant_of : List ℕ → Option ℤ
constant_of text = if slice_index text 0 == 45 then signed minus (unsigned_constant (2 ^ 63) (drop 1 text))
    else (if slice_index text 0 == 43 then signed pos (unsigned_constant (2 ^ 63 - 1) (drop 1 text))
    else signed pos (unsigned_constant (2 ^ 63 - 1) text))

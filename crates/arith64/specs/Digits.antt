-- Digits that are read from left to right.
use Rattle.std.specs.Prelude.{ℕ, ◌+◌, ◌*◌, ◌&&◌, nat_le, List, [], ◌∷◌, Option, Some, None, if◌then◌else◌}
use Rattle.std.specs.Char.{digit_value, is_digit}

-- the number n with one digit more, if it is at most so much
abbrev pub with_digit : ℕ → ℕ → ℕ → ℕ → Option ℕ
with_digit most radix n d = if is_digit d radix && nat_le (n * radix + digit_value d) most then Some (n * radix + digit_value d) else None

-- the number before, if there is one, with these digits more
abbrev pub number_after : ℕ → ℕ → Option ℕ → List ℕ → Option ℕ
number_after most radix None ds = None
number_after most radix (Some n) [] = Some n
number_after most radix (Some n) (d ∷ ds) = number_after most radix (with_digit most radix n d) ds

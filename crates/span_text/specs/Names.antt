-- Names, as the standard defines them (XBD 3.235), and the names that a translation keeps for itself.
use Rattle.std.specs.Prelude.{ℕ, Bool, true, false, ◌||◌, ◌&&◌, ◌==◌, nat_le, nat_eq, List, [], ◌∷◌, codes}
use Rattle.std.specs.List.{list_all, starts_with}

abbrev pub is_letter : ℕ → Bool
is_letter b = b == 95 || (nat_le 97 b && nat_le b 122) || (nat_le 65 b && nat_le b 90)

abbrev pub is_digit : ℕ → Bool
is_digit b = nat_le 48 b && nat_le b 57

-- a byte that a name may begin with: a letter or an underscore
unfoldable pub begins_name : ℕ → Bool
begins_name b = is_letter b

-- a byte that a name may go on with
unfoldable pub continues_name : ℕ → Bool
continues_name b = is_letter b || is_digit b

abbrev pub is_name : List ℕ → Bool
is_name [] = false
is_name (b ∷ bs) = begins_name b && list_all continues_name bs

-- the prefix of reserved names, `__bs_`
abbrev pub reserved_prefix : List ℕ
reserved_prefix = codes "__bs_"

abbrev pub is_reserved : List ℕ → Bool
is_reserved text = starts_with nat_eq text reserved_prefix

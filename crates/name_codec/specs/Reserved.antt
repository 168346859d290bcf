-- Reserved names: `__bs_`, a letter for the use, `_`, and the name with its other bytes written in letters.
use Rattle.std.specs.Prelude.{◌≡◌, ℕ, ◌+◌, ◌/◌, ◌%◌, Bool, ◌&&◌, ◌||◌, ◌==◌, if◌then◌else◌, nat_le, List, [], ◌∷◌, ◌++◌, codes}
use Rattle.std.specs.List.{flat_map}
use Rattle.name_codec.specs.declared.names.Role.{Role}
use Rattle.name_codec.specs.declared.names.Role.TheVariants.{Temporary, Helper, HelperVariable, Array, Depth, SaveStack, Marks}

-- the letter of a use
abbrev pub role_letter : Role → ℕ
role_letter Temporary = 116
role_letter Helper = 104
role_letter HelperVariable = 118
role_letter Array = 97
role_letter Depth = 100
role_letter SaveStack = 115
role_letter Marks = 109

-- a letter or a digit
abbrev pub is_plain : ℕ → Bool
is_plain b = (nat_le 65 b && nat_le b 90) || (nat_le 97 b && nat_le b 122) || (nat_le 48 b && nat_le b 57)

-- a letter or a digit is itself, `_` is `__`, and any other byte is `_` and two letters of a to p, for its
-- upper and its lower four bits
abbrev pub spelled_byte : ℕ → List ℕ
spelled_byte b = if is_plain b then b ∷ [] else if b == 95 then codes "__" else 95 ∷ (97 + b / 16) ∷ (97 + b % 16) ∷ []

abbrev pub reserved_name : Role → List ℕ → List ℕ
reserved_name role name = codes "__bs_" ++ (role_letter role ∷ 95 ∷ flat_map spelled_byte name)

-- two uses of a name, or two names of a use, have two reserved names
abbrev pub ReservedApart : Type 0
ReservedApart = (role other : Role) (name text : List ℕ) → reserved_name role name ≡ reserved_name other text → (role ≡ other) × (name ≡ text)

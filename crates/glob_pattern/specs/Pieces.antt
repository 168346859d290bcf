-- Patterns and what they match: the Bash manual's "Pattern Matching", POSIX's "Pattern Matching Notation" (XCU 2.13).
use Rattle.std.specs.Prelude.{ℕ, Bool, true, false, not, ◌||◌, ◌&&◌, ◌==◌, nat_le, List, [], ◌∷◌, ◌++◌}
use Rattle.std.specs.List.{list_any}
use Rattle.std.specs.Char.{is_ascii_alphanumeric, is_ascii_alphabetic, is_ascii_control, is_ascii_digit, is_ascii_graphic, is_ascii_lowercase, is_ascii_punctuation, is_ascii_uppercase, is_ascii_hexdigit}
use Rattle.glob_pattern.specs.declared.class.Class.{Class}
use Rattle.glob_pattern.specs.declared.class.Class.TheVariants.{Alnum, Alpha, Blank, Cntrl, Digit, Graph, Lower, Print, Punct, Space, Upper, Xdigit}
use Rattle.glob_pattern.specs.declared.piece.Member.{Member}
use Rattle.glob_pattern.specs.declared.piece.Member.TheVariants.{One, Range, Named}
use Rattle.glob_pattern.specs.declared.piece.Piece.{Piece}
use Rattle.glob_pattern.specs.declared.piece.Piece.TheVariants.{Byte, Any, Run, Among, Outside}

-- the classes of the C locale
abbrev pub in_class : Class → ℕ → Bool
in_class Alnum b = is_ascii_alphanumeric b
in_class Alpha b = is_ascii_alphabetic b
in_class Blank b = b == 32 || b == 9
in_class Cntrl b = is_ascii_control b
in_class Digit b = is_ascii_digit b
in_class Graph b = is_ascii_graphic b
in_class Lower b = is_ascii_lowercase b
in_class Print b = b == 32 || is_ascii_graphic b
in_class Punct b = is_ascii_punctuation b
in_class Space b = b == 32 || (nat_le 9 b && nat_le b 13)
in_class Upper b = is_ascii_uppercase b
in_class Xdigit b = is_ascii_hexdigit b

-- whether a byte is one of those that a member of a bracket names
abbrev pub in_member : ℕ → Member → Bool
in_member b (One c) = b == c
in_member b (Range first last) = nat_le first b && nat_le b last
in_member b (Named class) = in_class class b

-- whether a piece takes this one byte
abbrev pub takes : Piece → ℕ → Bool
takes (Byte c) b = b == c
takes Any b = true
takes Run b = true
takes (Among members) b = list_any (in_member b) members
takes (Outside members) b = not (list_any (in_member b) members)

abbrev pub is_run : Piece → Bool
is_run Run = true
is_run (Byte b) = false
is_run Any = false
is_run (Among members) = false
is_run (Outside members) = false

abbrev pub is_one : (ℕ → Bool) → List ℕ → Bool
is_one test [] = false
is_one test (b ∷ []) = test b
is_one test (b ∷ c ∷ bs) = false

-- whether a part of a text fits a piece: a run is any part, each other piece one byte
abbrev pub fits : Piece → List ℕ → Bool
fits piece part = is_run piece || is_one (takes piece) part

-- whether some cut of a text in two passes; front is what stands before the place
abbrev pub some_cut : (List ℕ → List ℕ → Bool) → List ℕ → List ℕ → Bool
some_cut test front [] = test front []
some_cut test front (b ∷ bs) = test front (b ∷ bs) || some_cut test (front ++ b ∷ []) bs

abbrev pub is_nothing : List ℕ → Bool
is_nothing [] = true
is_nothing (b ∷ bs) = false

-- Whether a text can be cut into as many parts as there are pieces, each fitting its piece.
unfoldable pub matches : List Piece → List ℕ → Bool
matches [] text = is_nothing text
matches (piece ∷ pieces) text = some_cut (λ part rest. fits piece part && matches pieces rest) [] text

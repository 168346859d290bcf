-- Pieces of a pattern, and its first doubtful place.
use Rattle.std.specs.Prelude.{ℕ, ◌+◌, ◌==◌, if◌then◌else◌, List, [], ◌∷◌, drop, Option, Some, None}
use Rattle.span_text.specs.declared.flagged.Item.{Item}
use Rattle.glob_pattern.specs.declared.sign.Sign.{Sign}
use Rattle.glob_pattern.specs.declared.sign.Use.{Use}
use Rattle.glob_pattern.specs.declared.piece.Piece.{Piece}
use Rattle.glob_pattern.specs.declared.piece.Piece.TheVariants.{Byte, Any, Run, Among, Outside}
use Rattle.glob_pattern.specs.Signs.{signs_from, is_sign}
use Rattle.glob_pattern.specs.Brackets.{parts, mark_len, body_len, body_of, members_of, members_doubt, least_place, place_if, is_backslash}

-- a byte that begins no bracket; a quoted one is itself
abbrev pub plain_piece : List Sign → Piece
plain_piece [] = Any
plain_piece (sign ∷ signs) = if is_sign 42 sign then Run else (if is_sign 63 sign then Any else Byte sign.byte)

abbrev pub piece_by : Option ℕ → List Sign → Piece
piece_by None signs = plain_piece signs
piece_by (Some n) signs = if mark_len (drop 1 signs) == 0 then Among (members_of (body_of n signs)) else Outside (members_of (body_of n signs))

-- the piece that signs begin with: a closed bracket, else one byte
unfoldable pub piece_at : List Sign → Piece
piece_at signs = piece_by (body_len signs) signs

abbrev pub len_by : Option ℕ → List Sign → ℕ
len_by None signs = 1
len_by (Some n) signs = n + mark_len (drop 1 signs) + 2

unfoldable pub piece_len : List Sign → ℕ
piece_len signs = len_by (body_len signs) signs

abbrev pub doubt_by : Use → Option ℕ → List Sign → Option ℕ
doubt_by purpose None signs = place_if (is_backslash signs) signs
doubt_by purpose (Some n) signs = members_doubt purpose (body_of n signs)

unfoldable pub piece_doubt : Use → List Sign → Option ℕ
piece_doubt purpose signs = doubt_by purpose (body_len signs) signs

-- the pieces of a pattern
unfoldable pub pieces_of : List Item → List Piece
pieces_of items = parts piece_len piece_at 0 (signs_from 0 items)

-- Its least doubtful place, an index of an item: that of a backslash from an expansion, of the `[` of a class of no
-- known name, of `[.` or of `[=` in a bracket, of the first item of a range that has a class or ends below its start,
-- and, where names of files are matched, of a `/` in a bracket.
unfoldable pub doubt_of : Use → List Item → Option ℕ
doubt_of purpose items = least_place (parts piece_len (piece_doubt purpose) 0 (signs_from 0 items))

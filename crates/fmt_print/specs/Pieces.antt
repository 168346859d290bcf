-- The format of `printf` (POSIX, "printf", "Extended Description").
use Rattle.std.specs.Prelude.{ℕ, ◌+◌, ◌-◌, ◌*◌, Bool, true, false, not, ◌&&◌, ◌||◌, ◌==◌, nat_le, if◌then◌else◌, List, [], ◌∷◌, length, Option, None, Some}
use Rattle.std.specs.Option.{option_map, option_and_then}
use Rattle.fmt_print.specs.Fronts.{fold_items}
use Rattle.fmt_print.specs.Constants.{is_digit}
use Rattle.fmt_print.specs.Escapes.{is_octal, octal_byte, letter_escape}
use Rattle.fmt_print.specs.declared.pieces.Flags.{Flags}
use Rattle.fmt_print.specs.declared.pieces.Kind.{Kind}
use Rattle.fmt_print.specs.declared.pieces.Kind.TheVariants.{Decimal, Unsigned, Octal, LowerHex, UpperHex, Bytes}
use Rattle.fmt_print.specs.declared.pieces.Piece.{Piece}
use Rattle.fmt_print.specs.declared.pieces.Piece.TheVariants.{Byte, Field, Escapes}

-- `-`, `0`, `+` and space
abbrev pub is_flag : ℕ → Bool
is_flag b = b == 45 || b == 48 || b == 43 || b == 32

abbrev pub no_flags : Flags
no_flags = record { left = false; zero = false; plus = false; space = false }

abbrev pub with_flag : Flags → ℕ → Flags
with_flag flags b =
    if b == 45 then record flags { left = true }
    else if b == 48 then record flags { zero = true }
    else if b == 43 then record flags { plus = true }
    else record flags { space = true }

abbrev pub flags_from : Flags → List ℕ → Flags × List ℕ
flags_from flags [] = (flags, [])
flags_from flags (b ∷ bs) = if is_flag b then flags_from (with_flag flags b) bs else (flags, b ∷ bs)

-- decimal digits, or none, of a number of 9999 at most
abbrev pub size_from : ℕ → List ℕ → Option (ℕ × List ℕ)
size_from value [] = Some (value, [])
size_from value (b ∷ bs) =
    if is_digit b then (if nat_le (10 * value + (b - 48)) 9999 then size_from (10 * value + (b - 48)) bs else None)
    else Some (value, b ∷ bs)

-- a dot and a number, or neither
abbrev pub precision_at : List ℕ → Option (Option ℕ × List ℕ)
precision_at [] = Some (None, [])
precision_at (b ∷ bs) = if b == 46 then option_map (λ front. (Some front.0, front.1)) (size_from 0 bs) else Some (None, b ∷ bs)

abbrev pub kind_of : ℕ → Option Kind
kind_of c =
    if c == 100 || c == 105 then Some Decimal
    else if c == 117 then Some Unsigned
    else if c == 111 then Some Octal
    else if c == 120 then Some LowerHex
    else if c == 88 then Some UpperHex
    else if c == 115 then Some Bytes
    else None

-- `0` is for numbers, `+` and space for signed ones
abbrev pub takes : Kind → Flags → Bool
takes Decimal flags = true
takes Bytes flags = not flags.zero && not flags.plus && not flags.space
takes Unsigned flags = not flags.plus && not flags.space
takes Octal flags = not flags.plus && not flags.space
takes LowerHex flags = not flags.plus && not flags.space
takes UpperHex flags = not flags.plus && not flags.space

abbrev pub field_of : Flags → ℕ → Option ℕ → List ℕ → Kind → Option (Piece × List ℕ)
field_of flags width precision rest kind =
    if takes kind flags then Some (Field (record { flags = flags; width = width; precision = precision; kind = kind }), rest) else None

abbrev pub letter_at : Flags → ℕ → Option ℕ → List ℕ → Option (Piece × List ℕ)
letter_at flags width precision [] = None
letter_at flags width precision (c ∷ bs) = option_and_then (field_of flags width precision bs) (kind_of c)

abbrev pub behind_width : Flags → ℕ → List ℕ → Option (Piece × List ℕ)
behind_width flags width text = option_and_then (λ front. letter_at flags width front.0 front.1) (precision_at text)

abbrev pub behind_flags : Flags → List ℕ → Option (Piece × List ℕ)
behind_flags flags text = option_and_then (λ front. behind_width flags front.0 front.1) (size_from 0 text)

-- flags, a width, a precision and a letter
abbrev pub conversion_at : List ℕ → Option (Piece × List ℕ)
conversion_at text = let front = flags_from no_flags text in behind_flags front.0 front.1

-- behind the `%`
abbrev pub percent_at : List ℕ → Option (Piece × List ℕ)
percent_at [] = None
percent_at (c ∷ bs) =
    if c == 37 then Some (Byte 37, bs)
    else if c == 98 then Some (Escapes, bs)
    else conversion_at (c ∷ bs)

-- behind the backslash: one to three octal digits, or a letter
abbrev pub escape_at : List ℕ → Option (Piece × List ℕ)
escape_at [] = None
escape_at (c ∷ bs) =
    if is_octal c then option_map (λ front. (Byte front.0, front.1)) (octal_byte (c ∷ bs))
    else option_map (λ b. (Byte b, bs)) (letter_escape c)

abbrev pub piece_at : List ℕ → Option (Piece × List ℕ)
piece_at [] = None
piece_at (b ∷ bs) = if b == 92 then escape_at bs else if b == 37 then percent_at bs else Some (Byte b, bs)

abbrev pub with_piece : Piece → List Piece × List ℕ → List Piece × List ℕ
with_piece piece later = (piece ∷ later.0, later.1)

-- the pieces of a text, and what stands where no piece reads
unfoldable pub pieces : List ℕ → List Piece × List ℕ
pieces text = fold_items piece_at (λ rest. ([], rest)) with_piece (length text) text

abbrev pub begins_dash : List ℕ → Bool
begins_dash [] = false
begins_dash (b ∷ bs) = b == 45

-- it is made of pieces, and doesn't begin with `-`
abbrev pub is_format : List ℕ → Bool
is_format text = not (begins_dash text) && length (pieces text).1 == 0

-- What a conversion prints of its argument (POSIX, "File Format Notation", and C's `fprintf`).
use Rattle.std.specs.Prelude.{ℕ, ◌-◌, ◌^◌, ◌%◌, Bool, true, false, not, ◌&&◌, ◌==◌, nat_lt, if◌then◌else◌, List, [], ◌∷◌, ◌++◌, length, take, replicate, decimal, Option, None, Some, is_none}
use Rattle.std.specs.Fmt.{digits}
use Rattle.fmt_print.specs.declared.constants.Number.{Number}
use Rattle.fmt_print.specs.declared.pieces.Flags.{Flags}
use Rattle.fmt_print.specs.declared.pieces.Kind.{Kind}
use Rattle.fmt_print.specs.declared.pieces.Kind.TheVariants.{Decimal, Unsigned, Octal, LowerHex, UpperHex, Bytes}
use Rattle.fmt_print.specs.declared.pieces.Conversion.{Conversion}

-- the number modulo 2 ^ 64
abbrev pub wrapped : Number → ℕ
wrapped number = if number.negative then (2 ^ 64 - number.size) % 2 ^ 64 else number.size

abbrev pub figures : Kind → Number → List ℕ
figures Decimal number = decimal number.size
figures Unsigned number = decimal (wrapped number)
figures Octal number = digits 8 false (wrapped number)
figures LowerHex number = digits 16 false (wrapped number)
figures UpperHex number = digits 16 true (wrapped number)
figures Bytes number = []

-- `+` wins over space
abbrev pub plus_sign : Flags → List ℕ
plus_sign flags = if flags.plus then 43 ∷ [] else if flags.space then 32 ∷ [] else []

abbrev pub sign_of : Kind → Flags → Number → List ℕ
sign_of Decimal flags number = if number.negative && nat_lt 0 number.size then 45 ∷ [] else plus_sign flags
sign_of Unsigned flags number = []
sign_of Octal flags number = []
sign_of LowerHex flags number = []
sign_of UpperHex flags number = []
sign_of Bytes flags number = []

-- a precision is the least number of digits; with precision 0 the number 0 has none
abbrev pub with_zeros : Option ℕ → ℕ → List ℕ → List ℕ
with_zeros None size figures = figures
with_zeros (Some precision) size figures =
    if precision == 0 && size == 0 then [] else replicate (precision - length figures) 48 ++ figures

-- the rest of the width is filled: behind the text, by zeros behind the sign, or before the sign
abbrev pub placed : Bool → Bool → List ℕ → List ℕ → List ℕ → List ℕ
placed left zeros fill sign body =
    if left then sign ++ (body ++ fill)
    else if zeros then sign ++ (fill ++ body)
    else fill ++ (sign ++ body)

abbrev pub filled : Bool → Bool → ℕ → List ℕ → List ℕ → List ℕ
filled left zeros width sign body = placed left zeros (replicate (width - length sign - length body) (if zeros then 48 else 32)) sign body

-- `-` and a precision win over `0`
abbrev pub fills_zeros : Conversion → Bool
fills_zeros conversion = conversion.flags.zero && not conversion.flags.left && is_none conversion.precision

abbrev pub number_text : Conversion → Number → List ℕ
number_text conversion number =
    filled conversion.flags.left (fills_zeros conversion) conversion.width (sign_of conversion.kind conversion.flags number) (with_zeros conversion.precision number.size (figures conversion.kind number))

-- a precision is the greatest number of bytes
abbrev pub shortened : Option ℕ → List ℕ → List ℕ
shortened None text = text
shortened (Some precision) text = take precision text

abbrev pub bytes_text : Conversion → List ℕ → List ℕ
bytes_text conversion text = filled conversion.flags.left false conversion.width [] (shortened conversion.precision text)

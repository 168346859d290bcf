-- Escapes of bytes (POSIX, "printf", table "Escape Sequences", and "echo").
use Rattle.std.specs.Prelude.{ℕ, ◌+◌, ◌-◌, ◌*◌, Bool, true, false, ◌&&◌, ◌||◌, ◌==◌, nat_le, nat_lt, if◌then◌else◌, List, [], ◌∷◌, length, Option, None, Some}
use Rattle.std.specs.Option.{option_map, option_map_or}
use Rattle.fmt_print.specs.Fronts.{fold_items}
use Rattle.fmt_print.specs.declared.Printed.{Printed}
use Rattle.fmt_print.specs.Constants.{digit_of}
use Rattle.fmt_print.specs.declared.escapes.Dialect.{Dialect}
use Rattle.fmt_print.specs.declared.escapes.Dialect.TheVariants.{Printf, Echo}
use Rattle.fmt_print.specs.declared.escapes.Unit.{Unit as Item}
use Rattle.fmt_print.specs.declared.escapes.Unit.TheVariants.{Byte, Cut}

abbrev pub is_octal : ℕ → Bool
is_octal b = nat_le 48 b && nat_le b 55

-- one more octal digit, where one stands there
abbrev pub more_octal : ℕ → List ℕ → ℕ × List ℕ
more_octal value [] = (value, [])
more_octal value (b ∷ bs) = if is_octal b then (8 * value + (b - 48), bs) else (value, b ∷ bs)

-- the byte of up to three octal digits, which is 377 at most
abbrev pub octal_byte : List ℕ → Option (ℕ × List ℕ)
octal_byte text =
    let one = more_octal 0 text in
    let two = more_octal one.0 one.1 in
    let three = more_octal two.0 two.1 in
    if nat_le three.0 255 then Some three else None

-- `\\ \a \b \f \n \r \t \v`
abbrev pub letter_escape : ℕ → Option ℕ
letter_escape c =
    if c == 92 then Some 92
    else if c == 97 then Some 7
    else if c == 98 then Some 8
    else if c == 102 then Some 12
    else if c == 110 then Some 10
    else if c == 114 then Some 13
    else if c == 116 then Some 9
    else if c == 118 then Some 11
    else None

abbrev pub byte_unit : ℕ × List ℕ → Item × List ℕ
byte_unit front = (Byte front.0, front.1)

-- what stands behind the backslash in an argument of `%b`: a letter, `0` and up to three octal digits, or `c`
abbrev pub argument_escape : List ℕ → Option (Item × List ℕ)
argument_escape [] = None
argument_escape (c ∷ bs) =
    if c == 48 then option_map byte_unit (octal_byte bs)
    else if c == 99 then Some (Cut, bs)
    else option_map (λ b. (Byte b, bs)) (letter_escape c)

-- one more hexadecimal digit, where one stands there
abbrev pub more_hex : ℕ → List ℕ → ℕ × List ℕ
more_hex value [] = (value, [])
more_hex value (c ∷ cs) = if nat_lt (digit_of c) 16 then (16 * value + digit_of c, cs) else (value, c ∷ cs)

-- one or two hexadecimal digits
abbrev pub hex_unit : List ℕ → Option (Item × List ℕ)
hex_unit [] = None
hex_unit (c ∷ cs) =
    if nat_lt (digit_of c) 16 then (let one = more_hex 0 (c ∷ cs) in Some (byte_unit (more_hex one.0 one.1))) else None

-- `\u \U` and `\1` to `\7` have meanings of their own in Bash
abbrev pub is_refused : ℕ → Bool
is_refused c = c == 117 || c == 85 || (nat_le 49 c && nat_le c 55)

-- another backslash stays, and so does what follows it
abbrev pub escape_or_stay : ℕ → List ℕ → Item × List ℕ
escape_or_stay c bs = option_map_or (λ b. (Byte b, bs)) (letter_escape c) (Byte 92, c ∷ bs)

abbrev pub escape_or_stay_at : List ℕ → Option (Item × List ℕ)
escape_or_stay_at [] = Some (Byte 92, [])
escape_or_stay_at (c ∷ bs) = Some (escape_or_stay c bs)

-- what stands behind the backslash in a word of `echo -e`: besides the letters of `%b` `e` and `E`, and `x`
abbrev pub echo_escape : List ℕ → Option (Item × List ℕ)
echo_escape [] = Some (Byte 92, [])
echo_escape (c ∷ bs) =
    if c == 48 then option_map byte_unit (octal_byte bs)
    else if c == 99 then Some (Cut, bs)
    else if c == 101 || c == 69 then Some (Byte 27, bs)
    else if c == 120 then hex_unit bs
    else if is_refused c then None
    else Some (escape_or_stay c bs)

abbrev pub escape_in : Dialect → List ℕ → Option (Item × List ℕ)
escape_in Printf bs = argument_escape bs
escape_in Echo bs = echo_escape bs

abbrev pub unit_at : Dialect → List ℕ → Option (Item × List ℕ)
unit_at dialect [] = None
unit_at dialect (b ∷ bs) = if b == 92 then escape_in dialect bs else Some (Byte b, bs)

-- the end of an argument, or a place from which nothing reads
abbrev pub ended : List ℕ → Option Printed
ended [] = Some (record { text = []; cut = false })
ended (b ∷ bs) = None

-- nothing behind a cut is looked at
abbrev pub with_unit : Item → Option Printed → Option Printed
with_unit Cut later = Some (record { text = []; cut = true })
with_unit (Byte b) None = None
with_unit (Byte b) (Some later) = Some (record { text = b ∷ later.text; cut = later.cut })

-- what `%b` prints of an argument, or `echo -e` of a word
unfoldable pub expanded : Dialect → List ℕ → Option Printed
expanded dialect text = fold_items (unit_at dialect) ended with_unit (length text) text

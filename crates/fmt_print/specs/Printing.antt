-- What `printf` prints (POSIX, "printf"; the manual's "Bash Builtin Commands").
use Rattle.std.specs.Prelude.{◌≡◌, ◌≢◌, ◌≤◌, ℕ, zero, suc, ◌+◌, ◌-◌, Bool, true, false, ◌==◌, if◌then◌else◌, List, [], ◌∷◌, ◌++◌, length, drop, max, Option, None, Some, Result, Ok, Err, MatchResult, count_by}
use Rattle.std.specs.Int.{div_ceil}
use Rattle.std.specs.Option.{option_map}
use Rattle.fmt_print.specs.Escapes.{expanded}
use Rattle.fmt_print.specs.Pieces.{begins_dash, pieces}
use Rattle.fmt_print.specs.Constants.{constant}
use Rattle.fmt_print.specs.Fields.{number_text, bytes_text}
use Rattle.fmt_print.specs.declared.Printed.{Printed}
use Rattle.fmt_print.specs.declared.escapes.Dialect.TheVariants.{Printf}
use Rattle.fmt_print.specs.declared.printing.Pass.{Pass}
use Rattle.fmt_print.specs.declared.fault.FmtFault.{FmtFault}
use Rattle.fmt_print.specs.declared.fault.FmtFault.TheVariants.{BadFormat, BadNumber, BadEscape, Memory}
use Rattle.fmt_print.specs.declared.pieces.Kind.{Kind}
use Rattle.fmt_print.specs.declared.pieces.Kind.TheVariants.{Decimal, Unsigned, Octal, LowerHex, UpperHex, Bytes}
use Rattle.fmt_print.specs.declared.pieces.Conversion.{Conversion}
use Rattle.fmt_print.specs.declared.pieces.Piece.{Piece}
use Rattle.fmt_print.specs.declared.pieces.Piece.TheVariants.{Byte, Field, Escapes}

abbrev pub whole : List ℕ → Printed
whole text = record { text = text; cut = false }

abbrev pub is_bytes : Kind → Bool
is_bytes Bytes = true
is_bytes Decimal = false
is_bytes Unsigned = false
is_bytes Octal = false
is_bytes LowerHex = false
is_bytes UpperHex = false

-- what a conversion prints of an argument, where it takes it
abbrev pub field_shows : Conversion → List ℕ → Option Printed
field_shows conversion argument =
    if is_bytes conversion.kind then Some (whole (bytes_text conversion argument))
    else option_map (λ number. whole (number_text conversion number)) (constant argument)

abbrev pub shows : Piece → List ℕ → Option Printed
shows (Byte b) argument = Some (whole (b ∷ []))
shows (Field conversion) argument = field_shows conversion argument
shows Escapes argument = expanded Printf argument

-- a missing argument is empty, and 0 where a number is wanted
abbrev pub missing : Piece → List ℕ
missing (Byte b) = []
missing (Field conversion) = if is_bytes conversion.kind then [] else 48 ∷ []
missing Escapes = []

abbrev pub fault_of : Piece → ℕ → FmtFault
fault_of (Byte b) k = BadNumber k
fault_of (Field conversion) k = BadNumber k
fault_of Escapes k = BadEscape k

abbrev pub takes_argument : Piece → Bool
takes_argument (Byte b) = false
takes_argument (Field conversion) = true
takes_argument Escapes = true

abbrev pub with_front : List ℕ → Result Printed FmtFault → Result Printed FmtFault
with_front text (Ok printed) = Ok (record { text = text ++ printed.text; cut = printed.cut })
with_front text (Err fault) = Err fault

-- a cut ends all output, and an argument that isn't taken ends in its fault
abbrev pub next : FmtFault → Option Printed → Result Printed FmtFault → Result Printed FmtFault
next fault None later = Err fault
next fault (Some shown) later = if shown.cut then Ok shown else with_front shown.text later

-- what pieces print, each conversion of the next argument; k arguments have been used before
abbrev pub prints : List Piece → ℕ → List (List ℕ) → Result Printed FmtFault
prints [] k arguments = Ok (whole [])
prints (piece ∷ pieces) k [] = next (fault_of piece k) (shows piece (missing piece)) (prints pieces k [])
prints (piece ∷ pieces) k (argument ∷ arguments) =
    if takes_argument piece then next (fault_of piece k) (shows piece argument) (prints pieces (k + 1) arguments)
    else next (fault_of piece k) (shows piece (missing piece)) (prints pieces k (argument ∷ arguments))

-- as often as there are arguments left, and once at least; once where nothing takes an argument
abbrev pub passes : ℕ → ℕ → ℕ
passes takers arguments = if takers == 0 then 1 else max 1 (div_ceil arguments takers)

abbrev pub repeated : {A : Type 0} → ℕ → List A → List A
repeated zero xs = []
repeated (suc n) xs = xs ++ repeated n xs

abbrev pub prints_all : List Piece → List (List ℕ) → Result Printed FmtFault
prints_all pieces arguments = prints (repeated (passes (count_by takes_argument pieces) (length arguments)) pieces) 0 arguments

-- a bad format is at the first piece that doesn't read, and at 0 where the text begins with `-`
abbrev pub formatted : List ℕ → List (List ℕ) → Result Printed FmtFault
formatted text arguments =
    if begins_dash text then Err (BadFormat 0)
    else if length (pieces text).1 == 0 then prints_all (pieces text).0 arguments
    else Err (BadFormat (length text - length (pieces text).1))

-- this is the answer, or there is no memory left
abbrev pub Answers : Result Printed FmtFault → Result Printed FmtFault → Type 0
Answers result answer = MatchResult result (λ printed. answer ≡ Ok printed) (λ fault. fault ≢ Memory → answer ≡ Err fault)

-- what is printed behind this text, where a pass has come so far
abbrev pub after : List (List ℕ) → List ℕ → Pass → List Piece → Result Printed FmtFault
after arguments text pass later = if pass.cut then Ok (record { text = text; cut = true }) else with_front text (prints later pass.used (drop pass.used arguments))

-- these pieces were printed behind the old text
abbrev pub Prints : List (List ℕ) → List ℕ → ℕ → List Piece → Result Pass FmtFault → List ℕ → Type 0
Prints arguments old used pieces result new =
    MatchResult result (λ pass. (pass.used ≤ length arguments) × ((later : List Piece) → with_front old (prints (pieces ++ later) used (drop used arguments)) ≡ after arguments new pass later))
    (λ fault. fault ≢ Memory → (later : List Piece) → with_front old (prints (pieces ++ later) used (drop used arguments)) ≡ Err fault)

-- the argument of a piece, and how many are used then
abbrev pub Argument : Piece → List (List ℕ) → ℕ → List ℕ → ℕ → Type 0
Argument piece arguments used argument after =
    (later : List Piece) → prints (piece ∷ later) used (drop used arguments) ≡ next (fault_of piece used) (shows piece argument) (prints later after (drop after arguments))

-- Which bytes may follow those of a format that were seen so far.
use Rattle.std.specs.Prelude.{ℕ, Bool, false, ◌==◌, nat_le, if◌then◌else◌, List, length, Option, None, Some}
use Rattle.std.specs.Option.{option_and_then}
use Rattle.fmt_print.specs.Escapes.{more_octal}
use Rattle.fmt_print.specs.Pieces.{flags_from, size_from, letter_at, behind_width, behind_flags, percent_at, escape_at, pieces, is_format}
use Rattle.fmt_print.specs.declared.pieces.Flags.{Flags}
use Rattle.fmt_print.specs.declared.check.FormatCheck.{FormatCheck}
use Rattle.fmt_print.specs.declared.check.State.{State}
use Rattle.fmt_print.specs.declared.check.State.TheVariants.{Start, Plain, Escape, Octal, OctalTwo, Percent, Flagged, Wide, Precise, Refused}

-- all of the text is read as pieces
abbrev pub reads_whole : List ℕ → Bool
reads_whole text = length (pieces text).1 == 0

-- an item is read, and all that stands behind it
abbrev pub goes_on : {X : Type 0} → Option (X × List ℕ) → Bool
goes_on None = false
goes_on (Some front) = reads_whole front.1

-- an octal escape ends
abbrev pub octal_ends : ℕ × List ℕ → Bool
octal_ends front = if nat_le front.0 255 then reads_whole front.1 else false

-- an octal escape goes on with up to two digits
abbrev pub octal_goes_on : ℕ × List ℕ → Bool
octal_goes_on front = octal_ends (more_octal front.0 front.1)

abbrev pub flags_go_on : Flags × List ℕ → Bool
flags_go_on front = goes_on (behind_flags front.0 front.1)

abbrev pub width_goes_on : Flags → Option (ℕ × List ℕ) → Bool
width_goes_on flags width = goes_on (option_and_then (λ front. behind_width flags front.0 front.1) width)

abbrev pub precision_goes_on : Flags → Option (ℕ × List ℕ) → Bool
precision_goes_on flags precision = goes_on (option_and_then (λ front. letter_at flags 0 (Some front.0) front.1) precision)

abbrev pub accepts_in : State → List ℕ → Bool
accepts_in Start rest = is_format rest
accepts_in Plain rest = reads_whole rest
accepts_in Escape rest = goes_on (escape_at rest)
accepts_in (Octal value) rest = octal_goes_on (more_octal value rest)
accepts_in (OctalTwo value) rest = octal_ends (more_octal value rest)
accepts_in Percent rest = goes_on (percent_at rest)
accepts_in (Flagged flags) rest = flags_go_on (flags_from flags rest)
accepts_in (Wide flags value) rest = width_goes_on flags (size_from value rest)
accepts_in (Precise flags value) rest = precision_goes_on flags (size_from value rest)
accepts_in Refused rest = false

-- the bytes stepped so far and the rest are a format
abbrev pub accepts : FormatCheck → List ℕ → Bool
accepts check rest = accepts_in check.state rest

-- What a word is expanded for, and how a part of it stands there (POSIX XCU 2.6).
use Rattle.span_text.specs.declared.flagged.Mark.{Mark}
use Rattle.span_text.specs.declared.flagged.Mark.TheVariants.{Written, Quoted, Value}

pub data Purpose : Type 0 where
  -- fields: the words of a command, and of `for`
  Fields : Purpose
  -- one text: the value of an assignment, the word of `case`, a pattern, the word of a redirection
  Single : Purpose
  -- one text: the body of a here-document, where all stands as between double quotes (2.7.4)
  Body : Purpose
  -- one text: an expansion in arithmetic (2.6.4)
  Operand : Purpose

pub data Mode : Type 0 where
  -- unquoted; the mark is that of bytes that stand for themselves, which in the word of `${a-w}` are its value
  Bare : Purpose → Mark → Mode
  -- between double quotes
  Double : Purpose → Mode

-- bytes that stand for themselves
abbrev pub plain_mark : Mode → Mark
plain_mark (Bare purpose mark) = mark
plain_mark (Double purpose) = Quoted

-- the bytes of an expansion
abbrev pub value_mark : Mode → Mark
value_mark (Bare purpose mark) = Value
value_mark (Double purpose) = Quoted

-- between the double quotes of `".."`
abbrev pub purpose_in_quotes : Purpose → Purpose
purpose_in_quotes Fields = Fields
purpose_in_quotes Single = Single
purpose_in_quotes Body = Body
purpose_in_quotes Operand = Single

abbrev pub in_quotes : Mode → Mode
in_quotes (Bare purpose mark) = Double (purpose_in_quotes purpose)
in_quotes (Double purpose) = Double (purpose_in_quotes purpose)

-- the word of `${a-w}` and of `${a+w}`
abbrev pub in_fill : Mode → Mode
in_fill (Bare purpose mark) = Bare purpose Value
in_fill (Double purpose) = Double purpose

-- the word of `${a=w}`, which is assigned
abbrev pub single : Purpose → Purpose
single Fields = Single
single Single = Single
single Body = Body
single Operand = Operand

abbrev pub in_assigning : Mode → Mode
in_assigning (Bare purpose mark) = Bare (single purpose) Value
in_assigning (Double purpose) = Double (single purpose)

-- the pattern of `${a%w}`, and one of `case`, has quotes of its own
abbrev pub in_pattern : Mode
in_pattern = Bare Single Written

abbrev pub in_value : Mode
in_value = Bare Single Written

abbrev pub in_operand : Mode
in_operand = Bare Operand Value

abbrev pub in_fields : Mode
in_fields = Bare Fields Written

-- what `"$@"` and its kin give
pub data Listing : Type 0 where
  -- each member is a field, or is split by itself
  Members : Listing
  -- one text, with the first byte of IFS between the members
  Joined : Listing
  Nowhere : Listing

-- `$@`
abbrev pub listing_at : Mode → Listing
listing_at (Bare Fields mark) = Members
listing_at (Double Fields) = Members
listing_at (Bare Single mark) = Nowhere
listing_at (Double Single) = Nowhere
listing_at (Bare Body mark) = Nowhere
listing_at (Double Body) = Nowhere
listing_at (Bare Operand mark) = Nowhere
listing_at (Double Operand) = Nowhere

-- `$*`
abbrev pub listing_star : Mode → Listing
listing_star (Bare Fields mark) = Members
listing_star (Double Fields) = Joined
listing_star (Bare Single mark) = Nowhere
listing_star (Double Single) = Joined
listing_star (Bare Body mark) = Nowhere
listing_star (Double Body) = Nowhere
listing_star (Bare Operand mark) = Nowhere
listing_star (Double Operand) = Nowhere

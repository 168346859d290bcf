-- Names of `read`: the Bash manual's "Bash Builtin Commands", POSIX's "read" (XCU 4). And lists joined to one text.
use Rattle.std.specs.Prelude.{ℕ, zero, suc, ◌+◌, ◌-◌, Bool, true, false, ◌==◌, if◌then◌else◌, nat_le, List, [], ◌∷◌, ◌++◌, length, take, map, replicate, Option, Some, None}
use Rattle.std.specs.List.{filter_map, suffix_len}
use Rattle.span_text.specs.declared.flagged.Mark.TheVariants.{Quoted, Value}
use Rattle.span_text.specs.declared.flagged.Item.{Item}
use Rattle.span_text.specs.declared.flagged.Item.TheVariants.{Byte, Quote}
use Rattle.field_split.specs.declared.sort.Sort.TheVariants.{White}
use Rattle.field_split.specs.Fields.{is_of, after, behind, fields}

abbrev pub byte_of : Item → Option ℕ
byte_of (Byte b mark) = Some b
byte_of Quote = None

-- a text without its marks
unfoldable pub bytes_of : List Item → List ℕ
bytes_of text = filter_map byte_of text

-- A backslash keeps the next byte, joins two lines before a newline, and is dropped at the end. The truth value tells
-- whether one stands just before.
abbrev pub unescaped : Bool → List ℕ → List Item
unescaped escaped [] = []
unescaped false (b ∷ bs) = if b == 92 then unescaped true bs else (Byte b Value ∷ unescaped false bs)
unescaped true (b ∷ bs) = if b == 10 then unescaped false bs else (Byte b Quoted ∷ unescaped false bs)

-- the line as `read` splits it, under `-r` or not
unfoldable pub line_items : Bool → List ℕ → List Item
line_items true line = map (λ b. Byte b Value) line
line_items false line = unescaped false line

-- the text from the field of this number on, from 0
abbrev pub from_field : List ℕ → ℕ → List Item → List Item
from_field ifs zero text = text
from_field ifs (suc k) text = from_field ifs k (behind ifs text)

-- a text without the white space at its end
unfoldable pub without_end : List ℕ → List Item → List Item
without_end ifs text = take (length text - suffix_len (is_of White ifs) text) text

-- What k names and a last one get of the fields of the text that begins at the first: a field each and nothing behind
-- the last field; where there are more fields than names, the last name gets the text from its field to the end.
abbrev pub shared : List ℕ → ℕ → List (List Item) → List Item → List (List ℕ)
shared ifs k all start = if nat_le (length all) (k + 1)
    then map bytes_of all ++ replicate (k + 1 - length all) []
    else map bytes_of (take k all) ++ bytes_of (without_end ifs (from_field ifs k start)) ∷ []

-- what n names get
unfoldable pub texts_of : List ℕ → ℕ → List Item → List (List ℕ)
texts_of ifs n text = shared ifs (n - 1) (fields ifs text) (after White ifs text)

-- what stands between two texts of `"$*"`: the first byte of IFS, a space where IFS is unset
abbrev pub joint : Option (List ℕ) → List ℕ
joint None = 32 ∷ []
joint (Some []) = []
joint (Some (b ∷ bs)) = b ∷ []

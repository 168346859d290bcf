-- What a field of a job is: a good value, or the pointer to its first bad field with the reason.
use Rattle.std.specs.Prelude.{◌≡◌, ◌↔◌, ℕ, ◌+◌, ◌==◌, ◌&&◌, nat_le, Bool, true, if◌then◌else◌, List, [], ◌∷◌, ◌++◌, codes, decimal, Option, Some, None, Result, Ok, Err}
use Rattle.std.specs.List.{flat_map, list_all}
use Rattle.std.specs.Str.{chars}
use Rattle.span_text.specs.KnownNames.{same_text, is_among}
use Rattle.serde_json.specs.Data.{Num, unsigned, negative, float, Data, Items, no_items, item, Members, no_members, member}
use Rattle.serde_json.specs.Find.{get, as_number, as_str, as_array, as_object}
use Rattle.shell_world.specs.Texts.{Text}
use Rattle.world_json.specs.Texts.{characters}
use Rattle.world_json.specs.declared.fault.Reason.{Reason}
use Rattle.world_json.specs.declared.fault.Reason.TheVariants as reason
use Rattle.world_json.specs.declared.fault.JobFault.{JobFault}
use Rattle.world_json.specs.declared.fault.JobFault.TheVariants.{BadWorld, Memory}

pub data Judged (X : Type 0) : Type 0 where
  Good : X → Judged X
  Bad : (pointer : Text) (reason : Reason) → Judged X

-- what a call answers of a field; want of memory says nothing
abbrev pub IsJudged : {X : Type 0} → Judged X → Result X JobFault → Type 0
IsJudged j (Ok x) = j ≡ Good x
IsJudged j (Err (BadWorld pointer r)) = j ≡ Bad pointer r
IsJudged j (Err Memory) = Unit {0}

-- the word for a reason in a message
abbrev pub reason_word : Reason → Text
reason_word reason.Json = codes "json"
reason_word reason.Unknown = codes "unknown"
reason_word reason.Missing = codes "missing"
reason_word reason.WrongType = codes "type"
reason_word reason.NotBytes = codes "not-bytes"
reason_word reason.Range = codes "range"
reason_word reason.Empty = codes "empty"
reason_word reason.TooLong = codes "too-long"
reason_word reason.Name = codes "name"
reason_word reason.Reserved = codes "reserved"
reason_word reason.Special = codes "special"
reason_word reason.Path = codes "path"
reason_word reason.PathClash = codes "path-clash"

-- the field itself is bad
abbrev pub refused : {X : Type 0} → Reason → Judged X
refused r = Bad [] r

-- goes on with a good value
abbrev pub and_then : {X Y : Type 0} → Judged X → (X → Judged Y) → Judged Y
and_then (Good x) f = f x
and_then (Bad pointer r) f = Bad pointer r

-- the value, where it passes a test
abbrev pub tested : {X : Type 0} → Bool → Reason → X → Judged X
tested passes r x = if passes then Good x else refused r

-- a byte of a name in a pointer (RFC 6901, section 3)
abbrev pub escaped_byte : ℕ → Text
escaped_byte b = if b == 126 then codes "~0" else (if b == 47 then codes "~1" else b ∷ [])

-- the pointer's front that leads to a member or an item of this name
abbrev pub step_to : Text → Text
step_to name = 47 ∷ flat_map escaped_byte name

-- the judgement of the member or item of this name, from where it stands
abbrev pub within : {X : Type 0} → Text → Judged X → Judged X
within name (Good x) = Good x
within name (Bad pointer r) = Bad (step_to name ++ pointer) r

-- ---- texts: a character U+0001 to U+00FF stands for the byte of its number, and no other does

abbrev pub stands_for_byte : ℕ → Bool
stands_for_byte c = nat_le 1 c && nat_le c 255

-- the bytes whose characters the text has
abbrev pub bytes_of : Text → Judged Text
bytes_of s = tested (list_all stands_for_byte (chars s) && same_text (characters (chars s)) s) reason.NotBytes (chars s)

-- what is written of bytes is read as them, and nothing else is: the bytes of a good text are from 1 to 255, and the text is their characters
abbrev pub TextsAreCharacters : Type 0
TextsAreCharacters = (s t : Text) → (bytes_of s ≡ Good t) ↔ ((list_all stands_for_byte t ≡ true) × (characters t ≡ s))

abbrev pub bytes_from : Option Text → Judged Text
bytes_from None = refused reason.WrongType
bytes_from (Some s) = bytes_of s

abbrev pub text_of : Data → Judged Text
text_of d = bytes_from (as_str d)

-- ---- numbers: what is kept as no whole number of 64 bits is of the wrong type

abbrev pub number_from : ℕ → ℕ → Option Num → Judged ℕ
number_from low high None = refused reason.WrongType
number_from low high (Some (unsigned n)) = tested (nat_le low n && nat_le n high) reason.Range n
number_from low high (Some (negative z)) = refused reason.Range
number_from low high (Some (float x)) = refused reason.WrongType

abbrev pub number_of : ℕ → ℕ → Data → Judged ℕ
number_of low high d = number_from low high (as_number d)

-- ---- lists, item by item

abbrev pub items_of : {X : Type 0} → (Data → Judged X) → ℕ → Items → Judged (List X)
items_of judge i no_items = Good []
items_of judge i (item d ds) = and_then (within (decimal i) (judge d)) (λ x. and_then (items_of judge (i + 1) ds) (λ xs. Good (x ∷ xs)))

abbrev pub list_from : {X : Type 0} → (Data → Judged X) → Option Items → Judged (List X)
list_from judge None = refused reason.WrongType
list_from judge (Some ds) = items_of judge 0 ds

abbrev pub list_of : {X : Type 0} → (Data → Judged X) → Data → Judged (List X)
list_of judge d = list_from judge (as_array d)

-- the same where one item at least is wanted
abbrev pub some_from : {X : Type 0} → (Data → Judged X) → Option Items → Judged (List X)
some_from judge None = refused reason.WrongType
some_from judge (Some no_items) = refused reason.Empty
some_from judge (Some (item d ds)) = items_of judge 0 (item d ds)

abbrev pub some_of : {X : Type 0} → (Data → Judged X) → Data → Judged (List X)
some_of judge d = some_from judge (as_array d)

-- ---- objects, whose members stand in the order of their bytes

-- the first member that isn't among these
abbrev pub first_unknown : List Text → Members → Option Text
first_unknown names no_members = None
first_unknown names (member k d ms) = if is_among names k then first_unknown names ms else Some k

abbrev pub none_unknown : Option Text → Judged (Unit {0})
none_unknown None = Good tt
none_unknown (Some k) = within k (refused reason.Unknown)

abbrev pub only_from : List Text → Option Members → Judged (Unit {0})
only_from names None = refused reason.WrongType
only_from names (Some ms) = none_unknown (first_unknown names ms)

-- an object with these members alone
abbrev pub only : List Text → Data → Judged (Unit {0})
only names d = only_from names (as_object d)

abbrev pub wanted_from : {X : Type 0} → (Data → Judged X) → Option Data → Judged X
wanted_from judge None = refused reason.Missing
wanted_from judge (Some d) = judge d

-- the member of this name, which has to be there
abbrev pub wanted : {X : Type 0} → (Data → Judged X) → Text → Data → Judged X
wanted judge name d = within name (wanted_from judge (get name d))

abbrev pub member_from : {X : Type 0} → X → (Data → Judged X) → Option Data → Judged X
member_from missing judge None = Good missing
member_from missing judge (Some d) = judge d

-- the member of this name, or what counts where it is missing
abbrev pub member_or : {X : Type 0} → X → (Data → Judged X) → Text → Data → Judged X
member_or missing judge name d = within name (member_from missing judge (get name d))

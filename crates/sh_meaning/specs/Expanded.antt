-- A word while it is expanded, part by part (POSIX XCU 2.6).
use Rattle.std.specs.Prelude.{Bool, true, false, ◌&&◌, if◌then◌else◌, List, [], ◌∷◌, ◌++◌, map}
use Rattle.std.specs.List.{flat_map, join_by}
use Rattle.span_text.specs.declared.flagged.Mark.{Mark}
use Rattle.span_text.specs.declared.flagged.Mark.TheVariants.{Quoted, Value}
use Rattle.span_text.specs.declared.flagged.Item.{Item}
use Rattle.span_text.specs.declared.flagged.Item.TheVariants.{Byte, Quote}
use Rattle.field_split.specs.Fields.{fields, separators}
use Rattle.field_split.specs.Reading.{bytes_of, joint}
use Rattle.shell_world.specs.Texts.{Text}
use Rattle.std.specs.Prelude.{Option}
use Rattle.sh_meaning.specs.Modes.{Mode, Bare, Double, plain_mark, value_mark}

pub record Expanded : Type 0 where
  -- the texts that a list ended: each is split by itself
  pub before : List (List Item)
  pub now : List Item
  -- a quoted list without members stands in the word
  pub missing : Bool
  -- another part than such a list does
  pub other : Bool
  -- a command substitution ran in the command
  pub ran : Bool

-- at the start of a word
abbrev pub nothing : Bool → Expanded
nothing ran = record { before = []; now = []; missing = false; other = false; ran = ran }

abbrev pub marked : Mark → Text → List Item
marked mark text = map (λ b. Byte b mark) text

-- an empty quoted part keeps its field
abbrev pub quoted_items : Text → List Item
quoted_items [] = Quote ∷ []
quoted_items (b ∷ bs) = marked Quoted (b ∷ bs)

abbrev pub with_items : List Item → Expanded → Expanded
with_items items e = record e { now = e.now ++ items; other = true }

-- bytes that stand for themselves
abbrev pub with_plain : Mode → Text → Expanded → Expanded
with_plain mode text e = with_items (marked (plain_mark mode) text) e

-- `'..'` and `\b`
abbrev pub with_exact : Text → Expanded → Expanded
with_exact text e = with_items (quoted_items text) e

-- what an expansion gives
abbrev pub with_value : Mode → Text → Expanded → Expanded
with_value mode text e = with_items (marked (value_mark mode) text) e

-- what a tilde gives is neither split nor a pattern (2.6.1)
abbrev pub with_home : Text → Expanded → Expanded
with_home text e = with_items (marked Quoted text) e

abbrev pub with_ran : Bool → Expanded → Expanded
with_ran ran e = record e { ran = ran }

-- Behind the closing quote. The field of `".."` is there without a byte too, but where all that it holds is a list without members.
abbrev pub with_quote : Expanded → Expanded
with_quote e = if e.missing then e else record e { now = e.now ++ Quote ∷ [] }

-- ---- lists (2.5.2)

abbrev pub member_items : Mode → Text → List Item
member_items (Bare purpose mark) text = marked Value text
member_items (Double purpose) text = quoted_items text

-- each member behind the first begins a text
abbrev pub with_more : Mode → List Text → Expanded → Expanded
with_more mode [] e = e
with_more mode (text ∷ more) e = with_more mode more (record e { before = e.before ++ e.now ∷ []; now = member_items mode text })

-- no member: only a quoted list without members is told from nothing
abbrev pub without_members : Mode → Expanded → Expanded
without_members (Bare purpose mark) e = record e { other = true }
without_members (Double purpose) e = record e { missing = true }

-- what stands before is joined to the first member, and what follows to the last
abbrev pub with_members : Mode → List Text → Expanded → Expanded
with_members mode [] e = without_members mode e
with_members mode (text ∷ more) e = with_more mode more (record e { now = e.now ++ member_items mode text; other = true })

-- with the first byte of IFS between the members
abbrev pub joined_members : Option Text → List Text → Text
joined_members ifs texts = join_by (λ t. t) (joint ifs) texts

-- ---- at the end of a word

abbrev pub is_empty : Text → Bool
is_empty [] = true
is_empty (b ∷ bs) = false

-- a quoted list without members stands beside other parts that are all empty
abbrev pub is_unclear : Expanded → Bool
is_unclear e = e.missing && e.other && is_empty (bytes_of e.now)

-- its fields (2.6.5); an unset IFS is None
abbrev pub fields_of : Option Text → Expanded → List (List Item)
fields_of ifs e = flat_map (fields (separators ifs)) (e.before ++ e.now ∷ [])

-- its one text
abbrev pub text_of : Expanded → Text
text_of e = bytes_of e.now

-- Which text spells which Bash script, for lines that are blank, a comment, an assignment, or words (Bash manual, sections 3.1 and 3.4).
use Rattle.std.specs.Prelude.{◌≡◌, ℕ, ◌+◌, Bool, true, false, List, [], ◌∷◌, ◌++◌, length, ◌⊎◌}
use Rattle.std.specs.List.{slice_split}
use Rattle.span_text.specs.Names.{begins_name, continues_name}
use Rattle.span_text.specs.Scanning.{starts, Each, Run, is_newline, is_blank, is_plain_byte, is_exact_byte, is_quoted_byte, is_comment_byte, ends_word}
use Rattle.bash_tree.specs.Shape.{Part, plain, exact, double, param, Parts, no_part, part, Words, no_word, word, Value, no_value, value, no_assign, assign, Command, simple, Script, no_item, item, background_item, alone}
use Rattle.bash2sh.specs.Form.{command_form}

-- ---- words (3.1.2): each relation says that from these bytes on the text spells the node, up to the rest

-- inside double quotes
abbrev pub QuotedPartAt : Part → List ℕ → List ℕ → Type 0
QuotedPartAt (plain text) bytes rest = (starts is_quoted_byte bytes ≡ true) × Run is_quoted_byte text bytes rest
QuotedPartAt (param name) bytes rest = (inner : List ℕ) × (bytes ≡ 36 ∷ inner) × (starts begins_name inner ≡ true) × Run continues_name name inner rest
QuotedPartAt (exact text) bytes rest = ⊥
QuotedPartAt (double ps) bytes rest = ⊥

abbrev pub QuotedPartsAt : Parts → List ℕ → List ℕ → Type 0
QuotedPartsAt no_part bytes rest = bytes ≡ rest
QuotedPartsAt (part p ps) bytes rest = (after : List ℕ) × QuotedPartAt p bytes after × QuotedPartsAt ps after rest

abbrev pub PartAt : Part → List ℕ → List ℕ → Type 0
PartAt (plain text) bytes rest = (starts is_plain_byte bytes ≡ true) × Run is_plain_byte text bytes rest
PartAt (exact text) bytes rest = (inner : List ℕ) × (bytes ≡ 39 ∷ inner) × Run is_exact_byte text inner (39 ∷ rest)
PartAt (double ps) bytes rest = (inner : List ℕ) × (bytes ≡ 34 ∷ inner) × QuotedPartsAt ps inner (34 ∷ rest)
PartAt (param name) bytes rest = ⊥

-- the parts of a word up to its end
abbrev pub PartsAt : Parts → List ℕ → List ℕ → Type 0
PartsAt no_part bytes rest = (bytes ≡ rest) × (ends_word rest ≡ true)
PartsAt (part p ps) bytes rest = (after : List ℕ) × PartAt p bytes after × PartsAt ps after rest

-- a word, which has a part at least
abbrev pub WordAt : Parts → List ℕ → List ℕ → Type 0
WordAt w bytes rest = (ends_word bytes ≡ false) × PartsAt w bytes rest

-- words with blanks before each, and blanks up to the end of the line
abbrev pub WordsAt : Words → List ℕ → Type 0
WordsAt no_word bytes = Each is_blank bytes
WordsAt (word w ws) bytes = (gap : List ℕ) × (first : List ℕ) × (after : List ℕ) × Run is_blank gap bytes first × WordAt w first after × WordsAt ws after

-- ---- commands (3.2.2, 3.4)

-- what stands behind the `=`, up to the end of the line
abbrev pub ValueAt : Value → List ℕ → Type 0
ValueAt no_value bytes = Each is_blank bytes
ValueAt (value w) bytes = (after : List ℕ) × WordAt w bytes after × Each is_blank after

-- `=` or `+=`
abbrev pub sign : Bool → List ℕ → List ℕ
sign false after = 61 ∷ after
sign true after = 43 ∷ 61 ∷ after

-- a command from its first byte to the end of the line
abbrev pub CommandAt : Command → List ℕ → Type 0
CommandAt (simple no_assign no_word) bytes = ⊥
CommandAt (simple no_assign (word w ws)) bytes = (after : List ℕ) × WordAt w bytes after × WordsAt ws after
CommandAt (simple (assign name append v no_assign) no_word) bytes = (after : List ℕ) × (starts begins_name bytes ≡ true) × Run continues_name name bytes (sign append after) × ValueAt v after
CommandAt (simple (assign name append v no_assign) (word w ws)) bytes = ⊥
CommandAt (simple (assign name append v (assign name' append' v' more)) ws) bytes = ⊥

-- ---- lines

-- blanks, or blanks and a comment (3.1.3)
abbrev pub IsIdle : List ℕ → Type 0
IsIdle line = (gap : List ℕ) × (rest : List ℕ) × Run is_blank gap line rest × ((rest ≡ []) ⊎ ((text : List ℕ) × (rest ≡ 35 ∷ text) × Each is_comment_byte text))

-- a command of a form that is taken, with blanks around it
abbrev pub IsCommandLine : Command → List ℕ → Type 0
IsCommandLine c line = (gap : List ℕ) × (first : List ℕ) × Run is_blank gap line first × CommandAt c first × (command_form c ≡ true)

-- each line is idle, or the next command
abbrev pub LinesAt : List (List ℕ) → Script → Type 0
LinesAt [] no_item = Unit {0}
LinesAt [] (item c more) = ⊥
LinesAt [] (background_item c more) = ⊥
LinesAt (l ∷ ls) s = (IsIdle l × LinesAt ls s) ⊎ ((c : Command) × (more : Script) × (s ≡ item (alone c) more) × IsCommandLine c l × LinesAt ls more)

-- THE GRAMMAR: the whole text spells this script, and each of its commands is of a form that is taken
abbrev pub Reads : List ℕ → Script → Type 0
Reads text s = LinesAt (slice_split is_newline text) s

-- no command of a form that is taken stands on the line, and something stands there
pub record IsBadLine (line : List ℕ) : Type 0 where
  pub no_idle : ¬ IsIdle line
  pub no_command : (c : Command) → ¬ IsCommandLine c line

-- how many bytes the lines take, each with its newline
abbrev pub total : List (List ℕ) → ℕ
total [] = 0
total (l ∷ ls) = length l + 1 + total ls

-- the place is that of the first byte that is no blank of the first line that isn't taken
pub record IsFirstBad (text : List ℕ) (place : ℕ) : Type 0 where
  pub before : List (List ℕ)
  pub line : List ℕ
  pub behind : List (List ℕ)
  pub lines : slice_split is_newline text ≡ before ++ line ∷ behind
  pub taken : (s : Script) × LinesAt before s
  pub bad : IsBadLine line
  pub gap : List ℕ
  pub first : List ℕ
  pub blanks : Run is_blank gap line first
  pub place-is : place ≡ total before + length gap

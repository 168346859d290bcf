-- Words as they are written: which stand for their own text, and which name something (3.1.2, 3.5).
use Rattle.std.specs.Prelude.{ℕ, Bool, true, false, ◌&&◌, ◌||◌, ◌==◌, List, [], ◌∷◌, Option, Some, None, option_map, if◌then◌else◌}
use Rattle.std.specs.List.{list_all}
use Rattle.span_text.specs.Names.{is_name}
use Rattle.span_text.specs.KnownNames.{same_text}
use Rattle.bash_profile.specs.Braces.{has_brace}
pub use Rattle.bash_profile.specs.Cells.{Cell, written, quoted, computed, bare, quoted_computed, part_cells, cells, parts_of_word, word_cells, is_written, has_written}
use Rattle.bash_grammar.specs.Bytes.{Text}
use Rattle.bash_grammar.specs.Tokens.{◌>>=◌}
use Rattle.bash_grammar.specs.Shape.{compound, no_part, part, Word, word, assign}

-- ---- patterns

abbrev pub without_not : List Cell → List Cell
without_not [] = []
without_not (x ∷ xs) = if is_written 33 x || is_written 94 x then xs else x ∷ xs

-- behind a `[`: whether a `]` closes it, behind one member at least (3.5.8.1)
abbrev pub closes : List Cell → Bool
closes [] = false
closes (x ∷ xs) = has_written 93 xs

-- `*`, `?`, or a `[` that is closed
abbrev pub has_pattern : List Cell → Bool
has_pattern [] = false
has_pattern (x ∷ xs) = is_written 42 x || is_written 63 x || (is_written 91 x && closes (without_not xs)) || has_pattern xs

-- ---- literal words

-- the bytes, where there is no expansion
abbrev pub bytes_of : List Cell → Option Text
bytes_of [] = Some []
bytes_of (written b ∷ xs) = option_map (λ text. b ∷ text) (bytes_of xs)
bytes_of (quoted b ∷ xs) = option_map (λ text. b ∷ text) (bytes_of xs)
bytes_of (computed ∷ xs) = None
bytes_of (bare from ∷ xs) = None
bytes_of (quoted_computed ∷ xs) = None

-- the bytes of a word without expansions
unfoldable pub written_text : Word → Option Text
written_text w = bytes_of (word_cells w)

-- the text of a word without expansions, patterns and braces
abbrev pub literal_of : List Cell → Option Text
literal_of xs = if has_pattern xs || has_brace xs then None else bytes_of xs

unfoldable pub literal_text : Word → Option Text
literal_text w = literal_of (word_cells w)

abbrev is_some_text : Text → Option Text → Bool
is_some_text text None = false
is_some_text text (Some other) = same_text text other

-- whether a word is this text and stands for it
abbrev pub is_literal : Text → Word → Bool
is_literal text w = is_some_text text (literal_text w)

-- ---- names that words are

abbrev pub if_name : Text → Option Text
if_name text = if is_name text then Some text else None

-- a word that is a name; no pattern and no brace is one
abbrev pub literal_name : Word → Option Text
literal_name w = written_text w >>= if_name

-- the unquoted bytes before this byte, where it follows them unquoted
abbrev pub before : ℕ → List Cell → Option Text
before c [] = None
before c (written b ∷ xs) = if b == c then Some [] else option_map (λ text. b ∷ text) (before c xs)
before c (x ∷ xs) = None

-- of `NAME=word`
abbrev pub assigned_name : Word → Option Text
assigned_name w = before 61 (word_cells w) >>= if_name

abbrev pub or_else : Option Text → Option Text → Option Text
or_else (Some text) o = Some text
or_else None o = o

-- the name that an operand of `declare` and its kin names: `NAME`, `NAME=word`, or `NAME=(items)` (4.2)
unfoldable pub operand_name : Word → Option Text
operand_name (word (part (compound (assign n i more v t)) s no_part) u) = Some n.text
operand_name w = or_else (assigned_name w) (literal_name w)

-- ---- members of lists as words of `unset` (4.1)

abbrev pub is_quoted : Cell → Bool
is_quoted (written b) = false
is_quoted (quoted b) = true
is_quoted computed = false
is_quoted (bare from) = false
is_quoted quoted_computed = true

-- the quoted bytes before this byte, where it follows them
abbrev pub quoted_before : ℕ → List Cell → Option Text
quoted_before c [] = None
quoted_before c (quoted b ∷ xs) = if b == c then Some [] else option_map (λ text. b ∷ text) (quoted_before c xs)
quoted_before c (x ∷ xs) = None

abbrev pub ends_quoted : ℕ → List Cell → Bool
ends_quoted c [] = false
ends_quoted c (quoted b ∷ []) = b == c
ends_quoted c (x ∷ xs) = ends_quoted c xs

-- the name of a wholly quoted `NAME[..]`
unfoldable pub member_name : Word → Option Text
member_name w = if list_all is_quoted (word_cells w) && ends_quoted 93 (word_cells w) then quoted_before 91 (word_cells w) >>= if_name else None

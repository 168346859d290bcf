-- What the refusals of one construct may ask of the whole script.
use Rattle.std.specs.Prelude.{ℕ, Bool, true, false, List, [], ◌∷◌, Option, Some, None}
use Rattle.bash_grammar.specs.Bytes.{Text}
use Rattle.bash_grammar.specs.Shape.{Script, Name, Word, word, Words, no_word, next_word}
use Rattle.bash_profile.specs.Kinds.{NameKind, scalar_kind, associative_kind, kind_in, is_function_in}
use Rattle.bash_profile.specs.Literals.{literal_text}

pub record Known : Type 0 where
  pub kind : Text → NameKind
  pub is_function : Text → Bool

-- what is known of a script
abbrev pub known_of : Script → Known
known_of s = record { kind = kind_in s; is_function = is_function_in s }

abbrev pub is_associative_kind : NameKind → Bool
is_associative_kind associative_kind = true
is_associative_kind k = false

abbrev pub is_array_kind : NameKind → Bool
is_array_kind scalar_kind = false
is_array_kind k = true

abbrev pub is_keyed : Known → Text → Bool
is_keyed k name = is_associative_kind (k.kind name)

abbrev pub is_array : Known → Text → Bool
is_array k name = is_array_kind (k.kind name)

-- the offset of a node's first byte
abbrev pub word_from : Word → ℕ
word_from (word ps s) = s.from

abbrev pub name_from : Name → ℕ
name_from n = n.span.from

-- the places of something that may be there
abbrev pub place_if : Bool → ℕ → List ℕ
place_if true at = at ∷ []
place_if false at = []

-- whether something is so, of a text that is known
abbrev pub holds_of : (Text → Bool) → Option Text → Bool
holds_of p None = false
holds_of p (Some text) = p text

-- the literal name of a command, and where it stands
abbrev pub command_name : Words → Option Text
command_name no_word = None
command_name (next_word w ws) = literal_text w

abbrev pub command_from : Words → ℕ
command_from no_word = 0
command_from (next_word w ws) = word_from w

abbrev pub arguments : Words → Words
arguments no_word = no_word
arguments (next_word w ws) = ws

abbrev pub has_words : Words → Bool
has_words no_word = false
has_words ws = true

abbrev pub list_of : Words → List Word
list_of no_word = []
list_of (next_word w ws) = w ∷ list_of ws

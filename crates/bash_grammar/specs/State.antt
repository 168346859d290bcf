-- Where reading is.
use Rattle.std.specs.Prelude.{ℕ, zero, suc, ◌+◌, ◌-◌, List, [], ◌∷◌, length}
use Rattle.span_text.specs.declared.span.Span.{Span}
use Rattle.bash_grammar.specs.Bytes.{Text}
use Rattle.bash_grammar.specs.Bodies.{Owed}

-- a body that came, with the number of its here-document, and the offset of each byte and of its end
pub record Found : Type 0 where
  pub number : ℕ
  pub text : Text
  pub offsets : List ℕ

-- what stands behind backquotes that are open, and the here-documents that are owed there
pub record Outer : Type 0 where
  pub bytes : Text
  pub owed : List Owed

-- What stands open and has to balance: an expression, a subscript, a pattern. The bytes where it begins; the spans of the
-- expansions in it, from there; and how many of its own brackets are open.
pub record Frame : Type 0 where
  pub bytes : Text
  pub operands : List Span
  pub level : ℕ

-- What the bytes are of: a whole text of so many bytes, or a body whose bytes and end have these offsets.
pub data Source : Type 0 where
  whole : ℕ → Source
  body_of : List ℕ → Source

-- The bytes ahead, up to the next backquote between backquotes; what stands behind those, from the innermost; the
-- here-documents whose bodies are still to come; how many were named; the bodies that came; how deep the nesting is; what
-- stands open, the innermost first; and what the bytes are of.
pub record State : Type 0 where
  pub bytes : Text
  pub outer : List Outer
  pub owed : List Owed
  pub named : ℕ
  pub found : List Found
  pub depth : ℕ
  pub frames : List Frame
  pub source : Source

abbrev pub start_of : Source → ℕ → Text → State
start_of source depth bytes = record { bytes = bytes; outer = []; owed = []; named = 0; found = []; depth = depth; frames = []; source = source }

-- before a text
abbrev pub start_at : Text → State
start_at text = start_of (whole (length text)) 0 text

-- before a body
abbrev pub start_in : ℕ → Found → State
start_in depth f = start_of (body_of f.offsets) depth f.text

abbrev pub move : State → Text → State
move s bytes = record s { bytes = bytes }

-- a piece begins here, with here-documents of its own
abbrev pub fresh : State → State
fresh s = start_of s.source 0 s.bytes

-- ---- offsets

-- how many bytes are behind backquotes that are open, with the backquotes
unfoldable pub behind_quotes : List Outer → ℕ
behind_quotes [] = 0
behind_quotes (o ∷ os) = suc (length o.bytes + behind_quotes os)

-- how many bytes are ahead in all
unfoldable pub ahead : State → ℕ
ahead s = length s.bytes + behind_quotes s.outer

abbrev pub nth : List ℕ → ℕ → ℕ
nth [] n = 0
nth (x ∷ xs) zero = x
nth (x ∷ xs) (suc n) = nth xs n

-- the offset of the byte at which so many are ahead
abbrev pub offset : Source → ℕ → ℕ
offset (whole n) ahead = n - ahead
offset (body_of offsets) ahead = nth offsets (length offsets - suc ahead)

-- the offset behind the last byte that was read, where so many are ahead
abbrev pub offset_behind : Source → ℕ → ℕ
offset_behind (whole n) ahead = n - ahead
offset_behind (body_of offsets) ahead = suc (nth offsets (length offsets - suc (suc ahead)))

-- the offset of these bytes, which are in front of what stands behind backquotes
unfoldable pub place_of : State → Text → ℕ
place_of s bytes = offset s.source (length bytes + behind_quotes s.outer)

unfoldable pub place_behind : State → Text → ℕ
place_behind s bytes = offset_behind s.source (length bytes + behind_quotes s.outer)

-- from the first of these bytes up to the others
abbrev pub span_at : State → Text → Text → Span
span_at s from to = record { from = place_of s from; to = place_behind s to }

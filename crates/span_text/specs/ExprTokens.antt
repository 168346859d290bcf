-- The tokens of an arithmetic expression's text (Bash manual, section 6.5).
use Rattle.std.specs.Prelude.{ℕ, ◌+◌, ◌-◌, ◌^◌, Bool, true, false, ◌&&◌, ◌||◌, ◌==◌, nat_lt, List, [], ◌∷◌, ◌++◌, Option, Some, None, if◌then◌else◌}
use Rattle.span_text.specs.declared.expr.BinOp.TheVariants.{Power, Times, Divide, Remainder, Add, Subtract, ShiftLeft, ShiftRight, Less, AtMost, Greater, AtLeast, Equal, Unequal, BitAnd, BitXor, BitOr}
use Rattle.span_text.specs.declared.sign.Infix.TheVariants.{Plain, And, Or, Comma}
use Rattle.span_text.specs.declared.sign.Sign.{Sign}
use Rattle.span_text.specs.declared.sign.Sign.TheVariants.{Between, Assign, Not, Complement, Increment, Decrement, Question, Colon, Open, Close, EndIndex}
use Rattle.span_text.specs.declared.span.Span.{Span}
use Rattle.span_text.specs.Constant.{unsigned_constant}
use Rattle.span_text.specs.Names.{is_name, continues_name}

-- What an expression is spelled with: a byte, or an expansion that stands as one operand, by its number from 0.
pub data Cell : Type 0 where
  byte : ℕ → Cell
  expansion : ℕ → Cell

-- The cell that begins with the byte b at an offset, if one does there: inside a span none begins.
abbrev pub cell_at : ℕ → ℕ → List Span → ℕ → List Cell
cell_at at number [] b = byte b ∷ []
cell_at at number (s ∷ ss) b = if nat_lt at s.from then byte b ∷ [] else (if at == s.from then expansion number ∷ [] else [])

-- the first span ends behind this offset
abbrev pub is_last : ℕ → List Span → Bool
is_last at [] = false
is_last at (s ∷ ss) = at + 1 == s.to

abbrev pub without_first : List Span → List Span
without_first [] = []
without_first (s ∷ ss) = ss

-- the cells of the bytes from an offset on, with the spans that have not ended before it, of which the first has this number
abbrev pub cells_from : ℕ → ℕ → List Span → List ℕ → List Cell
cells_from at number spans [] = []
cells_from at number spans (b ∷ bs) = cell_at at number spans b ++ (if is_last at spans then cells_from (at + 1) (number + 1) (without_first spans) bs else cells_from (at + 1) number spans bs)

-- the cells of a text whose expansions have these spans
abbrev pub cells_of : List ℕ → List Span → List Cell
cells_of text operands = cells_from 0 0 operands text

abbrev pub is_byte : ℕ → Cell → Bool
is_byte k (byte b) = b == k
is_byte k (expansion n) = false

-- The cells without the joins: each backslash with a newline right behind it. The Bool: a backslash stands before.
abbrev pub without_joins : Bool → List Cell → List Cell
without_joins false [] = []
without_joins true [] = byte 92 ∷ []
without_joins false (c ∷ cs) = if is_byte 92 c then without_joins true cs else c ∷ without_joins false cs
without_joins true (c ∷ cs) = if is_byte 10 c then without_joins false cs else byte 92 ∷ c ∷ without_joins false cs

pub data Token : Type 0 where
  number : ℕ → Token
  name : List ℕ → Token
  -- a name and the bracket right behind it
  indexed : List ℕ → Token
  operand : ℕ → Token
  sign : Sign → Token

-- the sign s where the byte b is k
abbrev on : ℕ → ℕ → Sign → Option Sign → Option Sign
on b k s other = if b == k then Some s else other

-- the sign of one byte
unfoldable pub sign_of : ℕ → Option Sign
sign_of b =
    on b 43 (Between (Plain Add)) (on b 45 (Between (Plain Subtract)) (on b 42 (Between (Plain Times))
    (on b 47 (Between (Plain Divide)) (on b 37 (Between (Plain Remainder)) (on b 60 (Between (Plain Less))
    (on b 62 (Between (Plain Greater)) (on b 38 (Between (Plain BitAnd)) (on b 94 (Between (Plain BitXor))
    (on b 124 (Between (Plain BitOr)) (on b 44 (Between Comma) (on b 61 (Assign None) (on b 33 Not (on b 126 Complement
    (on b 63 Question (on b 58 Colon (on b 40 Open (on b 41 Close (on b 93 EndIndex None))))))))))))))))))

-- the sign that a sign becomes with one byte more
unfoldable pub longer : Sign → ℕ → Option Sign
longer (Between (Plain Add)) b = on b 43 Increment (on b 61 (Assign (Some Add)) None)
longer (Between (Plain Subtract)) b = on b 45 Decrement (on b 61 (Assign (Some Subtract)) None)
longer (Between (Plain Times)) b = on b 42 (Between (Plain Power)) (on b 61 (Assign (Some Times)) None)
longer (Between (Plain Divide)) b = on b 61 (Assign (Some Divide)) None
longer (Between (Plain Remainder)) b = on b 61 (Assign (Some Remainder)) None
longer (Between (Plain Less)) b = on b 60 (Between (Plain ShiftLeft)) (on b 61 (Between (Plain AtMost)) None)
longer (Between (Plain Greater)) b = on b 62 (Between (Plain ShiftRight)) (on b 61 (Between (Plain AtLeast)) None)
longer (Between (Plain ShiftLeft)) b = on b 61 (Assign (Some ShiftLeft)) None
longer (Between (Plain ShiftRight)) b = on b 61 (Assign (Some ShiftRight)) None
longer (Between (Plain BitAnd)) b = on b 38 (Between And) (on b 61 (Assign (Some BitAnd)) None)
longer (Between (Plain BitXor)) b = on b 61 (Assign (Some BitXor)) None
longer (Between (Plain BitOr)) b = on b 124 (Between Or) (on b 61 (Assign (Some BitOr)) None)
longer (Assign None) b = on b 61 (Between (Plain Equal)) None
longer Not b = on b 61 (Between (Plain Unequal)) None
longer s b = None

-- What was begun and may become longer: blanks and newlines, a run of letters, digits and underscores, an operator; or a
-- token that nothing makes longer.
pub data Begun : Type 0 where
  gap : Begun
  word : List ℕ → Begun
  operator : Sign → Begun
  whole : Token → Begun

abbrev pub operator_if : Option Sign → Option Begun
operator_if None = None
operator_if (Some s) = Some (operator s)

-- a blank or a newline
unfoldable pub is_gap : ℕ → Bool
is_gap b = b == 32 || b == 9 || b == 10

abbrev pub begun : Cell → Option Begun
begun (expansion n) = Some (whole (operand n))
begun (byte b) = if is_gap b then Some gap else (if continues_name b then Some (word (b ∷ [])) else operator_if (sign_of b))

-- what was begun with one cell more, where that makes it longer
abbrev pub grown : Begun → Cell → Option Begun
grown gap c = None
grown (whole t) c = None
grown (word w) (expansion n) = None
grown (word w) (byte b) = if continues_name b then Some (word (w ++ b ∷ [])) else (if b == 91 && is_name w then Some (whole (indexed w)) else None)
grown (operator s) (expansion n) = None
grown (operator s) (byte b) = operator_if (longer s b)

-- the greatest constant
abbrev pub greatest : ℕ
greatest = 2 ^ 63 - 1

abbrev pub number_if : Option ℕ → Option (List Token)
number_if None = None
number_if (Some n) = Some (number n ∷ [])

abbrev pub finished : Begun → Option (List Token)
finished gap = Some []
finished (whole t) = Some (t ∷ [])
finished (operator s) = Some (sign s ∷ [])
finished (word w) = if is_name w then Some (name w ∷ []) else number_if (unsigned_constant greatest w)

infixr 5 ◌then◌
abbrev pub ◌then◌ : Option (List Token) → Option (List Token) → Option (List Token)
None then later = None
(Some ts) then None = None
(Some ts) then (Some us) = Some (ts ++ us)

abbrev pub if_begun : {A : Type 0} → Option Begun → (Begun → A) → A → A
if_begun None f other = other
if_begun (Some x) f other = f x

-- The tokens of cells without joins, behind what was begun, each as long as can be; or None, where they are none.
abbrev pub tokens : Begun → List Cell → Option (List Token)
tokens x [] = finished x
tokens x (c ∷ cs) = if_begun (grown x c) (λ y. tokens y cs) (finished x then if_begun (begun c) (λ y. tokens y cs) None)

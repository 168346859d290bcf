-- Arithmetic expressions (Bash manual, section 6.5): which of their bytes and operands spell one, which names it uses, and
-- where it assigns.
use Rattle.std.specs.Prelude.{ℕ, suc, ◌+◌, ◌-◌, Bool, true, false, ◌&&◌, ◌||◌, not, ◌==◌, List, [], ◌∷◌, ◌++◌, length, take, Option, Some, None, if◌then◌else◌}
use Rattle.span_text.specs.declared.expr.Expr.{Expr}
use Rattle.span_text.specs.declared.sign.Sign.TheVariants.{Assign, Increment, Decrement, EndIndex}
use Rattle.span_text.specs.declared.span.Span.{Span}
use Rattle.span_text.specs.Names.{is_digit}
use Rattle.span_text.specs.ExprTokens.{Cell, byte, expansion, cells_of, cell_at, is_last, without_first, is_byte, is_gap, Token, name, indexed, sign, Begun, gap, word, operator, whole, begun, grown, if_begun}
use Rattle.arith64.specs.Parsing.{◌>>=◌}
use Rattle.arith64.specs.Reader.{read_cells, read_end, at_start}
use Rattle.bash_grammar.specs.Shape.{Name}
use Rattle.bash_grammar.specs.Bytes.{Text, is_bare_dollar, quotes, level_behind}
use Rattle.bash_grammar.specs.State.{Frame}

-- ---- bytes

-- What ends an expression.
pub data Stretch : Type 0 where
  -- `)`: of `$((`, `((` and a parenthesis
  to_close : Stretch
  -- `;`, and `)`: the first two of `for ((a; b; c))`
  to_semi : Stretch
  -- a `:` that no `?` is open for, or `}`: the first of `${a:b:c}`
  to_colon : Stretch
  -- `}`
  to_brace : Stretch

abbrev pub ends_stretch : Stretch → ℕ → ℕ → Bool
ends_stretch to_close level b = b == 41
ends_stretch to_semi level b = b == 41 || b == 59
ends_stretch to_colon level b = b == 125 || (b == 58 && level == 0)
ends_stretch to_brace level b = b == 125

-- the bytes at the front belong to the expression
abbrev pub stretches : Stretch → ℕ → Text → Bool
stretches s level [] = false
stretches s level (b ∷ bs) = not (ends_stretch s level b)

-- neither a parenthesis that opens nor a `$` that begins an expansion
abbrev pub is_sum_byte : ℕ → Text → Bool
is_sum_byte b bs = not (b == 40 || b == 36) || (b == 36 && is_bare_dollar quotes bs)

-- `?` and its `:` count
abbrev pub stretch_level : Stretch → ℕ → ℕ → ℕ
stretch_level to_colon b level = level_behind 63 58 b level
stretch_level s b level = level

-- what follows the bytes up to the end, a parenthesis or an expansion, joins among them; and how many `?` are open
abbrev pub stretch_from : Stretch → ℕ → Text → Text × ℕ
stretch_from s level [] = ([], level)
stretch_from s level (b ∷ bs) = if is_sum_byte b bs && not (ends_stretch s level b) then stretch_from s (stretch_level s b level) bs else (b ∷ bs, level)

unfoldable pub stretch_run : Stretch → ℕ → Text → Text × ℕ
stretch_run s level bytes = stretch_from s level bytes

-- ---- the innermost that stands open

abbrev pub open_frame : Text → List Frame → List Frame
open_frame bytes fs = record { bytes = bytes; operands = []; level = 0 } ∷ fs

abbrev pub close_frame : List Frame → List Frame
close_frame [] = []
close_frame (f ∷ fs) = fs

abbrev pub level_of : List Frame → ℕ
level_of [] = 0
level_of (f ∷ fs) = f.level

abbrev pub with_level : ℕ → List Frame → List Frame
with_level level [] = []
with_level level (f ∷ fs) = record f { level = level } ∷ fs

abbrev pub begin_operand : Text → List Frame → List Frame
begin_operand now [] = []
begin_operand now (f ∷ fs) = record f { operands = f.operands ++ record { from = length f.bytes - length now; to = 0 } ∷ [] } ∷ fs

abbrev pub end_last : ℕ → List Span → List Span
end_last to [] = []
end_last to (x ∷ []) = record x { to = to } ∷ []
end_last to (x ∷ y ∷ zs) = x ∷ end_last to (y ∷ zs)

abbrev pub end_operand : Text → List Frame → List Frame
end_operand now [] = []
end_operand now (f ∷ fs) = record f { operands = end_last (length f.bytes - length now) f.operands } ∷ fs

-- ---- cells with their offsets

pub record Placed : Type 0 where
  pub cell : Cell
  pub from : ℕ
  pub to : ℕ

-- an expansion ends where its span does
abbrev pub end_of : ℕ → List Span → List Cell → ℕ
end_of at [] cs = suc at
end_of at (s ∷ ss) cs = if at == s.from then s.to else suc at

abbrev pub placed : ℕ → ℕ → List Cell → List Placed
placed from to [] = []
placed from to (c ∷ cs) = record { cell = c; from = from; to = to } ∷ []

abbrev pub placed_from : ℕ → ℕ → List Span → Text → List Placed
placed_from at number spans [] = []
placed_from at number spans (b ∷ bs) = placed at (end_of at spans []) (cell_at at number spans b)
    ++ (if is_last at spans then placed_from (at + 1) (number + 1) (without_first spans) bs else placed_from (at + 1) number spans bs)

-- ---- the expression

-- an expression, or the offset at which none goes on
pub data Outcome : Type 0 where
  spelled : Expr → Outcome
  spoiled : ℕ → Outcome

abbrev pub is_none : {A : Type 0} → Option A → Bool
is_none None = true
is_none (Some x) = false

-- The offset of the first byte with which no expression begins, behind those before it; or of the end. As in `cells_from`,
-- there is the number of the first span, and the spans that have not ended; and there are the cells so far.
abbrev pub spoiled_from : ℕ → ℕ → List Span → List Cell → Text → ℕ
spoiled_from at number spans before [] = at
spoiled_from at number spans before (b ∷ bs) = if is_none (read_cells at_start (before ++ cell_at at number spans b)) then at
    else (if is_last at spans then spoiled_from (at + 1) (number + 1) (without_first spans) (before ++ cell_at at number spans b) bs else spoiled_from (at + 1) number spans (before ++ cell_at at number spans b) bs)

abbrev pub expression : List Cell → Option Expr
expression cells = read_cells at_start cells >>= read_end

abbrev pub or_spoiled : Option Expr → ℕ → Outcome
or_spoiled (Some e) at = spelled e
or_spoiled None at = spoiled at

-- The expression of the text, whose expansions have these spans, or the place where it goes wrong
unfoldable pub outcome : Text → List Span → Outcome
outcome text operands = or_spoiled (expression (cells_of text operands)) (spoiled_from 0 0 operands [] text)

-- ---- its tokens and their spans

-- the cells without the joins
abbrev pub joined_up : Bool → List Placed → List Placed
joined_up taken [] = []
joined_up true (p ∷ ps) = joined_up false ps
joined_up false (p ∷ []) = p ∷ []
joined_up false (p ∷ q ∷ qs) = if is_byte 92 p.cell && is_byte 10 q.cell then joined_up true (q ∷ qs) else p ∷ joined_up false (q ∷ qs)

pub record Marked : Type 0 where
  pub token : Token
  pub span : Span

-- what was begun, with its span
abbrev pub marked : Begun → Span → List Marked
marked gap s = []
marked (whole t) s = record { token = t; span = s } ∷ []
marked (operator o) s = record { token = sign o; span = s } ∷ []
marked (word w) s = record { token = name w; span = s } ∷ []

-- the bracket behind a name isn't of the name
abbrev pub grown_span : Begun → Span → ℕ → Span
grown_span (whole t) s to = s
grown_span x s to = record s { to = to }

abbrev pub marks_from : Begun → Span → List Placed → List Marked
marks_from x s [] = marked x s
marks_from x s (p ∷ ps) = if_begun (grown x p.cell) (λ y. marks_from y (grown_span y s p.to) ps)
    (marked x s ++ if_begun (begun p.cell) (λ y. marks_from y (record { from = p.from; to = p.to }) ps) [])

unfoldable pub marks : Text → List Span → List Marked
marks text operands = marks_from gap (record { from = 0; to = 0 }) (joined_up false (placed_from 0 0 operands text))

abbrev pub is_digits : List ℕ → Bool
is_digits [] = true
is_digits (b ∷ bs) = is_digit b

-- what begins with a digit is a number
abbrev pub with_name : Token → Span → List Name → List Name
with_name (name w) s names = if is_digits w then names else record { text = w; span = s } ∷ names
with_name (indexed w) s names = record { text = w; span = s } ∷ names
with_name t s names = names

-- the names, in their order
abbrev pub names_of : List Marked → List Name
names_of [] = []
names_of (m ∷ ms) = with_name m.token m.span (names_of ms)

-- where the innermost index that is open begins
abbrev pub innermost : List ℕ → ℕ
innermost [] = 0
innermost (n ∷ ns) = n

abbrev pub without_innermost : List ℕ → List ℕ
without_innermost [] = []
without_innermost (n ∷ ns) = ns

-- what a token adds to the effects, and what is before the next one
abbrev pub with_effect : Token → Span → ℕ → List ℕ → (ℕ → List ℕ → List Span) → List Span
with_effect (name w) s target indexes further = further s.from indexes
with_effect (indexed w) s target indexes further = further target (s.from ∷ indexes)
with_effect (sign EndIndex) s target indexes further = further (innermost indexes) (without_innermost indexes)
with_effect (sign Increment) s target indexes further = s ∷ further target indexes
with_effect (sign Decrement) s target indexes further = s ∷ further target indexes
with_effect (sign (Assign o)) s target indexes further = record { from = target; to = s.to } ∷ further target indexes
with_effect t s target indexes further = further target indexes

-- The spans of `++` and `--`, and of assignments, each from its target to the end of its operator. The ℕ: where the variable
-- before begins; and the list: where those begin whose index is open.
abbrev pub effects_from : ℕ → List ℕ → List Marked → List Span
effects_from target indexes [] = []
effects_from target indexes (m ∷ ms) = with_effect m.token m.span target indexes (λ t is. effects_from t is ms)

-- ---- the frame's text

-- its bytes up to here
abbrev pub framed : Frame → Text → Text
framed f now = take (length f.bytes - length now) f.bytes

abbrev pub is_gap_cell : Cell → Bool
is_gap_cell (byte b) = is_gap b
is_gap_cell (expansion n) = false

-- nothing but blanks, newlines and joins
abbrev pub is_idle : List Placed → Bool
is_idle [] = true
is_idle (p ∷ ps) = is_gap_cell p.cell && is_idle ps
